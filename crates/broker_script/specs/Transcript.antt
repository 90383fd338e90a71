-- The lines of a broker that follows a script.
use Rattle.std.specs.Prelude.{◌≡◌, ℕ, zero, suc, false, List, [], ◌∷◌, ◌++◌, Option, Some, None, Result, Ok, Err, OnErr, OnOk, length, slice_get, if◌then◌else◌}
use Rattle.words.specs.declared.call.Client.{Client}
use Rattle.words.specs.declared.refusal.Refusal.{Refusal}
use Rattle.words.specs.declared.refusal.Refusal.TheVariants.{NotReady}
use Rattle.persist.specs.Memory.{words_after_eviction}
use Rattle.arena.specs.Broker.{broker_size}
use Rattle.arena.specs.Shape.{Counts}
use Rattle.arena.specs.declared.broker.SlotId.{SlotId}
use Rattle.directory.specs.Directory.{Directory}
use Rattle.directory.specs.declared.limits.TheConstants.{CREATION_STEPS}
use Rattle.directory.specs.declared.queue.Queue.{Queue}
use Rattle.grammar.specs.declared.commands.Command.{Command}
use Rattle.grammar.specs.declared.commands.Command.TheVariants.{Evict, Crash, Recover, RecoverBy, Again}
use Rattle.named.specs.Blocks.{IsSameWords}
use Rattle.named.specs.Finding.{IsPlaced}
use Rattle.named.specs.Brokers.{Brokered, IsNew, is_down, world_at}
use Rattle.named.specs.Evicting.{evict_result, world_evicted}
use Rattle.named.specs.GoingOn.{BrokerGoesOn}
use Rattle.named.specs.Rotating.{IsRotated, rotate_result}
use Rattle.named.specs.Slots.{acted}
use Rattle.named.specs.Stopping.{IsStopped}
use Rattle.session.specs.Keeping.{AreKeptAsHeard, SessionGoesOn}
use Rattle.session.specs.Sessions.{Sessioned}
use Rattle.playing.specs.Transcript.{evict_line}
use Rattle.playing.specs.declared.lines.Line.{Line}
use Rattle.playing.specs.declared.lines.Line.TheVariants.{Size, Refused, Crash as crash_line}
use Rattle.broker_lines.specs.Grammar.{counts_by}
use Rattle.broker_lines.specs.Lines.{no_memory}
use Rattle.broker_lines.specs.Prints.{text_of}
use Rattle.broker_lines.specs.declared.printed.Printed.{Printed}
use Rattle.broker_lines.specs.declared.printed.Printed.TheVariants.{Whole, Of, Queues, Place, Rotated}
use Rattle.broker_lines.specs.declared.statements.BrokerLine.{BrokerLine}
use Rattle.broker_lines.specs.declared.statements.Statement.{Statement}
use Rattle.broker_lines.specs.declared.statements.Statement.TheVariants.{Create, BeginCreation, CreateStep, CreateSteps, Find, List as list_queues, Rotate, Renew, Image, SetWord, Boot, Whole as whole, On, Told, Asks}
use Rattle.broker_script.specs.Asking.{FollowsAsk}
use Rattle.broker_script.specs.Creating.{BeginsCreation, Creates}
use Rattle.broker_script.specs.Imaging.{Boots, Images, SetsWord}
use Rattle.broker_script.specs.OnQueue.{found_line, FollowsOn, IsToldLine}
use Rattle.broker_script.specs.Play.{Played, new_played, session_of}
use Rattle.broker_script.specs.PutOff.{IsPutOff}
use Rattle.broker_script.specs.Recovering.{Recovers, RecoversBy}
use Rattle.broker_script.specs.Renewing.{Renews}

-- the queues, in slot order
abbrev pub place_lines : ℕ → Option (Option Queue) → List Printed
place_lines slot (Some (Some queue)) = Place (record { 0 = slot }) queue ∷ []
place_lines slot (Some None) = []
place_lines slot None = []

-- of the slots below this one
abbrev pub places_below : Directory → ℕ → List Printed
places_below places zero = []
places_below places (suc slot) = places_below places slot ++ place_lines slot (slice_get places slot)

abbrev pub places_of : Directory → List Printed
places_of places = places_below places (length places)

-- how many there are, and each of them; while recovery is under way that is refused
abbrev pub list_lines : Brokered → List Printed
list_lines b =
    if is_down b then Whole (Refused NotReady) ∷ []
    else (Queues (length (places_of b.directory)) ∷ places_of b.directory)

-- a queue was looked for
pub record Finds (old : Played) (name : List ℕ) (lines : List Printed) (new : Played) : Type 0 where
  pub place : Result SlotId Refusal
  pub placed : IsPlaced old.broker name place
  pub line : lines ≡ found_line name place ∷ []
  pub same : new ≡ old

-- a client's last telling was looked at
pub record Tells (old : Played) (name : List ℕ) (client : Client) (lines : List Printed) (new : Played) : Type 0 where
  pub told : Line
  pub is_told : IsToldLine old.broker name client told
  pub line : lines ≡ Of name told ∷ []
  pub same : new ≡ old

-- the histories of all queues ended, and others began; or that was refused
abbrev pub rotate_line : Result Unit Refusal → Printed
rotate_line (Ok u) = Rotated
rotate_line (Err refusal) = Whole (Refused refusal)

pub record Rotates (old : Played) (lines : List Printed) (new : Played) : Type 0 where
  pub line : lines ≡ rotate_line (rotate_result false old.broker) ∷ []
  pub rotated : OnOk (rotate_result false old.broker) (IsRotated old.broker new.broker)
  pub same : OnErr (rotate_result false old.broker) (new.broker ≡ old.broker)
  pub others : new ≡ record old { broker = new.broker }

-- a word was evicted
pub record Evicts (old : Played) (word : ℕ) (lines : List Printed) (new : Played) : Type 0 where
  pub line : lines ≡ Whole (evict_line word (evict_result old.broker word)) ∷ []
  pub words : IsSameWords (words_after_eviction word old.broker.words) new.broker.words
  pub worlds : (slot : ℕ) → world_at new.broker slot
      ≡ acted (world_evicted old.broker.counts slot word) (world_at old.broker slot)
  pub settled : SessionGoesOn (session_of old) (session_of new)
  pub others : new ≡ record old {
    broker = record old.broker { words = new.broker.words; slots = new.broker.slots };
  }

-- the whole system stopped
pub record Crashes (old : Played) (lines : List Printed) (new : Played) : Type 0 where
  pub line : lines ≡ Whole crash_line ∷ []
  pub stopped : IsStopped old.broker new.broker
  pub goes_on : BrokerGoesOn old.broker new.broker
  pub settled : SessionGoesOn (session_of old) (session_of new)
  pub others : new ≡ record old { broker = new.broker; recovery = 0 }

-- nothing was given, and nothing changed
abbrev pub Nothing : Played → List Printed → Played → Type 0
Nothing old lines new = (lines ≡ []) × (new ≡ old)

-- a line about the whole memory; the others say nothing here, nor does `again` after a line that was followed
abbrev pub FollowsWhole : Played → Command → List Printed → Played → Type 0
FollowsWhole old (Evict word) lines new = Evicts old word lines new
FollowsWhole old Crash lines new = Crashes old lines new
FollowsWhole old Recover lines new = Recovers old lines new
FollowsWhole old (RecoverBy most) lines new = RecoversBy most old lines new
FollowsWhole old _ lines new = Nothing old lines new

-- any line: what it gives, and what it leaves
abbrev pub FollowsLine : Played → Statement → List Printed → Played → Type 0
FollowsLine old (Create name kind) lines new = BeginsCreation old name kind CREATION_STEPS lines new
FollowsLine old (BeginCreation name kind most) lines new = BeginsCreation old name kind most lines new
FollowsLine old CreateStep lines new = Creates 1 old lines new
FollowsLine old (CreateSteps most) lines new = Creates most old lines new
FollowsLine old (Find name) lines new = Finds old name lines new
FollowsLine old list_queues lines new = (lines ≡ list_lines old.broker) × (new ≡ old)
FollowsLine old Rotate lines new = Rotates old lines new
FollowsLine old (Renew name) lines new = Renews old name lines new
FollowsLine old Image lines new = Images old lines new
FollowsLine old (SetWord word value) lines new = SetsWord old word value lines new
FollowsLine old Boot lines new = Boots old lines new
FollowsLine old (whole command) lines new = FollowsWhole old command lines new
FollowsLine old (On name command) lines new = FollowsOn old name command lines new
FollowsLine old (Told name client) lines new = Tells old name client lines new
FollowsLine old (Asks name ask) lines new = FollowsAsk old name ask lines new

-- this line was followed, and what it gave was added
abbrev pub AddsGiven : Statement → Played → List Printed → List Printed → Played → Type 0
AddsGiven statement old before after new =
    (given : List Printed) × FollowsLine old statement given new × (after ≡ before ++ given)

-- some lines, one after the other. Where one was put off for want of memory, and `again` comes after it, a line says
-- so, and it is made again
pub data FollowsAll : Played → List Statement → List Printed → Type 0 where
  none : {old : Played} → FollowsAll old [] []
  more : {old : Played} {statement : Statement} {statements : List Statement} (next : Played)
      (first rest : List Printed) (line : FollowsLine old statement first next)
      (lines : FollowsAll next statements rest) → FollowsAll old (statement ∷ statements) (first ++ rest)
  made_again : {old : Played} {statement : Statement} {statements : List Statement} (next : Played)
      (rest : List Printed) (put_off : IsPutOff old next) (lines : FollowsAll next (statement ∷ statements) rest)
      → FollowsAll old (statement ∷ whole Again ∷ statements) (no_memory ∷ rest)

-- the lines of a script that is followed so: the size of a new broker's memory, and what the lines on a session over it
-- give; none where there is no broker
pub record IsPlayedBy (follows : Played → List Statement → List Printed → Type 0) (counts : Counts)
    (statements : List Statement) (lines : List Printed) : Type 0 where
  pub session : Sessioned
  pub made : IsNew counts session.broker
  pub kept : AreKeptAsHeard session.broker session.kept
  pub given : List Printed
  pub followed : follows (new_played session) statements given
  pub gives : lines ≡ Whole (Size (broker_size counts)) ∷ given

abbrev pub IsPlayedOn : Counts → List Statement → List Printed → Type 0
IsPlayedOn counts statements lines = IsPlayedBy FollowsAll counts statements lines

abbrev pub AreLinesOf : Option BrokerLine → List Statement → List Printed → Type 0
AreLinesOf None statements lines = lines ≡ []
AreLinesOf (Some broker) statements lines =
    IsPlayedOn (counts_by broker) statements lines

-- its transcript
pub record IsTranscript (broker : Option BrokerLine) (statements : List Statement) (text : List ℕ) : Type 0 where
  pub lines : List Printed
  pub given : AreLinesOf broker statements lines
  pub is : text ≡ text_of lines

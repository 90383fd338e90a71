-- Lines on one queue: what they come to is what they come to on that queue alone.
use Rattle.std.specs.Prelude.{◌≡◌, ◌≢◌, ◌&&◌, not, ℕ, Bool, false, List, [], ◌∷◌, Option, Some, None, Result, Ok, Err, slice_get, slice_index, MatchBool}
use Rattle.words.specs.declared.call.Call.{Call}
use Rattle.words.specs.declared.call.Client.{Client}
use Rattle.words.specs.declared.call.Kind.{Kind}
use Rattle.words.specs.declared.call.Reply.{Reply}
use Rattle.words.specs.declared.refusal.Refusal.{Refusal}
use Rattle.words.specs.declared.refusal.Refusal.TheVariants.{NoMemory, WrongKind}
use Rattle.words.specs.declared.told.Told.{Told}
use Rattle.arena.specs.declared.broker.SlotId.{SlotId}
use Rattle.interleave.specs.Queue.{told_in, told_to}
use Rattle.interleave.specs.State.{step_result}
use Rattle.grammar.specs.Grammar.{is_on}
use Rattle.grammar.specs.declared.commands.Command.{Command}
use Rattle.named.specs.Acting.{IsSameBeside}
use Rattle.named.specs.Brokers.{Brokered, answer_at}
use Rattle.named.specs.Finding.{IsPlaced}
use Rattle.playing.specs.Play.{Play, after_command, play_after_start}
use Rattle.playing.specs.Steps.{count_after}
use Rattle.playing.specs.Transcript.{command_lines}
use Rattle.playing.specs.declared.lines.Line.{Line}
use Rattle.playing.specs.declared.lines.Line.TheVariants.{Refused, Return, Told as told_line}
use Rattle.broker_lines.specs.Grammar.{is_whole}
use Rattle.broker_lines.specs.Lines.{of_queue}
use Rattle.broker_lines.specs.declared.printed.Printed.{Printed}
use Rattle.broker_lines.specs.declared.printed.Printed.TheVariants.{Whole, Of, Found}
use Rattle.broker_script.specs.Play.{Played, play_at, the_world}

-- its slot as a line
abbrev pub found_line : List ℕ → Result SlotId Refusal → Printed
found_line name (Ok slot) = Found name slot
found_line name (Err refusal) = Whole (Refused refusal)

-- but for the queue in this slot nothing changed
pub record IsOnlyIn (slot : ℕ) (old new : Played) : Type 0 where
  pub beside : IsSameBeside slot old.broker new.broker
  pub steps : (other : ℕ) → other ≢ slot → slice_get new.steps other ≡ slice_get old.steps other
  pub creation : new.creation ≡ old.creation
  pub recovery : new.recovery ≡ old.recovery
  pub image : new.image ≡ old.image

-- a client's call began on the queue in a slot, or was refused: it left there what a start leaves on that queue alone
abbrev pub IsLeftByStartIn : Played → ℕ → Client → ℕ → Call → Played → Type 0
IsLeftByStartIn old slot client number call new =
    play_at new slot ≡ play_after_start (play_at old slot) client number call

-- why a step of a client's call on the queue in a slot was refused, but for want of memory
abbrev pub IsWhyNoStep : Played → ℕ → Client → Refusal → Type 0
IsWhyNoStep p slot client refusal =
    refusal ≢ NoMemory → step_result false (the_world p.broker slot) client ≡ Err refusal

-- a line was followed on the queue in a slot: it gave and left there what it gives and leaves on that queue alone
pub record IsFollowedIn (old : Played) (slot : ℕ) (command : Command) (lines : List Line) (new : Played) : Type 0 where
  pub gives : lines ≡ command_lines (play_at old slot) command
  pub play : play_at new slot ≡ after_command (play_at old slot) command
  pub only : IsOnlyIn slot old new

-- a queue of this kind has such a line
abbrev pub has_line : Kind → Command → Bool
has_line kind command = is_on kind command && not (is_whole command)

-- a queue's line was refused, and nothing changed
pub record IsRefusedOn (old : Played) (name : List ℕ) (refusal : Refusal) (lines : List Printed) (new : Played)
    : Type 0 where
  pub line : lines ≡ Of name (Refused refusal) ∷ []
  pub same : new ≡ old

-- a line on the queue of this name, once it was looked for
pub record Follows (old : Played) (slot : SlotId) (name : List ℕ) (command : Command) (lines : List Printed)
    (new : Played) : Type 0 where
  pub given : List Line
  pub gives : lines ≡ of_queue name given
  pub followed : IsFollowedIn old slot.0 command given new

abbrev pub FollowsPlaced : Played → List ℕ → Command → List Printed → Played → Result SlotId Refusal → Type 0
FollowsPlaced old name command lines new (Err refusal) = IsRefusedOn old name refusal lines new
FollowsPlaced old name command lines new (Ok slot) =
    MatchBool (has_line (the_world old.broker slot.0).shape.kind command)
    (Follows old slot name command lines new) (IsRefusedOn old name WrongKind lines new)

pub record FollowsOn (old : Played) (name : List ℕ) (command : Command) (lines : List Printed) (new : Played)
    : Type 0 where
  pub place : Result SlotId Refusal
  pub placed : IsPlaced old.broker name place
  pub followed : FollowsPlaced old name command lines new place

-- what a client was told last
abbrev pub told_answer : Client → Result Told Refusal → Line
told_answer client (Ok told) = told_line client told
told_answer client (Err refusal) = Refused refusal

abbrev pub told_by : Brokered → Client → Result SlotId Refusal → Line
told_by b client (Ok slot) =
    told_answer client (answer_at (λ w. Ok (told_to (told_in w.queue) client)) b slot.0 client)
told_by b client (Err refusal) = Refused refusal

pub record IsToldLine (b : Brokered) (name : List ℕ) (client : Client) (line : Line) : Type 0 where
  pub place : Result SlotId Refusal
  pub placed : IsPlaced b name place
  pub is : line ≡ told_by b client place

-- the line of a step's answer, if the call is answered by it
abbrev pub answer_line : Client → ℕ → Option Reply → Option Line
answer_line client steps None = None
answer_line client steps (Some reply) = Some (Return client reply steps)

-- a step was made on the queue, and this is the line of its answer
pub record IsAnsweredBy (play : Play) (client : Client) (line : Option Line) : Type 0 where
  pub answer : Option Reply
  pub answered : step_result false play.world client ≡ Ok answer
  pub is : line ≡ answer_line client (count_after 1 (slice_index play.steps.calls client.0)) answer

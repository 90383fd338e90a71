-- The lines of a world that follows a script.
use Rattle.std.specs.Prelude.{◌≡◌, ◌≢◌, ◌<◌, ◌≤◌, ℕ, All, false, zero, suc, List, [], ◌∷◌, ◌++◌, Option, Some, None, is_some, Result, Ok, Err, length, slice_get, slice_index}
use Rattle.std.specs.List.{flat_map}
use Rattle.words.specs.declared.call.Call.{Call}
use Rattle.words.specs.declared.call.Call.TheVariants.{Enq as enq_call, Deq as deq_call}
use Rattle.words.specs.declared.call.Client.{Client}
use Rattle.words.specs.declared.call.Reply.{Reply}
use Rattle.words.specs.declared.refusal.Refusal.{Refusal}
use Rattle.words.specs.declared.refusal.Refusal.TheVariants.{NoMemory}
use Rattle.words.specs.declared.told.Told.{Told}
use Rattle.persist.specs.declared.access.Change.{Change}
use Rattle.arena.specs.Layout.{size_of}
use Rattle.arena.specs.Shape.{Shape}
use Rattle.events.specs.declared.event.Entry.{Entry}
use Rattle.events.specs.declared.event.Event.{Event}
use Rattle.events.specs.declared.event.Event.TheVariants.{Call as call_event, Return as return_event, Crash as crash_event, Ready as ready_event}
use Rattle.interleave.specs.Queue.{told_in, told_to}
use Rattle.interleave.specs.State.{State, start_result, step_result, evict_result, recover_result, steps_to_ready, order_in, kept_content}
use Rattle.grammar.specs.Grammar.{shape_by}
use Rattle.playing.specs.Play.{Play, play_after_step, play_after_recovery_step, recover_then, most_alone, most_recovery, after_command, new_play}
use Rattle.playing.specs.Prints.{text_of}
use Rattle.playing.specs.Steps.{count_after}
use Rattle.grammar.specs.declared.commands.Command.{Command}
use Rattle.grammar.specs.declared.commands.Command.TheVariants.{Enq, NumberedEnq, Deq, NumberedDeq, Step, End, Evict, Crash, Recover, RecoverBy, Content, Order, Again}
use Rattle.grammar.specs.declared.commands.QueueLine.{QueueLine}
use Rattle.playing.specs.declared.entries.Ordered.{Ordered}
use Rattle.playing.specs.declared.lines.Line.{Line}
use Rattle.playing.specs.declared.lines.Line.TheVariants.{Size as size_line, Call as call_line, Return as return_line, Refused as refused_line, Evicted as evicted_line, Crash as crash_line, Recovering as recovering_line, Ready as ready_line, Told as told_line, Content as content_line, Order as order_line, Entry as entry_line}

-- a start gives its line, or why it was refused
abbrev pub start_line : Command → Result Unit Refusal → Line
start_line command (Ok u) = call_line command
start_line command (Err refusal) = refused_line refusal

abbrev pub start_lines : Play → Command → Client → ℕ → Call → List Line
start_lines play command client number call =
    start_line command (start_result false play.world client number call) ∷ []

-- up to so many steps of a client's call give the answer of the one that answers, or why one was refused
abbrev pub lines_then : Client → ℕ → Result (Option Reply) Refusal → List Line → List Line
lines_then client steps (Ok None) going = going
lines_then client steps (Ok (Some reply)) going = return_line client reply steps ∷ []
lines_then client steps (Err refusal) going = refused_line refusal ∷ []

abbrev pub step_lines : Client → ℕ → Play → List Line
step_lines client zero play = []
step_lines client (suc most) play =
    lines_then client (count_after 1 (slice_index play.steps.calls client.0)) (step_result false play.world client)
    (step_lines client most (play_after_step play client))

-- an eviction gives whether the kept value changed
abbrev pub evict_line : ℕ → Result (Option Change) Refusal → Line
evict_line word (Ok change) = evicted_line word (is_some change)
evict_line word (Err refusal) = refused_line refusal

-- what each client below a number is told
abbrev pub told_at : State → ℕ → Told
told_at w client = told_to (told_in w.queue) (record { 0 = client })

abbrev pub told_lines : (ℕ → Told) → ℕ → List Line
told_lines told zero = []
told_lines told (suc clients) = told_lines told clients ++ told_line (record { 0 = clients }) (told clients) ∷ []

-- a ready queue gives how many steps there were since the crash, and what each client is told
abbrev pub ready_lines : Play → List Line
ready_lines play = ready_line play.steps.recovery ∷ told_lines (told_at play.world) play.world.shape.clients

-- up to so many steps of recovery give that the queue is ready, or that it is not, or why one was refused
abbrev pub recovery_lines : ℕ → Play → List Line
recovery_lines zero play = recovering_line ∷ []
recovery_lines (suc most) play =
    recover_then (recover_result false play.world)
    (recovery_lines most (play_after_recovery_step play)) (ready_lines (play_after_recovery_step play))
    (λ refusal. refused_line refusal ∷ [])

-- recovery ends at its next step, however many more it was to make, and the lines of that are added
abbrev pub AddsLastLines : Play → List Line → List Line → Type 0
AddsLastLines play before after = (more : ℕ) → after ≡ before ++ recovery_lines (suc more) play

-- recovery goes on after a step: the queue is not ready yet, but nearer to it, and there is no line
pub record GoesOnRecovering (old new : Play) (before after : List Line) : Type 0 where
  pub goes_on : recover_result false old.world ≡ Ok false
  pub same_lines : after ≡ before
  pub next : new ≡ play_after_recovery_step old
  pub few : steps_to_ready old.world ≤ most_recovery old.world
  pub falls : steps_to_ready new.world < steps_to_ready old.world
  pub needs : 0 < steps_to_ready new.world

-- the call that an event begins, with this reply
abbrev pub call_in_order : Option Event → Reply → Option Ordered
call_in_order (Some (call_event client number call)) reply =
    Some (record { client = client; number = number; call = call; reply = reply })
call_in_order (Some (return_event client answer)) reply = None
call_in_order (Some crash_event) reply = None
call_in_order (Some (ready_event told)) reply = None
call_in_order None reply = None

abbrev pub call_in_order_at : List Event → Entry → Option Ordered
call_in_order_at events entry = call_in_order (slice_get events entry.place) entry.reply

abbrev pub ordered_lines : Option Ordered → List Line
ordered_lines (Some o) = entry_line o ∷ []
ordered_lines None = []

abbrev pub entry_lines : List Event → Entry → List Line
entry_lines events entry = ordered_lines (call_in_order_at events entry)

-- how many calls took effect, and each of them in its place
abbrev pub order_lines : List Event → List Entry → List Line
order_lines events entries = order_line (length entries) ∷ flat_map (entry_lines events) entries

-- what a command gives
abbrev pub command_lines : Play → Command → List Line
command_lines play (Enq client value) = start_lines play (Enq client value) client 0 (enq_call value)
command_lines play (NumberedEnq client number value) =
    start_lines play (NumberedEnq client number value) client number (enq_call value)
command_lines play (Deq client) = start_lines play (Deq client) client 0 deq_call
command_lines play (NumberedDeq client number) = start_lines play (NumberedDeq client number) client number deq_call
command_lines play (Step client most) = step_lines client most play
command_lines play (End client) = step_lines client most_alone play
command_lines play (Evict word) = evict_line word (evict_result play.world word) ∷ []
command_lines play Crash = crash_line ∷ []
command_lines play Recover = recovery_lines (most_recovery play.world) play
command_lines play (RecoverBy most) = recovery_lines most play
command_lines play Content = content_line (kept_content play.world) ∷ []
command_lines play Order = order_lines play.world.log.events (order_in play.world)
command_lines play Again = []

-- and what some commands give, one after the other
abbrev pub lines_of_all : Play → List Command → List Line
lines_of_all play [] = []
lines_of_all play (command ∷ commands) =
    command_lines play command ++ lines_of_all (after_command play command) commands

-- no act is made again
abbrev pub HasNoAgain : List Command → Type 0
HasNoAgain commands = All (λ command. command ≢ Again) commands

-- the line of an act that was refused for want of memory
abbrev pub refused_memory : Line
refused_memory = refused_line NoMemory

-- what some commands may give. Where one was refused for want of memory, and `again` comes after it, a line says so,
-- nothing else changed, and it is made again
pub data MayGive : Play → List Command → List Line → Type 0 where
  none : {play : Play} → MayGive play [] []
  more : {play : Play} {command : Command} {commands : List Command} (rest : List Line)
      (lines : MayGive (after_command play command) commands rest)
      → MayGive play (command ∷ commands) (command_lines play command ++ rest)
  made_again : {play : Play} {command : Command} {commands : List Command} (rest : List Line)
      (lines : MayGive play (command ∷ commands) rest)
      → MayGive play (command ∷ Again ∷ commands) (refused_memory ∷ rest)

-- the lines of a queue of this shape: its size, and what the commands give
abbrev pub queue_lines : Shape → List Command → List Line
queue_lines s commands = size_line (size_of s) ∷ lines_of_all (new_play s) commands

-- those of a script: there are none where it has no queue
abbrev pub script_lines : Option QueueLine → List Command → List Line
script_lines None commands = []
script_lines (Some queue) commands = queue_lines (shape_by queue) commands

-- its transcript, where no memory is refused
abbrev pub script_text : Option QueueLine → List Command → List ℕ
script_text queue commands = text_of (script_lines queue commands)

-- lines that a script may give, and a transcript of it
pub record MayGiveOn (s : Shape) (commands : List Command) (lines : List Line) : Type 0 where
  pub given : List Line
  pub gives : MayGive (new_play s) commands given
  pub is : lines ≡ size_line (size_of s) ∷ given

abbrev pub AreLinesOf : Option QueueLine → List Command → List Line → Type 0
AreLinesOf None commands lines = lines ≡ []
AreLinesOf (Some queue) commands lines = MayGiveOn (shape_by queue) commands lines

pub record IsTranscript (queue : Option QueueLine) (commands : List Command) (text : List ℕ) : Type 0 where
  pub lines : List Line
  pub given : AreLinesOf queue commands lines
  pub is : text ≡ text_of lines

-- the same lines, and among them some that say that memory was refused
pub data AreButForRefusals : List Line → List Line → Type 0 where
  no_line : AreButForRefusals [] []
  one_line : {line : Line} {plain lines : List Line} (rest : AreButForRefusals plain lines)
      → AreButForRefusals (line ∷ plain) (line ∷ lines)
  refusal : {plain lines : List Line} (rest : AreButForRefusals plain lines)
      → AreButForRefusals plain (refused_memory ∷ lines)

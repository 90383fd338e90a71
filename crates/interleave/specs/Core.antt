-- A world without its words: its acts are lent them.
use Rattle.std.specs.Prelude.{◌≡◌, ℕ, List, length, Option, None, Result, Ok, is_some, slice_get, slice_index_or}
use Rattle.words.specs.declared.call.Call.{Call}
use Rattle.words.specs.declared.call.Client.{Client}
use Rattle.words.specs.declared.refusal.Refusal.{Refusal}
use Rattle.persist.specs.Memory.{Words, words_after_crash}
use Rattle.arena.specs.Shape.{Shape, owner}
use Rattle.stepper.specs.declared.prepare.Begun.{Begun}
use Rattle.helping.specs.Table.{begun_at}
use Rattle.events.specs.declared.event.Effect.{Effect}
use Rattle.protocol.specs.Machine.{World}
use Rattle.protocol.specs.declared.UnderWay.{UnderWay}
use Rattle.interleave.specs.Calls.{is_no_memory, waiting_result}
use Rattle.interleave.specs.State.{State, after_stop, start_result_with, start_with}
use Rattle.interleave.specs.Trace.{Roomy, Traced, machine_with, state_with, with_effects}
use Rattle.interleave.specs.declared.queue.Queue.{Queue}

-- what a queue keeps for its clients, the call that each has under way, and what happened
pub record CoreState : Type 0 where
  pub shape : Shape
  pub queue : Queue
  pub calls : List (Option UnderWay)
  pub trace : Traced

-- the world that it is over these words
abbrev pub state_of : CoreState → Words → State
state_of c ws = state_with c.shape ws c.queue c.calls c.trace

-- and for how many acts more there is room
abbrev pub roomy_over : CoreState → Words → Roomy
roomy_over c ws = record { now = state_of c ws; room = c.trace.room }

-- the machine that it is over these words, if it is ready
abbrev pub machine_over : CoreState → Words → World
machine_over c ws = machine_with c.shape ws c.calls c.trace

-- other effects, and all else as before
abbrev pub core_with_effects : CoreState → List Effect → CoreState
core_with_effects c effects = record c { trace = with_effects c.trace effects }

-- other room, and all else as before
abbrev pub core_with_room : CoreState → ℕ → CoreState
core_with_room c room = record c { trace = record c.trace { room = room } }

-- the call that the client has under way, or why it cannot go on
abbrev pub waiting_of : CoreState → Client → Result UnderWay Refusal
waiting_of c client = waiting_result (is_some c.trace.recovery) (slice_get c.calls client.0)

-- the call whose record has this number, if it is under way
abbrev pub call_with_record : CoreState → ℕ → Option UnderWay
call_with_record c number = slice_index_or c.calls (owner c.shape number) None

-- the call that begins now, with this record
abbrev pub call_begun_by : CoreState → Begun → UnderWay
call_begun_by c begun = record { place = length c.trace.log.events; begun = begun; op = begun_at c.shape.kind begun }

-- what a start of this number leaves, of a client that may begin a call
abbrev pub left_by_start : Result Unit Refusal → CoreState → Words → Client → ℕ → Call → State
left_by_start result c ws client number call = start_with (is_no_memory result) (state_of c ws) client call (Ok number)

abbrev pub IsLeftByStart : Result Unit Refusal → Client → ℕ → Call → CoreState → Words → CoreState → Words → Type 0
IsLeftByStart result client number call old ws new left =
    state_of new left ≡ left_by_start result old ws client number call

-- and what it answers
abbrev pub answer_to_start : Result Unit Refusal → CoreState → Words → Client → ℕ → Result Unit Refusal
answer_to_start result c ws client number = start_result_with (is_no_memory result) (state_of c ws) client (Ok number)

-- the whole system stopped, whatever was cached
abbrev pub IsStopped : CoreState → CoreState → Type 0
IsStopped old new = (ws : Words) → state_of new (words_after_crash ws) ≡ after_stop (state_of old ws)

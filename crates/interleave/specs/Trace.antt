-- What a world keeps of what happened, beside its memory.
use Rattle.std.specs.Prelude.{◌≡◌, ℕ, ◌≤◌, Bool, List, [], ◌∷◌, ◌++◌, length, Option, Some}
use Rattle.words.specs.PlainQueue.{Value}
use Rattle.words.specs.declared.call.Client.{Client}
use Rattle.words.specs.declared.call.Reply.{Reply}
use Rattle.words.specs.declared.told.Told.{Told}
use Rattle.persist.specs.Memory.{Words}
use Rattle.arena.specs.Shape.{Shape}
use Rattle.recover.specs.declared.recovery.Recovery.{Recovery}
use Rattle.stepper.specs.declared.prepare.Begun.{Begun}
use Rattle.stepper.specs.declared.resume.After.{After}
use Rattle.helping.specs.declared.op.Op.{Op}
use Rattle.events.specs.Effects.{with_effect}
use Rattle.events.specs.declared.event.Effect.{Effect}
use Rattle.events.specs.declared.event.Event.TheVariants.{Call as call_event, Ready as ready_event}
use Rattle.protocol.specs.Machine.{Trace, World, events_after}
use Rattle.protocol.specs.declared.UnderWay.{UnderWay}
use Rattle.interleave.specs.Effects.{effects_with_look}
use Rattle.interleave.specs.State.{State, machine_of}
use Rattle.interleave.specs.declared.queue.Queue.{Queue}

-- what the queue held and told where the history begins, what happened since, the recovery that is under way, and for
-- how many acts more there is room
pub record Traced : Type 0 where
  pub base : List Value
  pub told : List Told
  pub log : Trace
  pub recovery : Option Recovery
  pub room : ℕ

-- a world over these parts
abbrev pub state_with : Shape → Words → Queue → List (Option UnderWay) → Traced → State
state_with s ws queue calls trace = record {
  shape = s;
  words = ws;
  queue = queue;
  calls = calls;
  base = trace.base;
  told = trace.told;
  log = trace.log;
  recovery = trace.recovery;
}

-- the machine of a ready world over these parts
abbrev pub machine_with : Shape → Words → List (Option UnderWay) → Traced → World
machine_with s ws calls trace = machine_of s ws calls trace.base trace.told trace.log

-- other effects, and all else as before
abbrev pub with_effects : Traced → List Effect → Traced
with_effects trace effects = record trace { log = record trace.log { effects = effects } }

-- they are no more than the events: for so many there is room
abbrev pub HaveRoom : Trace → List Effect → Type 0
HaveRoom log effects = length effects ≤ length log.events

-- the effects once the call at the place has taken effect now, and once it has looked now
abbrev pub effects_once_taken : Trace → ℕ → Reply → List Effect
effects_once_taken log place reply = with_effect place reply (length log.events) log.effects

abbrev pub effects_once_looked : Trace → ℕ → Bool → List Effect
effects_once_looked log place empty = effects_with_look place empty (length log.events) log.effects

-- the history gets the Call of a call that begins, which is noted with its record
abbrev pub AddsCall : Begun → Traced → Traced → Type 0
AddsCall begun old new = new.log.events ≡ old.log.events ++ call_event begun.client begun.number begun.call ∷ []

abbrev pub AddsIssued : Begun → Traced → Traced → Type 0
AddsIssued begun old new =
    new.log.issued ≡ old.log.issued ++ record { place = length old.log.events; begun = begun } ∷ []

-- the Return of a call that is answered, if that is what follows its step
abbrev pub AddsAnswer : Client → After Op Reply → Traced → Traced → Type 0
AddsAnswer client after old new = new.log ≡ record old.log { events = events_after old.log.events client after }

-- and the Ready at which the recovery under way has told what it read
abbrev pub AddsReady : Traced → Traced → Type 0
AddsReady old new = (r : Recovery) → old.recovery ≡ Some r → new.log.events ≡ old.log.events ++ ready_event r.told ∷ []

-- a world as contracts see it, and for how many acts more there is room
pub record Roomy : Type 0 where
  pub now : State
  pub room : ℕ

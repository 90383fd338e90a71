-- What the log says of each client's call, and what the plain queue holds.
use Rattle.std.specs.Prelude.{[], ◌∷◌, if◌then◌else◌, ◌==◌, List, ℕ}
use Rattle.words.specs.PlainQueue.{Value}
use Rattle.words.specs.declared.call.Call.{Call}
use Rattle.words.specs.declared.call.Call.TheVariants.{Deq}
use Rattle.words.specs.declared.call.Reply.{Reply}
use Rattle.stepper.specs.declared.prepare.Begun.{Begun}
use Rattle.events.specs.declared.event.Effect.{Effect}

-- how far a call has come: it took no effect, or found the queue empty, or took effect with this reply
pub data Stage : Type 0 where
  Unmoved : Stage
  Seen : Stage
  Took : (reply : Reply) → Stage

-- what the log says of each client's call, which has token 0 if there is none, and what the plain queue holds
pub record Ledger : Type 0 where
  pub begun : ℕ → Begun
  pub stage : ℕ → Stage
  pub queue : List Value

-- the record of no call
abbrev pub nobody : Begun
nobody = record { client = record { 0 = 0 }; used = 0; token = record { 0 = 0 }; number = 0; call = Deq }

-- the token of a client's call, and the call
abbrev pub held_token : Ledger → ℕ → ℕ
held_token l i = (l.begun i).token.0

abbrev pub asked_call : Ledger → ℕ → Call
asked_call l i = (l.begun i).call

-- an unsettled effect, before what comes later
abbrev pub seen_or : Stage → Stage
seen_or Unmoved = Seen
seen_or st = st

-- what an effect says of the call at its place, before what comes later
abbrev pub stage_by : Effect → Stage → Stage
stage_by e later = if e.settled then Took e.reply else seen_or later

-- the stage of the call at the place
abbrev pub stage_at : ℕ → List Effect → Stage
stage_at p [] = Unmoved
stage_at p (e ∷ es) = if e.place == p then stage_by e (stage_at p es) else stage_at p es

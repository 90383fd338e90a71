-- Recovery, step by step.
use Rattle.std.specs.Prelude.{◌≡◌, ◌<◌, ◌-◌, ℕ, zero, suc, Bool, true, false, List, [], ◌∷◌, ◌++◌, Option, Some, None, Result, Ok, Err, IfErr, length, slice_get}
use Rattle.words.specs.declared.refusal.Refusal.{Refusal}
use Rattle.directory.specs.declared.queue.Queue.{Queue}
use Rattle.named.specs.GoingOn.{BrokerGoesOn}
use Rattle.named.specs.Stopping.{IsRecoveryStep}
use Rattle.playing.specs.Steps.{count_after}
use Rattle.playing.specs.Transcript.{told_at, told_lines}
use Rattle.playing.specs.declared.lines.Line.{Line}
use Rattle.playing.specs.declared.lines.Line.TheVariants.{Ready, Recovering, Refused}
use Rattle.session.specs.Keeping.{AreKeptAfter, SessionGoesOn}
use Rattle.broker_lines.specs.Lines.{of_queue}
use Rattle.broker_lines.specs.declared.printed.Printed.{Printed}
use Rattle.broker_lines.specs.declared.printed.Printed.TheVariants.{Whole}
use Rattle.broker_script.specs.Play.{Played, session_of, the_world}

-- what each client of the queue in a slot is told, with its name before each line; of a free slot nothing
abbrev pub told_at_slot : Played → ℕ → List Line
told_at_slot p slot = told_lines (told_at (the_world p.broker slot)) p.broker.counts.clients

abbrev pub told_in_slot : Played → ℕ → Option (Option Queue) → List Printed
told_in_slot p slot (Some (Some queue)) = of_queue queue.name (told_at_slot p slot)
told_in_slot p slot (Some None) = []
told_in_slot p slot None = []

-- of a slot as the directory has it, and of the slots below this one
abbrev pub told_of_slot : Played → ℕ → List Printed
told_of_slot p slot = told_in_slot p slot (slice_get p.broker.directory slot)

abbrev pub told_below : Played → ℕ → List Printed
told_below p zero = []
told_below p (suc slot) = told_below p slot ++ told_of_slot p slot

-- a ready broker gives how many steps there were since the crash, and what each client of each queue is told
abbrev pub ready_lines : Played → List Printed
ready_lines p = Whole (Ready p.recovery) ∷ told_below p (length p.broker.directory)

-- a step of recovery is counted, where it was made
abbrev pub recovery_counted : ℕ → Result Bool Refusal → ℕ
recovery_counted steps (Ok ready) = count_after 1 steps
recovery_counted steps (Err refusal) = steps

pub record IsRecoveredOn (old : Played) (result : Result Bool Refusal) (new : Played) : Type 0 where
  pub step : IsRecoveryStep old.broker new.broker result old.broker.recovery
  pub refused : IfErr result (λ refusal. old.broker.recovery ≡ None)
  pub goes_on : BrokerGoesOn old.broker new.broker
  pub kept : AreKeptAfter (session_of old) (session_of new) result
  pub settled : SessionGoesOn (session_of old) (session_of new)
  pub counted : new ≡ record old {
    broker = new.broker;
    kept = new.kept;
    recovery = recovery_counted old.recovery result;
  }

-- recovery goes on to its end, or is refused
pub data Recovers : Played → List Printed → Played → Type 0 where
  ready : {old new : Played} (step : IsRecoveredOn old (Ok true) new) → Recovers old (ready_lines new) new
  ends_ready : {old new : Played} {refusal : Refusal} (step : IsRecoveredOn old (Err refusal) new)
      → Recovers old (Whole (Refused refusal) ∷ []) new
  goes_on_ready : {old next new : Played} {lines : List Printed} (step : IsRecoveredOn old (Ok false) next)
      (rest : Recovers next lines new) → Recovers old lines new

-- or by up to so many steps
pub data RecoversBy : ℕ → Played → List Printed → Played → Type 0 where
  stays_by : {old : Played} → RecoversBy 0 old (Whole Recovering ∷ []) old
  ready_by : {most : ℕ} {old new : Played} (some : 0 < most) (step : IsRecoveredOn old (Ok true) new)
      → RecoversBy most old (ready_lines new) new
  ends_by : {most : ℕ} {old new : Played} {refusal : Refusal} (some : 0 < most)
      (step : IsRecoveredOn old (Err refusal) new) → RecoversBy most old (Whole (Refused refusal) ∷ []) new
  goes_on_by : {most : ℕ} {old next new : Played} {lines : List Printed} (some : 0 < most)
      (step : IsRecoveredOn old (Ok false) next) (rest : RecoversBy (most - 1) next lines new)
      → RecoversBy most old lines new

-- What the caller of a recovery is told.
use Rattle.std.specs.Prelude.{◌≡◌, ◌⊎◌, ℕ, Bool, true, false, Option, Some, None, Result, Ok, Err, IfErr}
use Rattle.words.specs.declared.refusal.Refusal.{Refusal}
use Rattle.words.specs.declared.refusal.Refusal.TheVariants.{AlreadyReady, NoMemory}
use Rattle.named.specs.Brokers.{Brokered}
use Rattle.session.specs.Acts.{IsNextRecoveryStep}

-- why a step of it is refused: none is under way, or there is no memory
abbrev pub IsRecoveryRefusal : Refusal → Type 0
IsRecoveryRefusal refusal = (refusal ≡ AlreadyReady) ⊎ (refusal ≡ NoMemory)

-- a step of it is refused only where none is under way
abbrev pub IsRefusedOnlyIfReady : Result Bool Refusal → Type 0
IsRefusedOnlyIfReady result = IfErr result (λ refusal. refusal ≡ AlreadyReady)

-- whether the broker is ready once a step of it answered this
abbrev pub is_ready_after : Result Bool Refusal → Bool
is_ready_after (Ok ready) = ready
is_ready_after (Err AlreadyReady) = true
is_ready_after (Err _) = false

-- and once its caller is told this
abbrev pub is_ready_by : Result Unit Refusal → Bool
is_ready_by (Ok done) = true
is_ready_by (Err AlreadyReady) = true
is_ready_by (Err _) = false

-- once a step of it answered this, where steps of its own came before (`begun`) or none did: nothing yet; that the
-- broker is ready, by this step, or by one of another thread; or why the step was refused
abbrev pub told_of_recovery : Bool → Result Bool Refusal → Option (Result Unit Refusal)
told_of_recovery begun (Ok false) = None
told_of_recovery begun (Ok true) = Some (Ok tt)
told_of_recovery true (Err AlreadyReady) = Some (Ok tt)
told_of_recovery begun (Err refusal) = Some (Err refusal)

-- what a step of it made: where changes are noted, nothing, if there is no memory for its change
abbrev pub IsStepIfRoom : Option ℕ → Brokered → Brokered → Result Bool Refusal → Type 0
IsStepIfRoom None old new result = IsNextRecoveryStep old new result
IsStepIfRoom (Some promised) old new result =
    ((result ≡ Err NoMemory) × (new ≡ old)) ⊎ IsNextRecoveryStep old new result

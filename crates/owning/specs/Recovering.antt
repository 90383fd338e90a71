-- A crash, and a recovery that runs to its end.
use Rattle.std.specs.Prelude.{◌≡◌, ◌⊎◌, ℕ, zero, suc, Bool, true, false, Result, Ok, Err, IfErr, ⊤}
use Rattle.words.specs.declared.refusal.Refusal.{Refusal}
use Rattle.words.specs.declared.refusal.Refusal.TheVariants.{AlreadyReady, NoMemory}
use Rattle.interleave.specs.Calls.{is_no_memory}
use Rattle.interleave.specs.State.{crash_result}
use Rattle.named.specs.Stopping.{HasFullQueue, IsRecoveryStep, IsSameButRoom, IsStopped}
use Rattle.session.specs.Keeping.{AreKeptAfter}
use Rattle.session.specs.Sessions.{Sessioned}

-- the whole system stopped; or there was no memory for it, and nothing changed
pub record IsCrash (old new : Sessioned) (result : Result ⊤ Refusal) : Type 0 where
  pub result_is : result ≡ crash_result (is_no_memory result)
  pub stopped : result ≡ Ok tt → IsStopped old.broker new.broker
  pub full : is_no_memory result ≡ true → HasFullQueue old.broker × IsSameButRoom old.broker new.broker
  pub kept : new.kept ≡ old.kept

-- one step of recovery
pub record IsStep (old new : Sessioned) (result : Result Bool Refusal) : Type 0 where
  pub step : IsRecoveryStep old.broker new.broker result old.broker.recovery
  pub kept : AreKeptAfter old new result

-- so many steps, none of which is the last
abbrev pub IsStepped : ℕ → Sessioned → Sessioned → Type 0
IsStepped zero old new = new ≡ old
IsStepped (suc steps) old new = (mid : Sessioned) × IsStepped steps old mid × IsStep mid new (Ok false)

-- the last step makes the broker ready, or is refused
abbrev pub step_ending : Result ⊤ Refusal → Result Bool Refusal
step_ending (Ok done) = Ok true
step_ending (Err refusal) = Err refusal

-- what a recovery comes to that runs to its end
pub record IsRecovery (old new : Sessioned) (result : Result ⊤ Refusal) : Type 0 where
  pub steps : ℕ
  pub mid : Sessioned
  pub stepped : IsStepped steps old mid
  pub last : IsStep mid new (step_ending result)
  pub errors : IfErr result (λ e. (e ≡ AlreadyReady) ⊎ (e ≡ NoMemory))

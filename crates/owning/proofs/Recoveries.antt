-- A recovery that runs to its end.
use Rattle.std.proofs.Common.{◌≡◌, ℕ, suc, Bool, true, false, Ok, Err, refl, subst}
use Rattle.words.specs.declared.refusal.Refusal.{Refusal}
use Rattle.named.specs.Brokers.{IsWell}
use Rattle.named.specs.Stopping.{IsRecoveryStep}
use Rattle.session.specs.Keeping.{AreKeptAfter}
use Rattle.session.specs.Sessions.{Sessioned}
use Rattle.workers.proofs.Facts.{recovery_errors}
use Rattle.owning.specs.Recovering.{IsRecovery, IsStep, IsStepped}

-- the session came here by steps of recovery, none of which was the last
pub record HasCome (old now : Sessioned) : Type 0 where
  pub steps : ℕ
  pub stepped : IsStepped steps old now

pub comes_nowhere : (old : Sessioned) → HasCome old old
comes_nowhere old = record { steps = 0; stepped = refl }

pub comes_further : (old now new : Sessioned) (ready : Bool) → ready ≡ false → HasCome old now
    → IsRecoveryStep now.broker new.broker (Ok ready) now.broker.recovery → AreKeptAfter now new (Ok ready) → HasCome old new
comes_further old now new ready going come step kept = record {
  steps = suc come.steps;
  stepped = (
    now,
    come.stepped,
    subst (λ (r : Bool). IsStep now new (Ok r)) going (record { step = step; kept = kept }),
  );
}

-- and with one more step to its end, or to one that is refused
pub is_ready : (old now new : Sessioned) (ready : Bool) → ready ≡ true → HasCome old now
    → IsRecoveryStep now.broker new.broker (Ok ready) now.broker.recovery → AreKeptAfter now new (Ok ready)
    → IsRecovery old new (Ok tt)
is_ready old now new ready over come step kept = record {
  steps = come.steps;
  mid = now;
  stepped = come.stepped;
  last = subst (λ (r : Bool). IsStep now new (Ok r)) over (record { step = step; kept = kept });
  errors = tt;
}

pub is_refused : (old now new : Sessioned) (refusal : Refusal) → IsWell now.broker → HasCome old now
    → IsRecoveryStep now.broker new.broker (Err refusal) now.broker.recovery → AreKeptAfter now new (Err refusal)
    → IsRecovery old new (Err refusal)
is_refused old now new refusal well come step kept = record {
  steps = come.steps;
  mid = now;
  stepped = come.stepped;
  last = record { step = step; kept = kept };
  errors = recovery_errors now.broker new.broker (Err refusal) well step;
}

-- What was made or refused by a rule.
use Rattle.std.proofs.Common.{◌≡◌, ℕ, Bool, Result, Ok, Err, sym, subst}
use Rattle.std.specs.Prelude.{IfErr}
use Rattle.words.specs.declared.refusal.Refusal.{Refusal}
use Rattle.protocol.specs.declared.acts.Act.{Act}
use Rattle.interleave.specs.Holds.{Holds}
use Rattle.interleave.specs.Rules.{GoesOnExplained}
use Rattle.interleave.specs.Standing.{GoesOn}
use Rattle.interleave.specs.State.{State, after_attempt}
use Rattle.interleave.proofs.machine.Outcomes.{goes_on_after}
use Rattle.interleave.proofs.machine.Holding.{explained_world}
use Rattle.interleave.proofs.words.KeptWords.{kept_sound}

-- an attempt at an act leaves a world that goes on, explained
pub goes_on_explained : (old new : State) (full : Bool) (act : Act ℕ) → Holds old → Holds new
    → new ≡ after_attempt full old act → GoesOnExplained old new
goes_on_explained old new full act was is leaves = record {
  goes_on = subst (GoesOn old) (sym leaves) (goes_on_after full old act was);
  explained = explained_world new is;
  sound = kept_sound new is;
}

-- what holds anyway holds of a refusal
pub if_refused : {A P : Type 0} (result : Result A Refusal) → P → IfErr result (λ e. P)
if_refused (Ok a) p = tt
if_refused (Err e) p = p

-- What holds where something is there, of what is there.
use Rattle.std.proofs.Common.{◌≡◌, subst}
use Rattle.std.specs.Prelude.{Option, Some, Result, Ok, IfOk}
use Rattle.interleave.specs.State.{State}
use Rattle.named.specs.Slots.{IfWorld}

-- what holds of the world in a slot holds of this one
pub of_world : (o : Option State) (w : State) (P : State → Type 0) → o ≡ Some w → IfWorld o P → P w
of_world o w P is holds = subst (λ (x : Option State). IfWorld x P) is holds

-- what is so of a success is so of this one
pub of_ok : {A E : Type 0} (r : Result A E) (a : A) (P : A → Type 0) → r ≡ Ok a → IfOk r P → P a
of_ok r a P is holds = subst (λ x. IfOk x P) is holds

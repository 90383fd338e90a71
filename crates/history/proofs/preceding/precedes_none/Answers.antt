use Rattle.history.proofs.Greatest.{none_from_greatest, greatest_from_none, holds_not, fails_not}
use Rattle.history.proofs.preceding.precedes_none.Goals as goal

pub returns : goal.returns
returns c = (
  λ fails. none_from_greatest _ _ _ _ _ c.requires.within c.requires.greatest
      (λ before. fails_not _ fails (c.precedes.ensures.1 before)),
  λ none. holds_not _ (λ is. greatest_from_none _ _ _ _ _ c.requires.within c.requires.greatest none
      (c.precedes.ensures.0 is)),
)

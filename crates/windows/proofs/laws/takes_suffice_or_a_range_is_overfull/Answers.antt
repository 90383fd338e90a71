use Rattle.windows.proofs.Given.{given_or_overfull}
use Rattle.windows.proofs.laws.takes_suffice_or_a_range_is_overfull.Goals as goal

pub returns : goal.returns
returns c = given_or_overfull

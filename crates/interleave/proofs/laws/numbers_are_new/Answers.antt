use Rattle.interleave.proofs.order.Rotations.{numbers_are_new}
use Rattle.interleave.proofs.laws.numbers_are_new.Goals as goal

pub returns : goal.returns
returns c = numbers_are_new

use Rattle.interleave.proofs.order.Rotations.{numbers_told, told_rightly}
use Rattle.interleave.proofs.laws.kept_words_tell_rightly.Goals as goal

pub returns-clause-announced : goal.returns-clause-announced
returns-clause-announced c = told_rightly

pub returns-clause-numbers : goal.returns-clause-numbers
returns-clause-numbers c = numbers_told

use Rattle.interleave.proofs.runs.Runs.{next_tells, same_told}
use Rattle.interleave.proofs.laws.kept_words_tell.Goals as goal

pub returns-clause-by_words : goal.returns-clause-by_words
returns-clause-by_words c = next_tells

pub returns-clause-same : goal.returns-clause-same
returns-clause-same c = λ w v tells telling holds other same. same_told w v tells telling holds other same.shape same.kept

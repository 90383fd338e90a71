use Rattle.protocol.proofs.runs.RunsTold.{told_by_crash}
use Rattle.protocol.proofs.laws.told_by_the_words_of_the_crash.Goals as goal

pub returns : goal.returns
returns c = told_by_crash

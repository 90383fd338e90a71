use Rattle.protocol.proofs.runs.RunsTold.{told_alike}
use Rattle.protocol.proofs.laws.equal_words_tell_the_same.Goals as goal

pub returns : goal.returns
returns c = told_alike

use Rattle.protocol.proofs.runs.Runs.{kept_told}
use Rattle.protocol.proofs.laws.kept_words_are_told.Goals as goal

pub returns : goal.returns
returns c = kept_told

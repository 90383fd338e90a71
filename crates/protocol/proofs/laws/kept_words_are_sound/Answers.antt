use Rattle.protocol.proofs.runs.RunsTold.{kept_sound}
use Rattle.protocol.proofs.laws.kept_words_are_sound.Goals as goal

pub returns : goal.returns
returns c = kept_sound

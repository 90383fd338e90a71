use Rattle.playing.proofs.MayGive.{only_transcript}
use Rattle.playing.proofs.laws.one_transcript_without_again.Goals as goal

pub returns : goal.returns
returns c = only_transcript

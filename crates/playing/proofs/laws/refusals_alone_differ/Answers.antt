use Rattle.playing.proofs.MayGive.{script_differs}
use Rattle.playing.proofs.laws.refusals_alone_differ.Goals as goal

pub returns : goal.returns
returns c = script_differs

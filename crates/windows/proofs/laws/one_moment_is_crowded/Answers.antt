use Rattle.windows.proofs.Apart.{crowded}
use Rattle.windows.proofs.laws.one_moment_is_crowded.Goals as goal

pub returns : goal.returns
returns c = crowded

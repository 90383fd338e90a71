use Rattle.windows.proofs.Apart.{independent}
use Rattle.windows.proofs.laws.moments_are_independent.Goals as goal

pub returns : goal.returns
returns c = independent

use Rattle.protocol.proofs.runs.RunsTold.{told_by_boot}
use Rattle.protocol.proofs.laws.it_tells_what_it_began_with.Goals as goal

pub returns : goal.returns
returns c = told_by_boot

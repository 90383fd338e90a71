use Rattle.directory.proofs.Sounds.{outside_same}
use Rattle.directory.proofs.laws.directories_stay_before_blocks.Goals as goal

pub returns : goal.returns
returns c old new from len past room same = outside_same old new from len past room same

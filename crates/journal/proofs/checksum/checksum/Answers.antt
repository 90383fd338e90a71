use Rattle.std.proofs.Common.{rules}
use Rattle.journal.specs.Sum.{digest, sum_of}
use Rattle.journal.proofs.checksum.checksum.Goals as goal

pub returns : goal.returns
unfolding digest sum_of
returns c = search rules

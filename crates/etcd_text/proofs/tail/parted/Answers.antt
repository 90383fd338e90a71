use Rattle.std.proofs.Common.{sym}
use Rattle.etcd_text.proofs.Spelling.{none_there, parted_at}
use Rattle.etcd_text.proofs.tail.parted.Goals as goal

pub returns-in-None : goal.returns-in-None
returns-in-None c = none_there c.args.bytes.now (sym c.in-None.ensures)

pub returns-in-Some : goal.returns-in-Some
returns-in-Some c = parted_at c.args.bytes.now c.in-Some.at (sym c.in-Some.ensures)

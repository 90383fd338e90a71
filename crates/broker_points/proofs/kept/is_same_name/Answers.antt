use Rattle.directory.proofs.Facts.{names_equal}
use Rattle.broker_points.proofs.kept.is_same_name.Goals as goal

pub returns : goal.returns
returns c = names_equal c.args.name.now c.args.other.now c.eq.result c.eq.ensures

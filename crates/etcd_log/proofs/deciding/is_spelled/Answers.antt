use Rattle.etcd_log.proofs.Spelled.{by_owner, count_differs, generation_differs, none_spelled}
use Rattle.etcd_log.proofs.deciding.is_spelled.Goals as goal

pub returns-in_default : goal.returns-in_default
returns-in_default c =
    none_spelled c.args.bytes.now c.args.generation c.args.count c.args.owner.now c.ranges.generation.fits c.ranges.count.fits c.in_default.ensures

pub returns-then-other-generation : goal.returns-then-other-generation
returns-then-other-generation c =
    generation_differs c.args.bytes.now c.in-Some.other c.args.generation c.args.count c.args.owner.now c.ranges.generation.fits c.ranges.count.fits c.in-Some.ensures c.if-other-generation.true

pub returns-then-other-count : goal.returns-then-other-count
returns-then-other-count c =
    count_differs c.args.bytes.now c.in-Some.other c.args.generation c.args.count c.args.owner.now c.ranges.generation.fits c.ranges.count.fits c.in-Some.ensures c.if-other-count.true

pub returns : goal.returns
returns c =
    by_owner c.args.bytes.now c.in-Some.other c.args.generation c.args.count c.args.owner.now c.eq.result c.ranges.generation.fits c.ranges.count.fits c.in-Some.ensures
    c.if-other-generation.false c.if-other-count.false c.eq.ensures

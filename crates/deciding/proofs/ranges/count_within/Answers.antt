use Rattle.windows.specs.Takes.{lies_within}
use Rattle.windows.proofs.Facts.{high, low, missing}
use Rattle.deciding.specs.Right.{calls_in}
use Rattle.deciding.proofs.Listing.{count_next, one_more}
use Rattle.deciding.proofs.ranges.count_within.Goals as goal

pub loop-put-preserved : goal.loop-put-preserved
loop-put-preserved c = (
  count_next (lies_within (missing (calls_in c.args.tables.now)) (low (calls_in c.args.tables.now))
      (high (calls_in c.args.tables.now)) c.args.from c.args.to) c.loop-put.put
      c.loop-put.count c.more-count.result c.lies.result c.loop-put.invariant.0 c.lies.ensures
      c.more-count.ensures,
  one_more c.loop-put.put c.loop-put.count c.more-count.result c.lies.result c.loop-put.invariant.1
      c.more-count.ensures,
)

use Rattle.windows.specs.Moments.{crowds}
use Rattle.windows.proofs.Facts.{low, missing}
use Rattle.deciding.specs.Right.{calls_in}
use Rattle.deciding.proofs.Listing.{count_next, one_more}
use Rattle.deciding.proofs.empties.count_in.Goals as goal

pub loop-put-preserved : goal.loop-put-preserved
loop-put-preserved c = (
  count_next (crowds (missing (calls_in c.args.tables.now)) (low (calls_in c.args.tables.now))
      (calls_in c.args.tables.now).end c.args.from c.args.place) c.loop-put.put
      c.loop-put.count c.more-count.result c.is_in.result c.loop-put.invariant.0 c.is_in.ensures
      c.more-count.ensures,
  one_more c.loop-put.put c.loop-put.count c.more-count.result c.is_in.result c.loop-put.invariant.1
      c.more-count.ensures,
)

use Rattle.std.proofs.Common.{ltb}
use Rattle.windows.proofs.Facts.{begin_of}
use Rattle.deciding.specs.Table.{calls_by}
use Rattle.deciding.proofs.Listing.{count_next, one_more}
use Rattle.deciding.proofs.opens.count_begun.Goals as goal

pub loop-number-preserved : goal.loop-number-preserved
loop-number-preserved c = (
  count_next (λ k. ltb (begin_of (calls_by c.args.known.now c.args.ends.now) k) c.args.place) c.loop-number.number
      c.loop-number.count c.more-count.result c.has_begun.result c.loop-number.invariant.0 c.has_begun.ensures
      c.more-count.ensures,
  one_more c.loop-number.number c.loop-number.count c.more-count.result c.has_begun.result c.loop-number.invariant.1
      c.more-count.ensures,
)

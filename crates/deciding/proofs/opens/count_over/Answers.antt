use Rattle.std.proofs.Common.{leb}
use Rattle.windows.proofs.Facts.{end_of}
use Rattle.deciding.specs.Table.{calls_by}
use Rattle.deciding.proofs.Listing.{count_next, one_more}
use Rattle.deciding.proofs.opens.count_over.Goals as goal

pub loop-number-preserved : goal.loop-number-preserved
loop-number-preserved c = (
  count_next (λ k. leb (end_of (calls_by c.args.known.now c.args.ends.now) k) c.args.place) c.loop-number.number
      c.loop-number.count c.more-count.result c.is_over.result c.loop-number.invariant.0 c.is_over.ensures
      c.more-count.ensures,
  one_more c.loop-number.number c.loop-number.count c.more-count.result c.is_over.result c.loop-number.invariant.1
      c.more-count.ensures,
)

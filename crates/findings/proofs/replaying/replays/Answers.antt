use Rattle.std.proofs.Common.{below_more}
use Rattle.std.proofs.lemmas.Option.{slice_get-get_or}
use Rattle.history.proofs.Facts.{queue_more, right_here}
use Rattle.findings.proofs.replaying.replays.Goals as goal

pub returns-then-not-branch : goal.returns-then-not-branch
returns-then-not-branch c = (
  λ no. cc,
  λ replays.
      let served = (replays c.loop-i.i c.loop-i-test.true).served _
      (slice_get-get_or c.args.entries.now c.loop-i.i c.index-entries-i.result c.loop-i-test.true) in
      absurd (cc (
        c.if-not-branch.true,
        c.in_ok-is_served.ensures.served.1 (rw (c.index-entries-i.is) (rw (c.loop-i.invariant.queue) served)),
      )),
)

pub loop-i-preserved : goal.loop-i-preserved
loop-i-preserved c = record {
  queue = queue_more _ _ _ _ _ _ c.index-entries-i.result c.loop-i-test.true c.loop-i.invariant.queue
      (rw (← c.index-entries-i.is) (c.in_ok-is_served.ensures.left c.if-not-branch.false));
  right = below_more _ _ c.loop-i.invariant.right
      (right_here _ _ _ _ _ c.index-entries-i.result c.loop-i-test.true c.loop-i.invariant.queue
      (rw (← c.index-entries-i.is) (c.in_ok-is_served.ensures.served.0 c.if-not-branch.false)));
}

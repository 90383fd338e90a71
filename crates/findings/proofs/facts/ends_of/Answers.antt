use Rattle.std.proofs.Common.{ℕ, ◌≡◌, ◌+◌, ◌-◌, ◌<◌, length, arith, subst, sym}
use Rattle.findings.specs.Ends.{AreBelow, AreEndsFrom}
use Rattle.findings.proofs.Ending.{ends_more}
use Rattle.findings.proofs.facts.ends_of.Goals as goal

pub loop-p-preserved : goal.loop-p-preserved
loop-p-preserved c =
    let events = c.args.facts.now.events in
    let back : c.loop-p.p ≡ c.loop-p.p - 1 + 1 = omega (arith, c.loop-p-test.true) in
    let lt : c.loop-p.p - 1 < length c.loop-p.ends.items = omega (arith, c.loop-p-test.true, c.loop-p.invariant.ends.count, c.loop-p.auto.p, c.len-count.ensures.events) in
    record {
      below = subst (λ (n : ℕ). AreBelow n events) (sym c.step_back.ensures.count) c.loop-p.invariant.below;
      next = c.step_back.ensures.next;
      ends = ends_more events (c.loop-p.p - 1) c.loop-p.ends.items c.step_back.result lt c.step_back.ensures.end
          (subst (λ (n : ℕ). AreEndsFrom events n c.loop-p.ends.items) back c.loop-p.invariant.ends);
    }

use Rattle.std.proofs.Common.{ℕ, below_more, subst, sym}
use Rattle.findings.specs.Ends.{AreBelow}
use Rattle.findings.proofs.recorded.all_stand_rightly.Goals as goal

pub loop-p-preserved : goal.loop-p-preserved
loop-p-preserved c = record {
  below = subst (λ (n : ℕ). AreBelow n c.args.findings.now.events) (sym c.go_on.ensures.count)
      c.loop-p.invariant.below;
  standing = c.go_on.ensures.standing;
  rightly = below_more _ _ c.loop-p.invariant.rightly (c.stands_rightly.ensures c.if-not-stands_rightly.false);
}

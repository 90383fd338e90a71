use Rattle.std.proofs.Common.{Bool, List, Vec, Global, subst, sym, ap}
use Rattle.renewal.specs.Zeros.{AreZeroRuns}
use Rattle.renewal.proofs.Unused.{run_noted}
use Rattle.renewal.proofs.renewal.Renewal.note.Goals as goal
use Rattle.renewal.proofs.renewal.Renewal.note.Goals.{then-run-len, else-run-len}

pub loop-run-preserved : goal.loop-run-preserved
loop-run-preserved c = elim c.if-run-len.branch [
  | then-run-len w ↦ subst (λ (runs : List Bool). AreZeroRuns c.args.self.now runs) (ap (λ (runs : Vec Bool Global). runs.items) (sym w.runs-is))
      (run_noted c.args.self.now c.loop-run.runs.items c.args.from c.args.to c.loop-run.run c.requires.zero c.loop-run.auto.run c.loop-run-test.true c.loop-run.invariant)
  | else-run-len w ↦ subst (λ (runs : List Bool). AreZeroRuns c.args.self.now runs) (ap (λ (runs : Vec Bool Global). runs.items) (sym w.runs-is)) c.loop-run.invariant
]

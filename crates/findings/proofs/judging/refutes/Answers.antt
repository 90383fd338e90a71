use Rattle.findings.proofs.Showing.{shown_refutes}
use Rattle.findings.proofs.judging.refutes.Goals as goal

pub returns-clause-refuted : goal.returns-clause-refuted
returns-clause-refuted c = λ yes. shown_refutes _ _ _
    (record { distinct = c.values_rise.ensures c.if-not-values_rise.false; shown = c.is_shown.ensures yes })

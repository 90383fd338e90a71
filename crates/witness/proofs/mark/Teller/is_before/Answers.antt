use Rattle.std.proofs.Common.{ap}
use Rattle.witness.proofs.Beginnings.{shorter_begins}
use Rattle.witness.proofs.mark.Teller.is_before.Goals as goal

pub returns-clause-begins : goal.returns-clause-begins
returns-clause-begins g c among =
    let few = c.is_among.ensures among _ _ c.one.invariant.1 c.other.invariant.1 in
    rw (← ap (λ m. m.entries) c.one.view_is) (rw (← ap (λ m. m.entries) c.other.view_is)
    (shorter_begins _ _ c.compare-witness.ensures.begins few))

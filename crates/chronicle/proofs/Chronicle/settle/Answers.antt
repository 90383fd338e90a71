use Rattle.std.proofs.Common.{rules, ap, ◌∙◌}
use Rattle.chronicle.proofs.Steps.{settles_at}
use Rattle.chronicle.proofs.Chronicle.settle.Goals as goal

pub load-requires : goal.load-requires
load-requires g c =
    let at = c.self.invariant in
    (at.of, search rules, settles_at _ _ c.self.inside.seat.me at.free)

pub invariant_of-self : goal.invariant_of-self
invariant_of-self g c =
    let at = c.self.invariant in
    let e = c.load.ensures in
    record { one = at.one; of = e.0 ∙ at.of; free = ap (λ m. m.1) e.2 ∙ at.free }

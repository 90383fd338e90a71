use Rattle.std.proofs.Common.{rules, refl, ap, ◌∙◌}
use Rattle.chronicle.specs.Chronicled.{Chronicled}
use Rattle.chronicle.proofs.Steps.{adds_at}
use Rattle.chronicle.proofs.Chronicle.note.Goals as goal

pub compare_exchange_with-requires : goal.compare_exchange_with-requires
compare_exchange_with-requires g c =
    let at = c.self.invariant in
    (at.of, search rules, adds_at _ _ _ c.self.inside.seat.me at.free)

pub invariant_of-self : goal.invariant_of-self
invariant_of-self g c =
    let at = c.self.invariant in
    let e = c.compare_exchange_with.ensures in
    record { one = at.one; of = e.0 ∙ at.of; free = ap (λ m. m.1) (e.2 _ refl) ∙ at.free }

pub returns-clause-settled : goal.returns-clause-settled
returns-clause-settled g c =
    ap (λ m. m.0.0) (c.compare_exchange_with.ensures.2 _ refl)
    ∙ ap (λ (v : Chronicled _). v.settled) c.self.view_is

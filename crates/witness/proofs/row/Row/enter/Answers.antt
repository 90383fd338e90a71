use Rattle.std.proofs.Common.{rules, refl, sym, ap, ◌∙◌, []}
use Rattle.witness.specs.Rule.{witness}
use Rattle.witness.proofs.Steps.{enters_at, tells_at}
use Rattle.witness.proofs.row.Row.enter.Goals as goal

pub compare_exchange_with-requires : goal.compare_exchange_with-requires
compare_exchange_with-requires g c =
    (c.requires.0 ∙ sym c.self.view_is, search rules, enters_at _ _ _ _ _ c.requires.1)

pub split_seat-requires : goal.split_seat-requires
split_seat-requires g c =
    let e = c.compare_exchange_with.ensures in
    (e.0 ∙ (c.requires.0 ∙ sym c.self.view_is), search rules, tells_at _ _ _ _ (ap (λ m. m.0) (e.2 _ refl)))

pub returns-clause-witness : goal.returns-clause-witness
returns-clause-witness g c =
    let e = c.compare_exchange_with.ensures in
    let s = c.split_seat.ensures in
    (s.3 ∙ (e.0 ∙ c.requires.0), s.4 ∙ ap (λ m. (witness m.0.row, [])) (e.2 _ refl))

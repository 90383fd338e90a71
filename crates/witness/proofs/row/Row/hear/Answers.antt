use Rattle.std.proofs.Common.{rules, sym, ap, ◌∙◌}
use Rattle.witness.specs.Rule.{keeper_and_witness}
use Rattle.witness.proofs.Steps.{hears_at, lets_go_at, takes_in_at}
use Rattle.witness.proofs.row.Row.hear.Goals as goal

pub join_seat-requires : goal.join_seat-requires
join_seat-requires g c =
    let k = c.requires.keeper in
    let w = c.requires.witness in (
      k.0 ∙ sym c.self.view_is,
      w.0 ∙ sym c.self.view_is,
      ap (λ m. m.1) w.1,
      search rules,
      takes_in_at _ _ _ _ _ _ _ (ap (λ m. m.0) k.1) (ap (λ m. m.0) w.1),
    )

pub load-requires : goal.load-requires
load-requires g c =
    let j = c.join_seat.ensures in
    let k = c.requires.keeper in
    let begins = c.args.witness.me.0.begins in
    let taken = j.2 ∙ ap (λ m. (keeper_and_witness m.0.row begins, m.1)) k.1 in
    (j.0 ∙ (k.0 ∙ sym c.self.view_is), search rules, hears_at _ _ _ _ _ taken)

pub split_seat-requires : goal.split_seat-requires
split_seat-requires g c =
    let l = c.load.ensures in
    let j = c.join_seat.ensures in
    let begins = c.args.witness.me.0.begins in
    let taken = ap (λ m. m.0) (l.2.1 ∙ (j.2 ∙ ap (λ m. (keeper_and_witness m.0.row begins, m.1)) c.requires.keeper.1)) in (
      l.0 ∙ (j.0 ∙ (c.requires.keeper.0 ∙ sym c.self.view_is)),
      search rules,
      lets_go_at _ _ _ _ _ taken,
    )

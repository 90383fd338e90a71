use Rattle.std.proofs.Common.{rules, sym, ap, ◌∙◌}
use Rattle.witness.specs.Rule.{witness_of_both}
use Rattle.witness.proofs.Steps.{compares_at, parts_at, takes_both_at}
use Rattle.witness.proofs.row.Row.compare.Goals as goal

pub join_seat-requires : goal.join_seat-requires
join_seat-requires g c =
    let a = c.requires.one in
    let b = c.requires.other in (
      a.0 ∙ sym c.self.view_is,
      b.0 ∙ sym c.self.view_is,
      ap (λ m. m.1) b.1,
      search rules,
      takes_both_at _ _ _ _ _ _ _ (ap (λ m. m.0) a.1) (ap (λ m. m.0) b.1),
    )

pub load-requires : goal.load-requires
load-requires g c =
    let j = c.join_seat.ensures in
    let a = c.requires.one in
    let also = c.args.other.me.0.begins in
    let taken = j.2 ∙ ap (λ m. (witness_of_both m.0.begins also, m.1)) a.1 in
    (j.0 ∙ (a.0 ∙ sym c.self.view_is), search rules, compares_at _ _ _ _ _ taken)

pub split_seat-requires : goal.split_seat-requires
split_seat-requires g c =
    let l = c.load.ensures in
    let j = c.join_seat.ensures in
    let also = c.args.other.me.0.begins in
    let taken = ap (λ m. m.0) (l.2.1 ∙ (j.2 ∙ ap (λ m. (witness_of_both m.0.begins also, m.1)) c.requires.one.1)) in (
      l.0 ∙ (j.0 ∙ (c.requires.one.0 ∙ sym c.self.view_is)),
      search rules,
      parts_at _ _ _ _ _ taken,
    )

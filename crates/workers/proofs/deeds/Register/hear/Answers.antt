use Rattle.std.proofs.Common.{◌≡◌, ◌∙◌, ◌++◌, [], List, ap, append-nil}
use Rattle.std.specs.Prelude.{slice_set}
use Rattle.roll.specs.Rule.{keeper, place_of, row_of, rows_of}
use Rattle.workers.specs.declared.deeds.Deed.{Deed}
use Rattle.workers.proofs.lists.SameRow.{set_same}
use Rattle.workers.proofs.deeds.Register.hear.Goals as goal

pub returns-clause-keeper : goal.returns-clause-keeper
returns-clause-keeper g c =
    let e = c.extend.ensures in
    let t = c.into_token.result in
    let rows = rows_of c.args.self.now.keeper in
    let none : row_of t ++ c.clear.new.self.items ≡ row_of t =
    ap (λ (more : List Deed). row_of t ++ more) c.clear.ensures.items ∙ append-nil (row_of t) in
    let same : slice_set rows (place_of t) (row_of t ++ c.clear.new.self.items) ≡ rows =
    ap (λ (row : List Deed). slice_set rows (place_of t) row) none ∙ set_same rows (place_of t) (row_of t) e.before in
    (e.keeper.0 ∙ c.requires.roll, e.keeper.1 ∙ ap (λ (rs : List (List Deed)). (keeper rs, [])) same)

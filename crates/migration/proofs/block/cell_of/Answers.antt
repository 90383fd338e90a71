use Rattle.std.proofs.Common.{◌≢◌, ◌≤◌, ◌+◌, ℕ, sym, ap, ◌∙◌, arith}
use Rattle.arena.specs.declared.place.Place.TheVariants.{Cell}
use Rattle.sound_words.specs.Kept.{kept_of}
use Rattle.migration.specs.Migrated.{claimed_node}
use Rattle.migration.proofs.Alike.{cell_named}
use Rattle.migration.proofs.Surveys.{claimed_is}
use Rattle.migration.proofs.block.cell_of.Goals as goal

pub returns : goal.returns
returns g c =
    let queue = c.args.queue.now in
    let cell : ℕ = c.args.cell.0 in
    let some : cell ≢ 0 = λ z. omega (arith, z, c.requires.cell.0) in
    let high : 2 ≤ kept_of queue (Cell c.args.cell) = omega (arith, c.if-answer-lt-GOT_CELL.false, c.kept_at-answer.ensures.value) in
    ap (λ (n : ℕ). n + 2) (sym (claimed_is queue.shape (kept_of queue) _ c.requires.survey.tokens.table cell some))
    ∙ sym (cell_named (kept_of queue (Cell c.args.cell)) (claimed_node queue.shape (kept_of queue) cell) high)

use Rattle.std.proofs.Common.{below_more, rules, sym, ◌∙◌, ◌<◌}
use Rattle.std.proofs.lemmas.Bool.{false≢true}
use Rattle.arena.specs.Place.{IsRecord}
use Rattle.sound_words.proofs.kept.KeptQueue.are_results_sound.Goals as goal

pub loop-cell-preserved : goal.loop-cell-preserved
loop-cell-preserved g c = below_more _ _ c.loop-cell.invariant (λ low. c.is_result_sound.ensures.0 c.if-not-is_result_sound.false)

pub returns-then-not-is_result_sound : goal.returns-then-not-is_result_sound
returns-then-not-is_result_sound g c =
    let one : IsRecord c.args.self.now.shape c.loop-cell.cell = search rules in
    (search rules, λ all. absurd (false≢true (sym c.if-not-is_result_sound.true ∙ c.is_result_sound.ensures.1 (all _ one))))

pub returns : goal.returns
returns g c = (
  λ told n r. let before : n < c.loop-cell.cell = search rules in c.loop-cell.invariant n before r.0,
  λ all. search rules,
)

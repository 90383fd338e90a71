use Rattle.std.proofs.Common.{rules, sym, ◌∙◌}
use Rattle.std.proofs.lemmas.Bool.{false≢true}
use Rattle.sound_words.proofs.Surveys.{rows_if, rows_results, rows_told}
use Rattle.sound_words.proofs.kept.KeptQueue.are_rows_sound.Goals as goal

pub returns-then-not-are_results_sound : goal.returns-then-not-are_results_sound
returns-then-not-are_results_sound g c = (
  search rules,
  λ sound. absurd (false≢true (sym c.if-not-are_results_sound.true ∙ c.are_results_sound.ensures.1 (rows_results _ _ sound))),
)

pub returns : goal.returns
returns g c = (
  λ told. rows_if _ _ c.requires.chain (c.are_rows_own.ensures.0 c.if-not-are_rows_own.false) (c.are_results_sound.ensures.0 c.if-not-are_results_sound.false) (c.are_claims_told.ensures.0 told),
  λ sound. c.are_claims_told.ensures.1 (rows_told _ _ sound),
)

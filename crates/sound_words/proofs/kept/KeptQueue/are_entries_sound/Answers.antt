use Rattle.std.proofs.Common.{rules, sym, ◌∙◌}
use Rattle.std.proofs.lemmas.Bool.{false≢true}
use Rattle.sound_words.proofs.EntrySteps.{entries_if, entries_inserted, entries_right, entries_told}
use Rattle.sound_words.proofs.kept.KeptQueue.are_entries_sound.Goals as goal

pub returns-then-not-are_inserted : goal.returns-then-not-are_inserted
returns-then-not-are_inserted g c = (
  search rules,
  λ sound. absurd (false≢true (sym c.if-not-are_inserted.true ∙ c.are_inserted.ensures.1 (entries_inserted _ _ sound))),
)

pub returns-then-not-are_entries_right : goal.returns-then-not-are_entries_right
returns-then-not-are_entries_right g c = (
  search rules,
  λ sound. absurd (false≢true (sym c.if-not-are_entries_right.true ∙ c.are_entries_right.ensures.1 (entries_right _ _ sound))),
)

pub returns : goal.returns
returns g c = (
  λ told. entries_if _ _ c.requires.chain (c.are_inserted.ensures.0 c.if-not-are_inserted.false) (c.are_logs_sound.ensures.0 c.if-not-are_logs_sound.false)
      (c.are_entries_right.ensures.0 c.if-not-are_entries_right.false) (c.are_removals_told.ensures.0 told),
  λ sound. c.are_removals_told.ensures.1 (entries_told _ _ sound),
)

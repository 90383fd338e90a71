use Rattle.std.proofs.lemmas.Bool.{eq-eqb, eqb-true}
use Rattle.sound_words.proofs.EntrySteps.{taken_if, taken_only, empty_if, empty_only}
use Rattle.sound_words.proofs.kept.KeptQueue.is_status_sound.Goals as goal

pub returns-in-1 : goal.returns-in-1
returns-in-1 g c = (
  λ told. taken_if _ _ _ _ _ c.kept_at-status.ensures.value c.kept_at-kind.ensures.value c.if-status-kind.false c.in-1.is (c.requires.places.order.on_chain _ (c.has_place.ensures.0 told)),
  λ told. c.has_place.ensures.1 (c.requires.places.order.noted _ (taken_only _ _ _ _ c.kept_at-status.ensures.value c.in-1.is told)),
)

pub returns-in-2 : goal.returns-in-2
returns-in-2 g c = (
  λ told. empty_if _ _ _ c.requires.chain c.requires.tokens.table _ _ _ c.requires.entry c.kept_at-status.ensures.value c.kept_at-kind.ensures.value c.if-status-kind.false c.in-2.is (eqb-true _ _ told),
  λ told. eq-eqb _ _ (empty_only _ _ _ c.requires.tokens.table _ _ c.kept_at-status.ensures.value c.in-2.is told),
)

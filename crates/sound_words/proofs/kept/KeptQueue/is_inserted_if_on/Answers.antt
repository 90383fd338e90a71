use Rattle.std.proofs.lemmas.Bool.{eq-eqb, eqb-true}
use Rattle.sound_words.proofs.EntrySteps.{inserted_if, inserted_only}
use Rattle.sound_words.proofs.kept.KeptQueue.is_inserted_if_on.Goals as goal

pub returns : goal.returns
returns g c = (
  λ told. inserted_if _ _ _ _ _ c.kept_at.ensures.value c.if-kept_at-node.false c.kept_at-2.ensures.value (eqb-true _ _ told),
  λ told. eq-eqb _ _ (inserted_only _ _ _ c.requires.places.order _ _ (c.has_place.ensures.0 c.if-not-has_place.false) c.kept_at-2.ensures.value told),
)

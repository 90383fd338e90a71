use Rattle.std.proofs.lemmas.Bool.{eq-eqb, eqb-true}
use Rattle.sound_words.proofs.EntrySteps.{removed_if, removed_only}
use Rattle.sound_words.proofs.kept.KeptQueue.is_removed_sound.Goals as goal

pub returns : goal.returns
returns g c = (
  λ told. removed_if _ _ _ c.requires.tokens.table _ _ c.kept_at-node.ensures.value c.if-node-eq0.false (eqb-true _ _ told),
  λ told. eq-eqb _ _ (removed_only _ _ _ c.requires.tokens.table _ _ c.requires.entry c.kept_at-node.ensures.value c.if-node-eq0.false told),
)

use Rattle.std.proofs.Common.{arith, sym, ◌∙◌}
use Rattle.std.proofs.lemmas.Bool.{eq-eqb, eqb-true}
use Rattle.sound_words.proofs.Surveys.{next_on_chain, in_turn, unclaimed_next}
use Rattle.sound_words.proofs.kept.KeptQueue.is_in_turn.Goals as goal

pub overflow_cast-next : goal.overflow_cast-next
overflow_cast-next g c =
    let h = c.requires.chain.issued _ (next_on_chain _ _ c.requires.chain _ _ c.requires.node c.kept_at-next.ensures.value c.if-next-eq0.false) in
    omega (arith, h.is_record.1, c.kept_at-next.ensures.few)

pub kept_at-requires-2 : goal.kept_at-requires-2
kept_at-requires-2 g c =
    (c.requires.chain.issued _ (next_on_chain _ _ c.requires.chain _ _ c.requires.node c.kept_at-next.ensures.value c.if-next-eq0.false)).is_record.1

pub returns : goal.returns
returns g c = (
  λ told. in_turn _ _ _ _ _ c.kept_at-next.ensures.value c.kept_at-2.ensures.value (eqb-true _ _ told),
  λ turn. eq-eqb _ _ (unclaimed_next _ _ c.requires.chain _ _ _ c.requires.node (sym c.kept_at.ensures.value ∙ c.if-kept_at-ne0.false) c.kept_at-next.ensures.value c.if-next-eq0.false c.kept_at-2.ensures.value turn),
)

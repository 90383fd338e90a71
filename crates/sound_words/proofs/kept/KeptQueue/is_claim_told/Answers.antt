use Rattle.std.proofs.Common.{arith, ◌∙◌, sym, rules}
use Rattle.sound_words.proofs.Surveys.{record_of_mark, claimed_by_mark, open_if, open_only, not_empty_only, not_if}
use Rattle.sound_words.proofs.kept.KeptQueue.is_claim_told.Goals as goal

pub overflow_cast-mark : goal.overflow_cast-mark
overflow_cast-mark g c =
    let m = record_of_mark _ _ c.requires.chain c.requires.claims _ _ c.requires.node c.kept_at-mark.ensures.value c.if-mark-eq0.false in
    omega (arith, m.1, c.kept_at-mark.ensures.few)

pub kept_at-requires : goal.kept_at-requires
kept_at-requires g c = (c.requires.durable, record_of_mark _ _ c.requires.chain c.requires.claims _ _ c.requires.node c.kept_at-mark.ensures.value c.if-mark-eq0.false)

pub is_passed-requires-clause-node : goal.is_passed-requires-clause-node
is_passed-requires-clause-node g c =
    c.requires.places.order.noted _ (claimed_by_mark _ _ c.requires.chain _ c.requires.node (λ z. c.if-mark-eq0.false (c.kept_at-mark.ensures.value ∙ z))).on_chain

pub returns-in-0 : goal.returns-in-0
returns-in-0 g c =
    let none = sym c.kept_at.ensures.value ∙ c.in-0.is in
    let turned = not_if c.is_passed.result _ c.is_passed.ensures.0 c.is_passed.ensures.1 in (
      λ told. open_if _ _ _ _ c.kept_at-mark.ensures.value none (turned.0 told),
      λ told. turned.1 (open_only _ _ c.requires.chain _ _ c.requires.node c.kept_at-mark.ensures.value c.if-mark-eq0.false none told),
    )

pub returns-in-1 : goal.returns-in-1
returns-in-1 g c = (
  search rules,
  λ told. absurd (not_empty_only _ _ c.requires.chain _ _ c.requires.node c.kept_at-mark.ensures.value c.if-mark-eq0.false (sym c.kept_at.ensures.value ∙ c.in-1.is) told),
)

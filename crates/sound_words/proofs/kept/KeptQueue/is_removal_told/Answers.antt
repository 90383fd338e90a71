use Rattle.std.proofs.Common.{rules, arith, ◌∙◌}
use Rattle.sound_words.proofs.Surveys.{record_of_mark, claimed_by_mark, not_if}
use Rattle.sound_words.proofs.EntrySteps.{removal_kind, untold_if, untold_only}
use Rattle.sound_words.proofs.kept.KeptQueue.is_removal_told.Goals as goal

pub overflow_cast-entry : goal.overflow_cast-entry
overflow_cast-entry g c =
    let m = record_of_mark _ _ c.requires.chain c.requires.claims _ _ c.requires.node c.kept_at-mark.ensures.value c.if-mark-eq0.false in
    omega (arith, m.1, c.kept_at-mark.ensures.few)

pub kept_at-requires : goal.kept_at-requires
kept_at-requires g c = (c.requires.log, record_of_mark _ _ c.requires.chain c.requires.claims _ _ c.requires.node c.kept_at-mark.ensures.value c.if-mark-eq0.false)

pub kept_at-requires-2 : goal.kept_at-requires-2
kept_at-requires-2 g c = (c.requires.log, record_of_mark _ _ c.requires.chain c.requires.claims _ _ c.requires.node c.kept_at-mark.ensures.value c.if-mark-eq0.false)

pub is_passed-requires-clause-node : goal.is_passed-requires-clause-node
is_passed-requires-clause-node g c =
    c.requires.places.order.noted _ (claimed_by_mark _ _ c.requires.chain _ c.requires.node (λ z. c.if-mark-eq0.false (c.kept_at-mark.ensures.value ∙ z))).on_chain

pub returns-then-kept_at-ne-DEQUEUE_KIND : goal.returns-then-kept_at-ne-DEQUEUE_KIND
returns-then-kept_at-ne-DEQUEUE_KIND g c = (
  search rules,
  λ told. absurd (c.if-kept_at-ne-DEQUEUE_KIND.true (removal_kind _ _ c.requires.chain _ _ _ c.requires.node c.kept_at-mark.ensures.value c.if-mark-eq0.false c.kept_at.ensures.value told)),
)

pub returns : goal.returns
returns g c =
    let turned = not_if c.is_passed.result _ c.is_passed.ensures.0 c.is_passed.ensures.1 in (
      λ told. untold_if _ _ _ _ _ c.kept_at-mark.ensures.value c.kept_at.ensures.value c.if-kept_at-ne-DEQUEUE_KIND.false (turned.0 told),
      λ told. turned.1 (untold_only _ _ c.requires.chain _ _ _ c.requires.node c.kept_at-mark.ensures.value c.if-mark-eq0.false c.kept_at-2.ensures.value c.if-kept_at-ne0.false told),
    )

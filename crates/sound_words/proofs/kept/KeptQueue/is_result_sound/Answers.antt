use Rattle.std.proofs.Common.{rules, sym, ◌∙◌}
use Rattle.std.proofs.lemmas.Bool.{eq-eqb, eqb-true}
use Rattle.sound_words.proofs.Surveys.{record_on_chain, result_if, result_some, result_only}
use Rattle.sound_words.proofs.kept.KeptQueue.is_result_sound.Goals as goal

pub returns-then-node-eq0 : goal.returns-then-node-eq0
returns-then-node-eq0 g c = (
  search rules,
  λ told. absurd (result_some _ _ _ c.requires.chain c.requires.tokens.table _ _ c.requires.cell c.kept_at-answer.ensures.value c.if-answer-lt-GOT_CELL.false told c.if-node-eq0.true),
)

pub named-requires : goal.named-requires
named-requires g c =
    (record_on_chain _ _ c.requires.chain _ (c.requires.tokens.table.claim _ c.if-node-eq0.false).on_chain).1

pub returns : goal.returns
returns g c = (
  λ told. result_if _ _ _ c.requires.tokens.table _ _ c.if-node-eq0.false c.kept_at-answer.ensures.value (sym c.named.ensures ∙ eqb-true _ _ told),
  λ told. eq-eqb _ _ (c.named.ensures ∙ result_only _ _ _ c.requires.tokens.table _ _ c.requires.cell c.kept_at-answer.ensures.value c.if-answer-lt-GOT_CELL.false told),
)

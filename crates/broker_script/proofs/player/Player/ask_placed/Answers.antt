use Rattle.std.proofs.Common.{◌∷◌, [], ap, sym, ◌∙◌}
use Rattle.std.proofs.lemmas.Bool.{false≢true}
use Rattle.broker_lines.specs.declared.printed.Printed.{Printed}
use Rattle.broker_script.proofs.player.Player.ask_placed.Goals as goal

pub returns-clause-asks : goal.returns-clause-asks
returns-clause-asks c = record {
  result = c.ask-answer.result;
  line = c.fill.ensures ∙ ap (λ (l : Printed). l ∷ []) c.answer_line.ensures;
  asked = c.ask-answer.ensures.asked (λ e. false≢true (sym c.if-no_memory.false ∙ c.is_no_memory-no_memory.ensures.1 e));
}

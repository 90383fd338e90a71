use Rattle.std.proofs.Common.{sym, ◌∙◌}
use Rattle.grammar.proofs.Cuts.{second_word}
use Rattle.grammar.proofs.line.one_number.Goals as goal

pub returns-then-is_some : goal.returns-then-is_some
returns-then-is_some c n within is = second_word c.first_word.result.1 c.args.text.now c.first_word.result.0.now c.first_word.ensures (sym c.is_some.ensures ∙ c.if-is_some.true) _ is

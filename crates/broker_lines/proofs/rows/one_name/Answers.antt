use Rattle.std.proofs.Common.{ap}
use Rattle.std.specs.Prelude.{is_some}
use Rattle.grammar.proofs.Facts.{second_word}
use Rattle.broker_lines.proofs.rows.one_name.Goals as goal

pub returns-in_default-Some : goal.returns-in_default-Some
returns-in_default-Some c name served is =
    second_word c.first_word.result.1 c.args.text.now c.first_word.result.0.now c.first_word.ensures (ap is_some c.in_default-Some.is-1) name is

use Rattle.std.proofs.Common.{◌≡◌, false, sym, ◌∙◌}
use Rattle.broker_lines.specs.Script.{may_follow}
use Rattle.broker_lines.proofs.Words.{same_statement}
use Rattle.broker_lines.proofs.adding.statement_after.Goals as goal

-- a line says one statement at most
pub returns-else-may_follow : goal.returns-else-may_follow
returns-else-may_follow c statement says may =
    let found = c.in_ok-statement.ensures in
    let same : statement ≡ c.in_ok-statement.statement =
    same_statement statement c.in_ok-statement.statement says.served found.served (sym says.words ∙ found.words) in
    let told : may_follow c.args.before.now c.in_ok-statement.statement ≡ false = sym c.may_follow.ensures ∙ c.if-may_follow.false in
    cc

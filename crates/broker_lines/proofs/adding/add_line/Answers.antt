use Rattle.std.proofs.Common.{◌≡◌, List, [], ◌∷◌, ◌++◌, sym, subst, ◌∙◌, true}
use Rattle.std.proofs.lemmas.Bool.{not-false}
use Rattle.std.specs.Prelude.{Option, Some}
use Rattle.grammar.specs.Lines.{is_statement}
use Rattle.broker_lines.specs.Grammar.{SaysStatement}
use Rattle.broker_lines.specs.Script.{Says, may_follow}
use Rattle.broker_lines.specs.declared.statements.BrokerLine.{BrokerLine}
use Rattle.broker_lines.specs.declared.statements.Statement.{Statement}
use Rattle.broker_lines.proofs.Scripts.{bad_later, says_more}
use Rattle.broker_lines.proofs.adding.add_line.Goals as goal

pub returns-in-None-clause-bad : goal.returns-in-None-clause-bad
returns-in-None-clause-bad c e lines says other more =
    let line = c.args.line.now in
    let old = c.args.statements.now.items in
    let told : is_statement line ≡ true = not-false (is_statement line) (sym c.is_skipped.ensures ∙ c.if-is_skipped.false) in
    let before : Says lines (Some c.in-Some.field-0) old = subst (λ (b : Option BrokerLine). Says lines b old) c.in-Some.is says in
    let never = subst (λ (ss : List Statement). (next : Statement) → SaysStatement line next → may_follow ss next ≡ true → ⊥)
    c.deref.ensures.value c.in-None.ensures in
    bad_later lines line c.in-Some.field-0 old before told never other more

pub returns-in-Ok-clause-good : goal.returns-in-Ok-clause-good
returns-in-Ok-clause-good c e lines says few =
    let line = c.args.line.now in
    let old = c.args.statements.now.items in
    let told : is_statement line ≡ true = not-false (is_statement line) (sym c.is_skipped.ensures ∙ c.if-is_skipped.false) in
    let before : Says lines (Some c.in-Some.field-0) old = subst (λ (b : Option BrokerLine). Says lines b old) c.in-Some.is says in
    let found = c.in-Some-statement_after.ensures in
    let may : may_follow old c.in-Some-statement_after.next ≡ true =
    subst (λ (ss : List Statement). may_follow ss c.in-Some-statement_after.next ≡ true) c.deref.ensures.value found.1 in
    let after = says_more lines line c.in-Some.field-0 old c.in-Some-statement_after.next before few told found.0 may in
    subst (λ (b : Option BrokerLine). Says (lines ++ line ∷ []) b c.push.new.self.items) (sym c.in-Some.is)
    (subst (λ (ss : List Statement). Says (lines ++ line ∷ []) (Some c.in-Some.field-0) ss) (sym c.in-Ok.ensures.items) after)

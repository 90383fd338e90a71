use Rattle.std.proofs.Common.{◌≡◌, List, [], ◌∷◌, ◌++◌, sym, subst, ◌∙◌, true}
use Rattle.std.proofs.lemmas.Bool.{not-false}
use Rattle.std.specs.Prelude.{Option, Some}
use Rattle.grammar.specs.Lines.{is_statement}
use Rattle.grammar.specs.Script.{Says, EndsBadly}
use Rattle.grammar.specs.declared.commands.Command.{Command}
use Rattle.grammar.specs.declared.commands.QueueLine.{QueueLine}
use Rattle.grammar.proofs.Scripts.{ends_badly, says_command}
use Rattle.grammar.proofs.parser.add_line.Goals as goal

pub returns-in-None-clause-bad : goal.returns-in-None-clause-bad
returns-in-None-clause-bad c e =
    let told = sym c.is_skipped.ensures ∙ c.if-is_skipped.false in
    subst (λ (q : Option QueueLine). EndsBadly q c.args.commands.now.items c.args.line.now) (sym c.in-Some.is) (ends_badly c.in-Some.first c.args.commands.now.items c.args.line.now told c.in-None.ensures)

pub returns-in-Ok-clause-good : goal.returns-in-Ok-clause-good
returns-in-Ok-clause-good c e lines says few =
    let line = c.args.line.now in
    let old = c.args.commands.now.items in
    let told : is_statement line ≡ true = not-false (is_statement line) (sym c.is_skipped.ensures ∙ c.if-is_skipped.false) in
    let before : Says lines (Some c.in-Some.first) old = subst (λ (q : Option QueueLine). Says lines q old) c.in-Some.is says in
    let says_line = c.in-Some-command_on.ensures in
    let after = says_command lines line c.in-Some.first old c.in-Some-command_on.next before few told says_line.0 says_line.1 in
    subst (λ (q : Option QueueLine). Says (lines ++ line ∷ []) q c.push.new.self.items) (sym c.in-Some.is) (subst (λ (cs : List Command). Says (lines ++ line ∷ []) (Some c.in-Some.first) cs) (sym c.in-Ok.ensures.items) after)

use Rattle.std.proofs.Common.{◌≡◌, ◌∙◌, length, ap, sym, rules}
use Rattle.std.specs.Prelude.{codes}
use Rattle.grammar.proofs.ItemWords.{never_empty, dot_spelled, word_spelled}
use Rattle.grammar.proofs.line.value.Goals as goal

pub returns-then-is_empty : goal.returns-then-is_empty
returns-then-is_empty c value fits same =
    let none : length c.args.word.now ≡ 0 = search rules in
    never_empty value (ap length (sym same) ∙ none)

pub returns-then-eq : goal.returns-then-eq
returns-then-eq c =
    let dot : c.args.word.now ≡ codes "." = search rules in
    dot_spelled c.args.word.now c.of_hex.result dot c.of_hex.ensures

pub returns : goal.returns
returns c = word_spelled c.args.word.now c.of_hex-2.result (λ dot. search (rules, dot)) (λ none. search (rules, none))
    c.of_hex-2.ensures

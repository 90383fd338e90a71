use Rattle.std.proofs.Common.{◌≡◌, ◌≢◌, ◌<◌, ◌^◌, ℕ, List, refl, sym, subst}
use Rattle.std.proofs.lemmas.Fmt.{IsAscii-decimal}
use Rattle.std.proofs.lemmas.Str.{IsUtf8-from_ascii}
use Rattle.std.specs.Prelude.{Option, MatchOption, decimal}
use Rattle.std.specs.Str.{IsUtf8}
use Rattle.grammar.specs.Lines.{HasPlainStart}
use Rattle.grammar.proofs.Numbers.{parsed_is_decimal}
use Rattle.grammar.proofs.line.number.Goals as goal

pub returns-in-Ok : goal.returns-in-Ok
returns-in-Ok c =
    let same : c.in-Ok.text.now ≡ c.args.word.now = c.in-Ok.ensures.cases.0 in
    let plain : HasPlainStart c.in-Ok.text.now = subst HasPlainStart (sym same) (c.if-begins_wrong.ensures.right refl) in
    let told = parsed_is_decimal c.in-Ok.text.now c.parse.result plain c.parse.ensures.value.0 in
    subst (λ (w : List ℕ). MatchOption c.ok.result ((n : ℕ) → n < 2 ^ 64 → w ≢ decimal n) (λ n. w ≡ decimal n)) same (subst (λ (r : Option ℕ). MatchOption r ((n : ℕ) → n < 2 ^ 64 → c.in-Ok.text.now ≢ decimal n) (λ n. c.in-Ok.text.now ≡ decimal n)) (sym c.ok.ensures.value) told)

pub returns-in-Err : goal.returns-in-Err
returns-in-Err c n small is = c.in-Err.ensures.cases.0 (subst IsUtf8 (sym is) (IsUtf8-from_ascii (decimal n) (IsAscii-decimal n small)))

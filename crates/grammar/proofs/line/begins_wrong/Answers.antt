use Rattle.std.proofs.Common.{◌≡◌, ℕ, List, slice_index, length, ◌<◌, ◌≤◌, subst, sym, arith, rules}
use Rattle.grammar.proofs.Numbers.{decimal_no_sign, decimal_no_zero}
use borrow.Author.Tests.{ltb-true}
use Rattle.grammar.proofs.line.begins_wrong.Goals as goal

pub returns-in-Some-eq43-clause-wrong : goal.returns-in-Some-eq43-clause-wrong
returns-in-Some-eq43-clause-wrong c _ n small is =
    let first : slice_index c.args.word.now 0 ≡ 43 = search rules in
    decimal_no_sign n small (subst (λ (w : List ℕ). slice_index w 0 ≡ 43) is first)

pub returns-in-Some-eq48-clause-wrong : goal.returns-in-Some-eq48-clause-wrong
returns-in-Some-eq48-clause-wrong c long n small is =
    let first : slice_index c.args.word.now 0 ≡ 48 = search rules in
    let more : 1 < length c.args.word.now = ltb-true _ _ long in
    let one : length c.args.word.now ≤ 1 = subst (λ (w : List ℕ). length w ≤ 1) (sym is) (decimal_no_zero n small (subst (λ (w : List ℕ). slice_index w 0 ≡ 48) is first)) in
    omega arith

use Rattle.std.proofs.Common.{◌≡◌, ◌<◌, ◌^◌, arith, sym, ◌∙◌}
use Rattle.std.proofs.lemmas.Fmt.{decimal_injective}
use Rattle.grammar.proofs.line.number_within.Goals as goal
use Rattle.grammar.proofs.line.number_within.Goals.{then-n-limits-via-then-n-limits, then-n-limits-via-else-n-limits+then-n-limits-2}

pub returns-then-n-limits : goal.returns-then-n-limits
returns-then-n-limits c n within is =
    let small : c.in_ok-n.n < 2 ^ 64 = omega arith in
    let same : c.in_ok-n.n ≡ n = decimal_injective c.in_ok-n.n n small within.small (sym c.in_ok-n.ensures ∙ is) in
    elim c.then-n-limits.branch [ then-n-limits-via-then-n-limits w ↦ omega arith | then-n-limits-via-else-n-limits+then-n-limits-2 w ↦ omega arith ]

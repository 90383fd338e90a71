use Rattle.std.proofs.Common.{◌≡◌, ◌+◌, ◌-◌, ℕ, drop, min, take, ap, ◌∙◌, arith}
use Rattle.std.specs.Prelude.{Option}
use Rattle.std.specs.List.{range_with_len}
use Rattle.explore.specs.Points.{first_of}
use Rattle.explore.proofs.Numbers.{drop_range, take_range}
use Rattle.explore.proofs.part.Part.ends.Goals as goal

pub returns-in_default-clause-part : goal.returns-in_default-clause-part
returns-in_default-clause-part c =
    let n : ℕ = c.args.points in
    let from : ℕ = c.min-from.result in
    let start : 0 + min c.args.self.from n ≡ from = omega (arith, c.min-from.ensures) in
    let rest : n - min c.args.self.from n ≡ n - from = omega (arith, c.min-from.ensures) in
    ap (λ (o : Option ℕ). first_of o (drop c.args.self.from (range_with_len 0 n))) c.in_default.is
    ∙ drop_range c.args.self.from 0 n ∙ ap (λ x. range_with_len x (n - min c.args.self.from n)) start
    ∙ ap (range_with_len from) rest

pub returns-clause-part : goal.returns-clause-part
returns-clause-part c =
    let n : ℕ = c.args.points in
    let from : ℕ = c.min-from.result in
    let count : ℕ = c.in-Some.count in
    let start : 0 + min c.args.self.from n ≡ from = omega (arith, c.min-from.ensures) in
    let rest : n - min c.args.self.from n ≡ n - from = omega (arith, c.min-from.ensures) in
    let all : min count (n - from) ≡ from + c.min.result - from = omega (arith, c.min.ensures) in
    ap (λ (o : Option ℕ). first_of o (drop c.args.self.from (range_with_len 0 n))) c.in-Some.is
    ∙ ap (take count) (drop_range c.args.self.from 0 n ∙ ap (λ x. range_with_len x (n - min c.args.self.from n)) start
    ∙ ap (range_with_len from) rest)
    ∙ take_range count from (n - from) ∙ ap (range_with_len from) all

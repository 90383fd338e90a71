use Rattle.std.proofs.Common.{◌≡◌, ◌≤◌, ◌<◌, ◌+◌, ◌-◌, ◌*◌, ℕ, List, Vec, Global, length, min, map, ap, subst, ◌∙◌, arith}
use Rattle.std.specs.Prelude.{IfErr, Result}
use Rattle.std.specs.List.{range_with_len}
use Rattle.std.proofs.lemmas.Grind.{div_ceil_times}
use Rattle.std.proofs.lemmas.Result.{IfOk-weaker}
use Rattle.words.specs.declared.refusal.Refusal.{Refusal}
use Rattle.words.specs.declared.refusal.Refusal.TheVariants.{NoMemory}
use Rattle.rayon.specs.Numbers.{nat_range}
use Rattle.rayon.proofs.ToStd.{nat_range-All}
use Rattle.explore.specs.Pieces.{piece_range}
use Rattle.explore.specs.Points.{Found, found_of, found_at}
use Rattle.explore.specs.declared.sweep.TheConstants.{PIECE}
use Rattle.explore.proofs.Sweeps.{PiecesMade, pieces_are, pieces_made, pieces_refused, points_in}
use Rattle.explore.specs.declared.point.Point.{Point}
use Rattle.explore.proofs.sweep.some_points.Goals as goal

pub collect-made-requires-clause-ready : goal.collect-made-requires-clause-ready
collect-made-requires-clause-ready g c κs within =
    let ends = c.into_par_iter.ensures in
    let from : ℕ = c.args.from in
    let to : ℕ = c.args.to in
    let most = length c.args.schedule.now.acts.items in
    let few = (div_ceil_times (to - from) 128 (omega arith)).1 in
    let inside = nat_range-All (λ i. (from + i * PIECE < to) × (to ≤ most + 1)) 0 c.div_ceil-pieces.result
    (λ i low high. (omega (arith, high, few, c.div_ceil-pieces.ensures, c.requires.ordered), c.requires.within)) in
    rw (c.map.ensures.base, c.map.ensures.f, c.with_min_len.ensures.base, ends.0, ends.1) (λ k d lt. (inside k d lt, λ y post. tt))

pub returns-in-Ok-Err-clause-errors : goal.returns-in-Ok-Err-clause-errors
returns-in-Ok-Err-clause-errors g c =
    let schedule = c.args.schedule.now in
    let f : ℕ → Found = found_at schedule.layout schedule.acts.items schedule.evictions in
    let r : ℕ → List ℕ = piece_range c.args.from c.args.to in
    let h = c.in-Ok-Err.ensures in
    let chain = rw (c.map.ensures.base, c.map.ensures.f, c.with_min_len.ensures.base) at h.1 in
    subst (λ (x : Result (Vec (Vec Point Global) Global) Refusal). IfErr x (λ e. e ≡ NoMemory)) c.in-Ok-Err.field-0-is
    (pieces_refused f r chain.0 h.0 c.in-Ok-Err.field-0 chain.2 h.2)

pub returns-in-Ok-Ok-clause-points : goal.returns-in-Ok-Ok-clause-points
returns-in-Ok-Ok-clause-points g c =
    let schedule = c.args.schedule.now in
    let from : ℕ = c.args.from in
    let to : ℕ = c.args.to in
    let f : ℕ → Found = found_at schedule.layout schedule.acts.items schedule.evictions in
    let r : ℕ → List ℕ = piece_range from to in
    let n : ℕ = c.div_ceil-pieces.result in
    let ends = c.into_par_iter.ensures in
    let h = c.in-Ok-Ok.ensures in
    let chain = rw (c.map.ensures.base, c.map.ensures.f, c.with_min_len.ensures.base) at h.1 in
    let all = (div_ceil_times (to - from) 128 (omega arith)).0 in
    let whole : min (n * PIECE) (to - from) ≡ to - from = omega (arith, all, c.div_ceil-pieces.ensures) in
    let same : n - 0 ≡ n = omega arith in
    let made = pieces_made f r chain.0 (range_with_len 0 n) h.0 c.in-Ok-Ok.field-0
    (chain.1 ∙ (λ i. nat_range (ends.0 i) (ends.1 i)) ∙ ap (range_with_len 0) same) chain.2 h.2 in
    let here = subst (λ (x : Result (Vec (Vec Point Global) Global) Refusal). PiecesMade f r (range_with_len 0 n) x) c.in-Ok-Ok.field-0-is made in
    IfOk-weaker c.joined.result (λ points. points.items ≡ points_in c.in-Ok-Ok.pieces.items)
    (λ points. map found_of points.items ≡ map f (range_with_len from (to - from)))
    (λ points is. ap (map found_of) is ∙ here ∙ ap (map f) (pieces_are from to n ∙ ap (range_with_len from) whole))
    c.joined.ensures.points

use Rattle.std.proofs.Common.{◌≡◌, ◌≤◌, ◌+◌, ℕ, length, ap, ◌∙◌, arith}
use Rattle.explore.specs.Points.{Found, found_at}
use Rattle.explore.proofs.Sweeps.{more_made}
use Rattle.explore.proofs.sweep.all_points.Goals as goal

pub made-preserved : goal.made-preserved
made-preserved g c =
    let schedule = c.args.schedule.now in
    let f : ℕ → Found = found_at schedule.layout schedule.acts.items schedule.evictions in
    let old = c.made.points.items in
    let begun : ℕ = c.args.from + c.len-in-made.result in
    let here : begun ≡ c.args.from + length old = ap (λ n. c.args.from + n) (c.len-in-made.ensures ∙ c.made.points.ok.0) in
    let up : begun ≤ c.end_of_batch-end.result = omega (arith, c.end_of_batch-end.ensures.later) in
    let both = more_made f old c.in_ok-more.more.items c.append.new.points.items c.args.from begun c.end_of_batch-end.result
    c.in_ok-append.ensures.points here up c.made.invariant.made c.in_ok-more.ensures.points in
    record { few = omega (arith, both.1, c.end_of_batch-end.ensures.within); made = both.0 }

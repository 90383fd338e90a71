use Rattle.std.proofs.Common.{◌≡◌, ◌≤◌, ℕ, length, map, take, ap, ◌∙◌, arith}
use Rattle.std.proofs.lemmas.List.{length-take}
use Rattle.explore.specs.Points.{Found, found_after, found_of, found_at}
use Rattle.explore.proofs.Sweeps.{point_more}
use Rattle.explore.proofs.walk.evicted_points.Goals as goal

pub loop-point-preserved : goal.loop-point-preserved
loop-point-preserved c =
    let f : ℕ → Found = found_at c.args.layout c.args.acts.now c.args.evictions in
    let point : ℕ = c.loop-point.point in
    let up : c.args.from ≤ point = omega (arith, c.loop-point.auto.point) in
    let all : length (take point c.args.acts.now) ≡ point =
    length-take point c.args.acts.now ∙ omega (arith, c.loop-point-test.true, c.requires.within) in
    let is : found_of c.in_ok-crash.field-0 ≡ f point =
    c.in_ok-crash.ensures.found ∙ ap (found_after c.args.layout (take point c.args.acts.now) c.args.evictions) all in
    ap (map found_of) c.in_ok-push.ensures.items
    ∙ point_more f c.loop-point.points.items c.in_ok-crash.field-0 c.args.from point up c.loop-point.invariant is

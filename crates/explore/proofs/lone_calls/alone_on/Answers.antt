use Rattle.std.proofs.Common.{◌≡◌, ◌+◌, ◌++◌, ◌≤◌, ℕ, length, take, ap, ◌∙◌, refl, arith}
use Rattle.explore.specs.Stopped.{alone_at}
use Rattle.explore.proofs.StoppedCalls.{next_found, up_to}
use Rattle.explore.proofs.lone_calls.alone_on.Goals as goal

pub loop-point-preserved : goal.loop-point-preserved
loop-point-preserved c =
    let s = c.args.layout in
    let acts = c.args.acts.now in
    let point : ℕ = c.loop-point.point in
    let old = c.loop-point.found.items in
    let within : point ≤ length acts = omega (arith, c.loop-point-test.true) in
    let here = up_to s acts (take point acts) point refl within in
    let these : c.add_clients.new.found.items ≡ old ++ alone_at s acts point =
    c.in_ok-add_clients.ensures.found ∙ ap (λ l. old ++ l) here in
    next_found (alone_at s acts) old c.add_clients.new.found.items point (length acts + 1) c.loop-point-test.true these
    ∙ c.loop-point.invariant

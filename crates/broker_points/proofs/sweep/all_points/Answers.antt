use Rattle.std.proofs.Common.{◌≤◌, ◌-◌, ◌∙◌, ℕ, List, length, map, subst, arith}
use Rattle.std.specs.List.{AllZip, range_with_len}
use Rattle.broker_points.specs.Points.{IsPointAt}
use Rattle.broker_points.specs.Sweep.{text_of}
use Rattle.broker_points.proofs.Sweeps.{more_made}
use Rattle.broker_points.proofs.sweep.all_points.Goals as goal

pub made-preserved : goal.made-preserved
made-preserved g c =
    let schedule = c.args.schedule.now in
    let P : ℕ → List ℕ → Type 0 =
    IsPointAt (record { clients = schedule.broker.clients; records = schedule.broker.records }) schedule.acts.items schedule.evictions in
    let old = c.made.points.items in
    let to = c.end_of_batch-to.result in
    let up : length old ≤ to = omega (arith, c.end_of_batch-to.ensures.later) in
    let more = c.in_ok-more.more.items in
    let each : AllZip P (range_with_len (length old) (to - length old)) (map text_of more) =
    subst (λ (n : ℕ). AllZip P (range_with_len n (to - n)) (map text_of more)) (c.len-from.ensures ∙ c.made.points.ok.0) c.in_ok-more.ensures.points in
    let both = more_made P old more c.append.new.points.items to c.in_ok-append.ensures.points up c.made.invariant.made each c.in_ok-more.ensures.ok in
    record { few = omega (arith, both.1, c.end_of_batch-to.ensures.within); made = both.0 }

use Rattle.std.proofs.Common.{◌≤◌, ℕ, List, length, ◌∙◌, arith}
use Rattle.std.proofs.lemmas.Result.{IfOk-weaker}
use Rattle.arena.specs.Limits.{AreCounts}
use Rattle.rayon.specs.Numbers.{nat_range}
use Rattle.rayon.proofs.ToStd.{nat_range-All}
use Rattle.broker_points.specs.Points.{IsPointAt}
use Rattle.broker_points.proofs.Sweeps.{batch_made, batch_refused}
use Rattle.broker_points.proofs.sweep.some_points.Goals as goal

pub collect-made-requires-clause-ready : goal.collect-made-requires-clause-ready
collect-made-requires-clause-ready g c κs within =
    let ends = c.into_par_iter.ensures in
    let schedule = c.args.schedule.now in
    let most = length schedule.acts.items in
    let inside = nat_range-All (λ i. AreCounts schedule.broker.clients schedule.broker.records × (i ≤ most)) c.args.from c.args.to
    (λ i low high. (c.requires.served, omega (arith, high, c.requires.within))) in
    rw (c.map.ensures.base, c.map.ensures.f, c.with_min_len.ensures.base, ends.0, ends.1) (λ k d lt. (inside k d lt, λ y p. tt))

pub returns-in-Ok-clause-points : goal.returns-in-Ok-clause-points
returns-in-Ok-clause-points g c =
    let schedule = c.args.schedule.now in
    let P : ℕ → List ℕ → Type 0 =
    IsPointAt (record { clients = schedule.broker.clients; records = schedule.broker.records }) schedule.acts.items schedule.evictions in
    let ends = c.into_par_iter.ensures in
    let h = c.in-Ok.ensures in
    let chain = rw (c.map.ensures.base, c.map.ensures.f, c.with_min_len.ensures.base) at h.1 in
    IfOk-weaker c.in-Ok.points _ _ (λ points made. made.0)
    (batch_made P chain.0 (nat_range c.args.from c.args.to) h.0 c.in-Ok.points
    (chain.1 ∙ (λ i. nat_range (ends.0 i) (ends.1 i))) chain.2 h.2)

pub returns-in-Ok-clause-ok : goal.returns-in-Ok-clause-ok
returns-in-Ok-clause-ok g c =
    let schedule = c.args.schedule.now in
    let P : ℕ → List ℕ → Type 0 =
    IsPointAt (record { clients = schedule.broker.clients; records = schedule.broker.records }) schedule.acts.items schedule.evictions in
    let ends = c.into_par_iter.ensures in
    let h = c.in-Ok.ensures in
    let chain = rw (c.map.ensures.base, c.map.ensures.f, c.with_min_len.ensures.base) at h.1 in
    IfOk-weaker c.in-Ok.points _ _ (λ points made. made.1)
    (batch_made P chain.0 (nat_range c.args.from c.args.to) h.0 c.in-Ok.points
    (chain.1 ∙ (λ i. nat_range (ends.0 i) (ends.1 i))) chain.2 h.2)

pub returns-in-Ok-clause-errors : goal.returns-in-Ok-clause-errors
returns-in-Ok-clause-errors g c =
    let schedule = c.args.schedule.now in
    let P : ℕ → List ℕ → Type 0 =
    IsPointAt (record { clients = schedule.broker.clients; records = schedule.broker.records }) schedule.acts.items schedule.evictions in
    let h = c.in-Ok.ensures in
    let chain = rw (c.map.ensures.base, c.map.ensures.f, c.with_min_len.ensures.base) at h.1 in
    batch_refused P chain.0 h.0 c.in-Ok.points chain.2 h.2

use Rattle.std.proofs.Common.{refl, subst, Err, Ok}
use Rattle.named.specs.Brokers.{Brokered}
use Rattle.named.specs.Finding.{IsPlaced}
use Rattle.workers.specs.Following.{Held}
use Rattle.workers.specs.Seen.{IsRefusedAt}
use Rattle.workers.proofs.guard.Refusals.{refused_found, unplaced, unplaced_settled}
use Rattle.workers.proofs.locked.Locked.begin_found.Goals as goal

pub returns-in-Err-clause-errors : goal.returns-in-Err-clause-errors
returns-in-Err-clause-errors g c =
    let r = c.args.request.now in
    let refusal = c.in-Err.refusal in
    let placed = subst (λ (b : Brokered). IsPlaced b r.name (Err refusal)) c.broker.ensures.broker c.in-Err.ensures in
    unplaced g.J.Naming.clients g.J.Naming.first _ c.self.invariant.1 c.args.seat.list.items r refusal placed

pub returns-in-Err-clause-refused : goal.returns-in-Err-clause-refused
returns-in-Err-clause-refused g c =
    let r = c.args.request.now in
    let refusal = c.in-Err.refusal in
    let placed = subst (λ (b : Brokered). IsPlaced b r.name (Err refusal)) c.broker.ensures.broker c.in-Err.ensures in
    subst (λ (v : Held). IsRefusedAt v.session c.args.seat.client r refusal) c.self.view_is
    (record { place = Err refusal; placed = placed; refused = refl })

pub returns-in-Ok-clause-refused : goal.returns-in-Ok-clause-refused
returns-in-Ok-clause-refused g c =
    let r = c.args.request.now in
    let queue = c.in-Ok.queue in
    let placed = subst (λ (b : Brokered). IsPlaced b r.name (Ok queue)) c.broker.ensures.broker c.in-Ok.ensures in
    refused_found _ c.args.seat.client r queue c.begin_in.result.1
    (subst (λ (v : Held). IsPlaced v.session.broker r.name (Ok queue)) c.self.view_is placed) c.begin_in.ensures.refused

pub returns-in-Err-clause-settled : goal.returns-in-Err-clause-settled
returns-in-Err-clause-settled g c = λ reply was.
    let r = c.args.request.now in
    let refusal = c.in-Err.refusal in
    let placed = subst (λ (b : Brokered). IsPlaced b r.name (Err refusal)) c.broker.ensures.broker c.in-Err.ensures in
    unplaced_settled g.J.Naming.clients g.J.Naming.first _ c.self.invariant.1 c.args.seat.client r reply was refusal
    placed

use Rattle.std.proofs.Common.{rules, ◌≡◌, sym, subst, Result, Err}
use Rattle.std.specs.Prelude.{IfErr}
use Rattle.words.specs.declared.refusal.Refusal.{Refusal}
use Rattle.named.specs.Brokers.{Brokered, world_at}
use Rattle.named.specs.Slots.{IsWhyUnread}
use Rattle.workers.specs.Refusals.{IsWhyNoUsage}
use Rattle.workers.specs.declared.looks.Usage.{Usage}
use Rattle.workers.proofs.histories.Renewals.{usage_is, usage_refused}
use Rattle.workers.proofs.locked.Locked.held.Goals as goal

pub returns-in_err-content-clause-errors : goal.returns-in_err-content-clause-errors
returns-in_err-content-clause-errors g c =
    let first = g.J.Naming.first in
    let slot = c.args.slot in
    let refusal = c.in_err-content.field-0.0 in
    let why = subst (λ (b : Brokered). IsWhyUnread (world_at b slot.0) refusal) c.broker.ensures.broker
    c.in_err-content.ensures.errors in
    let answer : c.from_residual.result ≡ Err refusal = search rules in
    subst (λ (r : Result Usage Refusal). IfErr r (IsWhyNoUsage first slot)) (sym answer)
    (usage_refused g.J.Naming.clients first _ c.self.invariant.1 slot (let r : Result Usage Refusal = Err refusal in r) why)

pub returns-clause-counts : goal.returns-clause-counts
returns-clause-counts g c =
    usage_is g.J.Naming.clients g.J.Naming.first _ c.self.invariant.1 _ c.broker-2.result.now c.broker-3.result.now
    c.broker-2.ensures.broker c.broker-3.ensures.broker c.clients.ensures c.records.ensures

use Rattle.std.proofs.Common.{rules, ◌≡◌, sym, subst, Result, Ok, Err}
use Rattle.std.specs.Prelude.{IfErr}
use Rattle.arena.specs.declared.broker.SlotId.{SlotId}
use Rattle.directory.specs.Directory.{IsNamed}
use Rattle.interleave.specs.Queue.{told_in, told_to}
use Rattle.words.specs.declared.refusal.Refusal.{Refusal}
use Rattle.words.specs.declared.told.Told.{Told}
use Rattle.named.specs.Brokers.{Brokered}
use Rattle.named.specs.Finding.{IsPlaced}
use Rattle.workers.specs.Following.{Held}
use Rattle.workers.specs.Refusals.{IsWhyNotTold}
use Rattle.workers.specs.Seen.{IsTelling}
use Rattle.workers.proofs.guard.Refusals.{told_refused, unplaced_told}
use Rattle.workers.proofs.locked.Locked.last_told.Goals as goal

pub returns-in_err-queue-clause-telling : goal.returns-in_err-queue-clause-telling
returns-in_err-queue-clause-telling g c =
    let refusal = c.in_err-queue.field-0.0 in
    let placed = subst (λ (b : Brokered). IsPlaced b c.args.name.now (Err refusal)) c.broker.ensures.broker c.in_err-queue.ensures in
    let answer : c.from_residual.result ≡ Err refusal = search rules in
    subst (λ (v : Held). IsTelling v.session.broker c.args.client c.args.name.now c.from_residual.result) c.self.view_is
    (record { place = Err refusal; placed = placed; is = answer })

pub returns-in_err-queue-clause-errors : goal.returns-in_err-queue-clause-errors
returns-in_err-queue-clause-errors g c =
    let first = g.J.Naming.first in
    let name = c.args.name.now in
    let refusal = c.in_err-queue.field-0.0 in
    let placed = subst (λ (b : Brokered). IsPlaced b name (Err refusal)) c.broker.ensures.broker c.in_err-queue.ensures in
    let why = unplaced_told g.J.Naming.clients first _ c.self.invariant.1 name c.args.client refusal placed in
    let answer : c.from_residual.result ≡ Err refusal = search rules in
    subst (λ (r : Result Told Refusal). IfErr r (IsWhyNotTold g.J.Naming.clients first name c.args.client)) (sym answer) why

pub returns-clause-telling : goal.returns-clause-telling
returns-clause-telling g c =
    let slot = c.in_ok-queue.queue in
    let placed : IsPlaced c.self.inside.session.broker c.args.name.now (Ok slot) =
    subst (λ (b : Brokered). IsPlaced b c.args.name.now (Ok slot)) c.broker.ensures.broker c.in_ok-queue.ensures in
    subst (λ (v : Held). IsTelling v.session.broker c.args.client c.args.name.now c.told.result) c.self.view_is
    (record { place = Ok slot; placed = placed; is = rw (← c.broker-2.ensures.broker) c.told.ensures.told })

pub returns-clause-errors : goal.returns-clause-errors
returns-clause-errors g c =
    let first = g.J.Naming.first in
    let name = c.args.name.now in
    let slot = c.in_ok-queue.queue.0 in
    let named = subst (λ (b : Brokered). IsNamed b.directory slot name) c.broker.ensures.broker c.in_ok-queue.ensures.1 in
    let why = told_refused (λ w. Ok (told_to (told_in w.queue) c.args.client)) g.J.Naming.clients first _
    c.self.invariant.1 name slot named c.args.client (λ w. tt) in
    subst (λ (r : Result Told Refusal). IfErr r (IsWhyNotTold g.J.Naming.clients first name c.args.client))
    (sym (c.told.ensures.told)) (rw c.broker-2.ensures.broker why)

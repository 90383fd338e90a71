use Rattle.std.proofs.Common.{List, Result, subst, ℕ}
use Rattle.std.specs.Prelude.{IfErr, OnOk}
use Rattle.words.specs.declared.refusal.Refusal.{Refusal}
use Rattle.named.specs.Brokers.{MayCreate}
use Rattle.workers.specs.Seen.{IsWhyNotCreated}
use Rattle.workers.proofs.guard.Betweens.{between_at, between_further}
use Rattle.workers.proofs.guard.Laters.{later_itself, later_still}
use Rattle.workers.proofs.lists.Answers.{if_creation_begun}
use Rattle.workers.proofs.shared.Shared.create.Goals as goal

pub returns-in-Err-clause-later : goal.returns-in-Err-clause-later
returns-in-Err-clause-later g c = later_itself c.args.before

pub returns-in-Err-begun-clause-there : goal.returns-in-Err-begun-clause-there
returns-in-Err-begun-clause-there g c =
    let now = c.begin_creation-marked.result.0.broker in
    subst (λ (name : List ℕ). IsWhyNotCreated now name c.in-Err-begun.refusal) c.in-Ok.ensures.made
    (subst (λ (r : Result Unit Refusal). IfErr r (IsWhyNotCreated now c.in-Ok.name)) c.in-Err-begun.is
    c.begin_creation-marked.ensures.errors)

pub loop-init : goal.loop-init
loop-init g c = later_itself c.begin_creation-marked.result.0

pub returns-in-Some-created-clause-later : goal.returns-in-Some-created-clause-later
returns-in-Some-created-clause-later g c =
    later_still c.args.before c.loop.marked c.create_step-next.result.0
    (later_still c.args.before c.begin_creation-marked.result.0 c.loop.marked c.begin_creation-marked.ensures.later
    c.loop.invariant) c.create_step-next.ensures.later

pub loop-preserved : goal.loop-preserved
loop-preserved g c =
    later_still c.begin_creation-marked.result.0 c.loop.marked c.create_step-next.result.0 c.loop.invariant
    c.create_step-next.ensures.later

pub returns-in-Some-created-clause-since : goal.returns-in-Some-created-clause-since
returns-in-Some-created-clause-since g c =
    let begun = c.begin_creation-marked in
    let next = c.create_step-next in
    if_creation_begun c.in-Some-created.created
    (between_further c.args.before begun.result.0 next.result.0
    (between_at c.args.before begun.result.0 begun.ensures.later
    (subst (λ (name : List ℕ). MayCreate begun.result.0.broker name) c.in-Ok.ensures.made
    (subst (λ (r : Result Unit Refusal). OnOk r (MayCreate begun.result.0.broker c.in-Ok.name)) c.in_default.is
    begun.ensures.may)))
    (later_still begun.result.0 c.loop.marked next.result.0 c.loop.invariant next.ensures.later))

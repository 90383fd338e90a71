use Rattle.std.proofs.Common.{Result, subst, sym, ◌∙◌}
use Rattle.std.specs.Prelude.{IfErr}
use Rattle.words.specs.declared.refusal.Refusal.{Refusal}
use Rattle.workers.proofs.Facts.{later_still}
use Rattle.desk.specs.Answering.{IsWhyUnrenewed}
use Rattle.desk.specs.Calls.{asked_in}
use Rattle.desk.specs.declared.renewing.Renewed.{Renewed}
use Rattle.desk.proofs.Calling.{called_again, called_here, called_without_room}
use Rattle.desk.proofs.counter.Counter.call_at_rest.Goals as goal

pub returns-then-not-is_no_room : goal.returns-then-not-is_no_room
returns-then-not-is_no_room g c =
    let once = c.call_once-marked in
    called_here g.J.Naming.first c.args.before once.result.0 c.args.client (asked_in c.args.request.now) once.result.1
    once.ensures.is once.ensures.later

pub returns-in-Ok : goal.returns-in-Ok
returns-in-Ok g c =
    let once = c.call_once-marked in
    let renewed = c.renewed_for-marked in
    called_again g.J.Naming.first c.args.before renewed.result.0 c.call.result.0 c.args.client
    (asked_in c.args.request.now) c.call.result.1 c.call.ensures.is
    (later_still c.args.before once.result.0 renewed.result.0 once.ensures.later renewed.ensures.later)
    c.call.ensures.later

pub returns-in-Err : goal.returns-in-Err
returns-in-Err g c =
    let once = c.call_once-marked in
    let renewed = c.renewed_for-marked in
    called_without_room g.J.Naming.first c.args.before once.result.0 renewed.result.0 c.args.client
    (asked_in c.args.request.now) once.result.1 c.in-Err.refusal once.ensures.is
    (sym c.is_no_room.ensures ∙ c.if-not-is_no_room.false)
    (subst (λ (r : Result Renewed Refusal). IfErr r IsWhyUnrenewed) c.in-Err.is renewed.ensures.errors)
    once.ensures.later renewed.ensures.later

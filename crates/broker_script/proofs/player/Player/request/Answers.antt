use Rattle.std.proofs.Common.{◌≡◌, ◌∙◌, refl, sym, subst}
use Rattle.std.specs.Prelude.{Result, Err, OnErr}
use Rattle.words.specs.declared.call.Reply.{Reply}
use Rattle.words.specs.declared.refusal.Refusal.{Refusal}
use Rattle.words.specs.declared.refusal.Refusal.TheVariants.{NoMemory}
use Rattle.session.specs.Requests.{IsServedBy, request_answer}
use Rattle.broker_lines.specs.declared.statements.Ask.{Ask}
use Rattle.broker_lines.specs.declared.statements.Ask.TheVariants.{Request}
use Rattle.broker_script.specs.PlayerView.{player_view}
use Rattle.broker_script.proofs.Asked.{ask_put_off, asked_as, served_refused, was_refused}
use Rattle.broker_script.proofs.player.Player.request.Goals as goal

pub returns-clause-asked : goal.returns-clause-asked
returns-clause-asked c memory =
    let ask : Ask = Request c.args.client c.args.number c.args.call in
    asked_as c.args.self.now
    (player_view c.self.inside)
    c.self.view_is c.request-answer.new.self c.args.slot.0 ask c.as_answered.result c.is_right.ensures
    (record { answer = c.request-answer.result; is = c.as_answered.ensures; served = c.request-answer.ensures.request })
    memory c.request-answer.ensures.queues c.request-answer.ensures.goes_on refl

pub returns-clause-put_off : goal.returns-clause-put_off
returns-clause-put_off c memory =
    let none : c.request-answer.result ≡ Err NoMemory = was_refused c.request-answer.result NoMemory (sym c.as_answered.ensures ∙ memory) in
    ask_put_off c.args.self.now
    (player_view c.self.inside)
    c.self.view_is c.request-answer.new.self
    (served_refused c.self.inside.session c.request-answer.new.self c.args.slot.0 c.args.client c.args.number c.args.call
    (request_answer c.self.inside.session c.args.slot.0 c.args.client c.args.number)
    c.self.invariant.broker.well c.request-answer.ensures.promises.broker.well
    (subst (λ (r : Result Reply Refusal). IsServedBy c.self.inside.session c.request-answer.new.self c.args.slot.0 c.args.client c.args.number c.args.call
    r (request_answer c.self.inside.session c.args.slot.0 c.args.client c.args.number)) none c.request-answer.ensures.request))
    (subst (λ (r : Result Reply Refusal). OnErr r (c.request-answer.new.self.kept ≡ c.self.inside.session.kept)) none c.request-answer.ensures.same)

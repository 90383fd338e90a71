use Rattle.std.proofs.Common.{◌≡◌, ◌∙◌, refl, sym, subst}
use Rattle.std.specs.Prelude.{Result, Err}
use Rattle.words.specs.declared.call.Reply.{Reply}
use Rattle.words.specs.declared.refusal.Refusal.{Refusal}
use Rattle.words.specs.declared.refusal.Refusal.TheVariants.{NoMemory}
use Rattle.session.specs.Requests.{IsServedBy, plain_answer}
use Rattle.broker_lines.specs.declared.statements.Ask.{Ask}
use Rattle.broker_lines.specs.declared.statements.Ask.TheVariants.{Plain}
use Rattle.broker_script.specs.PlayerView.{player_view}
use Rattle.broker_script.proofs.Asked.{ask_put_off, asked_as, served_refused, was_refused}
use Rattle.broker_script.proofs.player.Player.plain.Goals as goal

pub returns-clause-asked : goal.returns-clause-asked
returns-clause-asked c memory =
    let ask : Ask = Plain c.args.client c.args.call in
    asked_as c.args.self.now
    (player_view c.self.inside)
    c.self.view_is c.plain-answer.new.self c.args.slot.0 ask c.as_answered.result c.is_right.ensures
    (record { answer = c.plain-answer.result; is = c.as_answered.ensures; served = c.plain-answer.ensures.request })
    memory c.plain-answer.ensures.queues c.plain-answer.ensures.goes_on refl

pub returns-clause-put_off : goal.returns-clause-put_off
returns-clause-put_off c memory =
    let none : c.plain-answer.result ≡ Err NoMemory = was_refused c.plain-answer.result NoMemory (sym c.as_answered.ensures ∙ memory) in
    ask_put_off c.args.self.now
    (player_view c.self.inside)
    c.self.view_is c.plain-answer.new.self
    (served_refused c.self.inside.session c.plain-answer.new.self c.args.slot.0 c.args.client 0 c.args.call
    (plain_answer c.self.inside.session c.args.slot.0 c.args.client)
    c.self.invariant.broker.well c.plain-answer.ensures.promises.broker.well
    (subst (λ (r : Result Reply Refusal). IsServedBy c.self.inside.session c.plain-answer.new.self c.args.slot.0 c.args.client 0 c.args.call
    r (plain_answer c.self.inside.session c.args.slot.0 c.args.client)) none c.plain-answer.ensures.request))
    c.plain-answer.ensures.same

use Rattle.std.proofs.Common.{◌≡◌, refl, subst, ap, sym}
use Rattle.std.specs.Prelude.{Option, Some, Ok, Err, IsSome}
use Rattle.words.specs.declared.call.Reply.{Reply}
use Rattle.words.specs.declared.refusal.Refusal.{Refusal}
use Rattle.words.specs.declared.refusal.Refusal.TheVariants.{NoMemory}
use Rattle.named.specs.Brokers.{Brokered, world_at}
use Rattle.session.specs.Requests.{IsBegunBy, request_answer}
use Rattle.broker_lines.specs.declared.statements.Ask.{Ask}
use Rattle.broker_lines.specs.declared.statements.Ask.TheVariants.{Begin}
use Rattle.broker_script.specs.PlayerView.{player_view}
use Rattle.broker_script.specs.Play.{Played}
use Rattle.broker_script.proofs.Asked.{ask_put_off, asked_as, asked_begun, begun_refused}
use Rattle.broker_script.proofs.Worlds.{open_within}
use Rattle.broker_script.proofs.player.Player.begin_call.Goals as goal

pub begin_count-requires : goal.begin_count-requires
begin_count-requires c =
    open_within c.self.inside.session.broker c.self.invariant.broker.well c.args.slot.0
    (subst (λ (b : Brokered). IsSome (world_at b c.args.slot.0)) (sym (ap (λ (p : Played). p.broker) c.self.view_is)) c.requires.open)

pub returns-in-Ok-Some-clause-asked : goal.returns-in-Ok-Some-clause-asked
returns-in-Ok-Some-clause-asked c memory =
    let ask : Ask = Begin c.args.client c.args.number c.args.call in
    asked_as c.args.self.now
    (player_view c.self.inside)
    c.self.view_is c.begin.new.self c.args.slot.0 ask (Ok (Some c.in-Ok-Some.reply)) c.is_right.ensures
    (subst (λ (o : Option Reply). IsBegunBy c.self.inside.session c.begin.new.self c.args.slot.0 c.args.client c.args.number c.args.call
    (Ok o) (request_answer c.self.inside.session c.args.slot.0 c.args.client c.args.number)) c.in-Ok-Some.field-0-is c.in-Ok-Some.ensures.begun)
    memory c.in-Ok-Some.ensures.queues c.in-Ok-Some.ensures.goes_on refl

pub returns-in-Ok-None-clause-asked : goal.returns-in-Ok-None-clause-asked
returns-in-Ok-None-clause-asked c memory =
    asked_begun c.args.self.now
    (player_view c.self.inside)
    c.self.view_is c.begin.new.self c.begin_count.new.self c.args.slot.0 c.args.client c.args.number c.args.call
    c.is_right.ensures
    (subst (λ (o : Option Reply). IsBegunBy c.self.inside.session c.begin.new.self c.args.slot.0 c.args.client c.args.number c.args.call
    (Ok o) (request_answer c.self.inside.session c.args.slot.0 c.args.client c.args.number)) c.in-Ok-None.field-0-is c.in-Ok-None.ensures.begun)
    c.in-Ok-None.ensures.queues c.in-Ok-None.ensures.goes_on
    c.begin_count.ensures.steps c.begin_count.ensures.others c.begin_count.ensures.same

pub returns-in-Err-clause-asked : goal.returns-in-Err-clause-asked
returns-in-Err-clause-asked c memory =
    let ask : Ask = Begin c.args.client c.args.number c.args.call in
    asked_as c.args.self.now
    (player_view c.self.inside)
    c.self.view_is c.begin.new.self c.args.slot.0 ask (Err c.in-Err.refusal) c.is_right.ensures
    c.in-Err.ensures.begun
    memory c.in-Err.ensures.queues c.in-Err.ensures.goes_on refl

pub returns-in-Err-clause-put_off : goal.returns-in-Err-clause-put_off
returns-in-Err-clause-put_off c memory =
    let none : c.in-Err.refusal ≡ NoMemory = cc (memory) in
    ask_put_off c.args.self.now
    (player_view c.self.inside)
    c.self.view_is c.begin.new.self
    (begun_refused c.self.inside.session c.begin.new.self c.args.slot.0 c.args.client c.args.number c.args.call
    (request_answer c.self.inside.session c.args.slot.0 c.args.client c.args.number)
    c.self.invariant.broker.well c.in-Err.ensures.promises.broker.well
    (subst (λ (e : Refusal). IsBegunBy c.self.inside.session c.begin.new.self c.args.slot.0 c.args.client c.args.number c.args.call
    (Err e) (request_answer c.self.inside.session c.args.slot.0 c.args.client c.args.number)) none c.in-Err.ensures.begun))
    c.in-Err.ensures.same

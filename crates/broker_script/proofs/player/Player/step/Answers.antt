use Rattle.std.proofs.Common.{refl, sym, ap, subst}
use Rattle.std.specs.Prelude.{Ok, Err, IsSome}
use Rattle.named.specs.Brokers.{Brokered, world_at}
use Rattle.broker_script.specs.Play.{Played}
use Rattle.broker_script.specs.PlayerView.{player_view}
use Rattle.broker_script.proofs.Acted.{acted_only, step_answered, step_made, step_refused, stepped, still_open}
use Rattle.broker_script.proofs.PutOffs.{step_put_off}
use Rattle.broker_script.proofs.Worlds.{open_within}
use Rattle.broker_script.proofs.player.Player.step.Goals as goal

pub count-steps-requires : goal.count-steps-requires
count-steps-requires c =
    open_within c.self.inside.session.broker c.self.invariant.broker.well c.args.slot.0
    (subst (λ (b : Brokered). IsSome (world_at b c.args.slot.0)) (sym (ap (λ (p : Played). p.broker) c.self.view_is)) c.requires.open)

pub returns-in-Ok-clause-answered : goal.returns-in-Ok-clause-answered
returns-in-Ok-clause-answered c =
    let alone = stepped c.args.self.now c.self.inside.session.broker (ap (λ p. p.broker) c.self.view_is) c.args.slot.0 c.args.client
    (Ok c.in-Ok.answer) c.advance.new.self.broker c.in-Ok.ensures.advanced.act c.self.invariant.broker.well
    c.requires.ready c.requires.open (λ e. cc (e)) in
    step_answered c.args.self.now (player_view c.self.inside) c.self.view_is c.advance.new.self.broker c.args.slot.0
    c.args.client c.in-Ok.answer c.count-steps.result c.answer_line.result alone c.count-steps.ensures.count
    c.answer_line.ensures

pub returns-in-Ok-clause-play : goal.returns-in-Ok-clause-play
returns-in-Ok-clause-play c =
    let alone = stepped c.args.self.now c.self.inside.session.broker (ap (λ p. p.broker) c.self.view_is) c.args.slot.0 c.args.client
    (Ok c.in-Ok.answer) c.advance.new.self.broker c.in-Ok.ensures.advanced.act c.self.invariant.broker.well
    c.requires.ready c.requires.open (λ e. cc (e)) in
    step_made c.args.self.now (player_view c.self.inside) c.self.view_is c.advance.new.self c.count-steps.new.self
    c.args.slot.0 c.args.client c.in-Ok.answer alone c.count-steps.ensures.steps c.count-steps.ensures.same

pub returns-in-Ok-clause-put_off : goal.returns-in-Ok-clause-put_off
returns-in-Ok-clause-put_off c memory = absurd (cc (memory))

pub returns-in-Ok-clause-only : goal.returns-in-Ok-clause-only
returns-in-Ok-clause-only c =
    acted_only c.args.self.now (player_view c.self.inside) c.self.view_is c.advance.new.self c.count-steps.new.self
    c.args.slot.0 c.in-Ok.ensures.advanced.beside c.count-steps.ensures.others c.count-steps.ensures.same

pub returns-in-Ok-clause-open : goal.returns-in-Ok-clause-open
returns-in-Ok-clause-open c =
    let alone = stepped c.args.self.now c.self.inside.session.broker (ap (λ p. p.broker) c.self.view_is) c.args.slot.0 c.args.client
    (Ok c.in-Ok.answer) c.advance.new.self.broker c.in-Ok.ensures.advanced.act c.self.invariant.broker.well
    c.requires.ready c.requires.open (λ e. cc (e)) in
    still_open c.advance.new.self.broker c.count-steps.new.self c.args.slot.0 _
    (ap (λ (p : Played). p.broker) c.count-steps.ensures.same) alone.world

pub returns-in-Err-clause-refused : goal.returns-in-Err-clause-refused
returns-in-Err-clause-refused c other =
    let alone = stepped c.args.self.now c.self.inside.session.broker (ap (λ p. p.broker) c.self.view_is) c.args.slot.0 c.args.client
    (Err c.in-Err.refusal) c.advance.new.self.broker c.in-Err.ensures.advanced.act c.self.invariant.broker.well
    c.requires.ready c.requires.open (λ e. other (cc)) in
    sym alone.answers

pub returns-in-Err-clause-same : goal.returns-in-Err-clause-same
returns-in-Err-clause-same c other =
    let alone = stepped c.args.self.now c.self.inside.session.broker (ap (λ p. p.broker) c.self.view_is) c.args.slot.0 c.args.client
    (Err c.in-Err.refusal) c.advance.new.self.broker c.in-Err.ensures.advanced.act c.self.invariant.broker.well
    c.requires.ready c.requires.open (λ e. other (cc)) in
    step_refused c.args.self.now
    (record { broker = c.advance.new.self.broker; kept = c.advance.new.self.kept; steps = c.self.inside.steps; creation = c.self.inside.creation; recovery = c.self.inside.recovery; image = c.self.inside.image.items })
    c.args.slot.0 c.args.client c.in-Err.refusal alone (ap (λ p. p.steps) c.self.view_is)

pub returns-in-Err-clause-put_off : goal.returns-in-Err-clause-put_off
returns-in-Err-clause-put_off c memory =
    step_put_off c.args.self.now
    (player_view c.self.inside)
    c.self.view_is c.advance.new.self c.args.slot.0 c.args.client _ c.in-Err.refusal
    c.self.invariant.broker.well c.in-Err.ensures.promises.broker.well (cc)
    c.in-Err.ensures.advanced c.in-Err.ensures.kept

pub returns-in-Err-clause-only : goal.returns-in-Err-clause-only
returns-in-Err-clause-only c =
    acted_only c.args.self.now (player_view c.self.inside) c.self.view_is c.advance.new.self
    (record (player_view c.self.inside) { broker = c.advance.new.self.broker; kept = c.advance.new.self.kept })
    c.args.slot.0 c.in-Err.ensures.advanced.beside (λ other apart. refl) refl

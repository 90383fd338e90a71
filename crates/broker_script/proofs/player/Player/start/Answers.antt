use Rattle.std.proofs.Common.{refl, sym, ap, subst}
use Rattle.std.specs.Prelude.{Ok, Err, IsSome}
use Rattle.named.specs.Brokers.{Brokered, world_at}
use Rattle.broker_script.specs.Play.{Played}
use Rattle.broker_script.specs.PlayerView.{player_view}
use Rattle.broker_script.proofs.Acted.{acted_only, start_made, start_refused, started}
use Rattle.broker_script.proofs.PutOffs.{start_put_off}
use Rattle.broker_script.proofs.Worlds.{open_within}
use Rattle.broker_script.proofs.player.Player.start.Goals as goal

pub begin_count-requires : goal.begin_count-requires
begin_count-requires c =
    open_within c.self.inside.session.broker c.self.invariant.broker.well c.args.slot.0
    (subst (λ (b : Brokered). IsSome (world_at b c.args.slot.0)) (sym (ap (λ (p : Played). p.broker) c.self.view_is)) c.requires.open)

pub returns-in-Ok-clause-answer : goal.returns-in-Ok-clause-answer
returns-in-Ok-clause-answer c memory =
    let alone = started c.args.self.now c.self.inside.session.broker (ap (λ p. p.broker) c.self.view_is) c.args.slot.0 c.args.client
    c.args.number c.args.call (Ok tt) c.start.new.self.broker c.in-Ok.ensures.act c.self.invariant.broker.well
    c.requires.ready c.requires.open memory in
    alone.answers

pub returns-in-Ok-clause-play : goal.returns-in-Ok-clause-play
returns-in-Ok-clause-play c memory =
    let alone = started c.args.self.now c.self.inside.session.broker (ap (λ p. p.broker) c.self.view_is) c.args.slot.0 c.args.client
    c.args.number c.args.call (Ok tt) c.start.new.self.broker c.in-Ok.ensures.act c.self.invariant.broker.well
    c.requires.ready c.requires.open memory in
    start_made c.args.self.now (player_view c.self.inside) c.self.view_is c.start.new.self c.begin_count.new.self
    c.args.slot.0 c.args.client c.args.number c.args.call alone c.begin_count.ensures.steps c.begin_count.ensures.same

pub returns-in-Ok-clause-put_off : goal.returns-in-Ok-clause-put_off
returns-in-Ok-clause-put_off c memory = absurd (cc (memory))

pub returns-in-Ok-clause-only : goal.returns-in-Ok-clause-only
returns-in-Ok-clause-only c =
    acted_only c.args.self.now (player_view c.self.inside) c.self.view_is c.start.new.self c.begin_count.new.self
    c.args.slot.0 c.in-Ok.ensures.beside c.begin_count.ensures.others c.begin_count.ensures.same

pub returns-in-Err-clause-answer : goal.returns-in-Err-clause-answer
returns-in-Err-clause-answer c memory =
    let alone = started c.args.self.now c.self.inside.session.broker (ap (λ p. p.broker) c.self.view_is) c.args.slot.0 c.args.client
    c.args.number c.args.call (Err c.in-Err.refusal) c.start.new.self.broker c.in-Err.ensures.act c.self.invariant.broker.well
    c.requires.ready c.requires.open memory in
    alone.answers

pub returns-in-Err-clause-play : goal.returns-in-Err-clause-play
returns-in-Err-clause-play c memory =
    let alone = started c.args.self.now c.self.inside.session.broker (ap (λ p. p.broker) c.self.view_is) c.args.slot.0 c.args.client
    c.args.number c.args.call (Err c.in-Err.refusal) c.start.new.self.broker c.in-Err.ensures.act c.self.invariant.broker.well
    c.requires.ready c.requires.open memory in
    start_refused c.args.self.now
    (record { broker = c.start.new.self.broker; kept = c.start.new.self.kept; steps = c.self.inside.steps; creation = c.self.inside.creation; recovery = c.self.inside.recovery; image = c.self.inside.image.items })
    c.args.slot.0 c.args.client c.args.number c.args.call c.in-Err.refusal alone (ap (λ p. p.steps) c.self.view_is)

pub returns-in-Err-clause-put_off : goal.returns-in-Err-clause-put_off
returns-in-Err-clause-put_off c memory =
    start_put_off c.args.self.now
    (player_view c.self.inside)
    c.self.view_is c.start.new.self c.args.slot.0 c.args.client c.args.number c.args.call c.in-Err.refusal
    c.self.invariant.broker.well c.in-Err.ensures.promises.broker.well (cc)
    c.in-Err.ensures.act c.in-Err.ensures.beside c.in-Err.ensures.kept

pub returns-in-Err-clause-only : goal.returns-in-Err-clause-only
returns-in-Err-clause-only c =
    acted_only c.args.self.now (player_view c.self.inside) c.self.view_is c.start.new.self
    (record (player_view c.self.inside) { broker = c.start.new.self.broker; kept = c.start.new.self.kept })
    c.args.slot.0 c.in-Err.ensures.beside (λ other apart. refl) refl

use Rattle.std.proofs.Common.{◌≡◌, ap, ◌∙◌, subst}
use Rattle.std.specs.Prelude.{IfOk}
use Rattle.named.specs.Brokers.{IsWell}
use Rattle.broker_script.proofs.Created.{is_read, read_queue, ready_is_ok, within_places}
use Rattle.broker_script.proofs.player.Player.queue_in.Goals as goal

pub unwrap-places-requires : goal.unwrap-places-requires
unwrap-places-requires c =
    ready_is_ok c.list.result c.broker.result.now.recovery c.list.ensures.errors
    (ap (λ b. b.recovery) c.broker.ensures.broker ∙ ap (λ p. p.broker.recovery) c.self.view_is ∙ c.requires.ready)

pub bounds-places-slot : goal.bounds-places-slot
bounds-places-slot c =
    let well : IsWell c.args.self.now.broker = subst IsWell (ap (λ p. p.broker) c.self.view_is) c.self.invariant.broker.well in
    within_places c.args.self.now.broker well c.args.slot.0 c.requires.opened

pub unwrap-requires : goal.unwrap-requires
unwrap-requires c =
    let listed : c.unwrap-places.result.now ≡ c.broker.result.now.directory =
    subst (λ r. IfOk r (λ places. places.now ≡ c.broker.result.now.directory)) c.unwrap-places.ensures c.list.ensures.places in
    let same : c.unwrap-places.result.now ≡ c.args.self.now.broker.directory =
    listed ∙ ap (λ b. b.directory) c.broker.ensures.broker ∙ ap (λ p. p.broker.directory) c.self.view_is in
    is_read c.args.self.now.broker.directory c.unwrap-places.result.now c.args.slot.0 c.index-places-slot.result same
    c.requires.opened c.index-places-slot.is

pub returns : goal.returns
returns c =
    let listed : c.unwrap-places.result.now ≡ c.broker.result.now.directory =
    subst (λ r. IfOk r (λ places. places.now ≡ c.broker.result.now.directory)) c.unwrap-places.ensures c.list.ensures.places in
    let same : c.unwrap-places.result.now ≡ c.args.self.now.broker.directory =
    listed ∙ ap (λ b. b.directory) c.broker.ensures.broker ∙ ap (λ p. p.broker.directory) c.self.view_is in
    read_queue c.args.self.now.broker.directory c.unwrap-places.result.now c.args.slot.0 c.index-places-slot.result same
    c.requires.opened c.index-places-slot.is c.unwrap.result c.unwrap.ensures

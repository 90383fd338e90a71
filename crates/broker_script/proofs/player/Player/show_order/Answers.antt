use Rattle.std.proofs.Common.{◌≡◌, ap, ◌∙◌, subst}
use Rattle.std.proofs.lemmas.Result.{IfOk-weaker}
use Rattle.std.specs.Prelude.{IfOk}
use Rattle.interleave.specs.State.{order_in}
use Rattle.named.specs.Brokers.{Brokered, world_at}
use Rattle.named.specs.Slots.{IfWorld}
use Rattle.playing.specs.Transcript.{order_lines}
use Rattle.broker_script.proofs.Worlds.{order_there}
use Rattle.broker_script.proofs.player.Player.show_order.Goals as goal

pub returns-clause-lines : goal.returns-clause-lines
returns-clause-lines c =
    let slot = c.args.slot.0 in
    let b = c.args.self.now.broker in
    let order = c.in_ok-order.order.entries.items in
    let events = c.unwrap-history.result.now.events.items in
    let first : c.broker.result.now ≡ b = c.broker.ensures.broker ∙ ap (λ p. p.broker) c.self.view_is in
    let second : c.broker-2.result.now ≡ b = c.broker-2.ensures.broker ∙ ap (λ p. p.broker) c.self.view_is in
    let order_is : IfWorld (world_at b slot) (λ w. order ≡ order_in w) =
    subst (λ (x : Brokered). IfWorld (world_at x slot) (λ w. order ≡ order_in w)) first c.in_ok-order.ensures.order in
    let events_are : IfWorld (world_at b slot) (λ w. events ≡ w.log.events) =
    subst (λ (x : Brokered). IfWorld (world_at x slot) (λ w. events ≡ w.log.events)) second
    (subst (λ r. IfOk r (λ h. IfWorld (world_at c.broker-2.result.now slot) (λ w. h.now.events.items ≡ w.log.events)))
    c.unwrap-history.ensures c.history.ensures.events) in
    IfOk-weaker c.order_lines.result _ _ (λ lines is.
    is ∙ ap (order_lines events) c.as_slice.ensures ∙ order_there b slot events order c.requires events_are order_is)
    c.order_lines.ensures.lines

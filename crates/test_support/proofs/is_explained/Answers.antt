use Rattle.std.proofs.Common.{◌≡◌, List, sym, subst}
use Rattle.words.specs.PlainQueue.{Value}
use Rattle.interleave.specs.State.{kept_content}
use Rattle.named.specs.Brokers.{world_at}
use Rattle.named.specs.Slots.{IfWorld}
use Rattle.test_support.proofs.Explained.{explained, passed}
use Rattle.test_support.proofs.is_explained.Goals as goal

pub returns-clause-right : goal.returns-clause-right
returns-clause-right c =
    let at = world_at c.args.broker.now c.args.slot.0 in
    let shown = c.in_ok-history.ensures in
    let holds = subst (λ (l : List Value). IfWorld at (λ w. l ≡ kept_content w)) (sym c.deref.ensures.value)
    c.in_ok-content.ensures.content in
    passed _
    (explained c.in_ok-history.field-0.now c.in_ok-order.order c.deref.result.now at
    (λ w here. shown.promises.explained c.args.slot.0 w here) shown.open shown.base shown.told shown.events
    c.in_ok-order.ensures.order holds)
    c.check_content.result c.check_content.ensures.right

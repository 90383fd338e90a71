use Rattle.std.proofs.Common.{◌<◌, ◌∙◌, List, Option, Some, length, refl, sym, ap, subst, arith, length-set}
use Rattle.gauges.specs.declared.numbers.BrokerGauges.{BrokerGauges}
use Rattle.gauges.specs.declared.numbers.QueueGauges.{QueueGauges}
use Rattle.workers.specs.Moments.{GoesOnLater}
use Rattle.workers.proofs.Facts.{later_still}
use Rattle.server.specs.Seen.{AreHeldSince}
use Rattle.server.proofs.Sights.{held_next, held_none}
use Rattle.server.proofs.seen.broker_seen.Goals as goal
use Rattle.server.proofs.seen.broker_seen.Goals.{in-Some+in-Ok-held, in-Some+in-Err, in_default-places}

pub loop-slot-init : goal.loop-slot-init
loop-slot-init g c = record {
  count = refl;
  later = later_still g.J.Naming.first c.mark_now.result c.list-marked.result.0 c.mark_now.ensures.moment.goes_on
      c.list-marked.ensures.later;
  held = held_none g.J.Naming.first 8;
}

pub loop-slot-preserved : goal.loop-slot-preserved
loop-slot-preserved g c =
    let first = g.J.Naming.first in
    let old = c.loop-slot in
    let now = c.match-places-slot in
    let below : old.slot < length old.seen.queues = omega (arith, old.invariant.count, c.loop-slot-test.true) in
    elim now.branch [
      | in-Some+in-Ok-held w ↦
          let next = w.queue_seen-next in
          let queues = ap (λ (s : BrokerGauges). s.queues) w.seen-is in
          record {
            count = ap (λ (xs : List (Option QueueGauges)). length xs) queues
                ∙ (length-set old.seen.queues old.slot (Some w.in-Ok-held.held) ∙ old.invariant.count);
            later = subst (GoesOnLater first) (sym w.marked-is)
                (later_still first old.marked next.result.0 old.invariant.later next.ensures.later);
            held = held_next first old.marked next.result.0 old.seen.queues now.seen.queues old.slot w.in-Ok-held.held
                next.result.1 w.in-Ok-held.is next.ensures.items old.invariant.later next.ensures.later below
                old.invariant.held queues;
          }
      | in-Some+in-Err w ↦
          let next = w.queue_seen-next in
          let queues = ap (λ (s : BrokerGauges). s.queues) w.seen-is in
          record {
            count = ap (λ (xs : List (Option QueueGauges)). length xs) queues ∙ old.invariant.count;
            later = subst (GoesOnLater first) (sym w.marked-is)
                (later_still first old.marked next.result.0 old.invariant.later next.ensures.later);
            held = subst (AreHeldSince first) (sym queues) old.invariant.held;
          }
      | in_default-places w ↦
          let queues = ap (λ (s : BrokerGauges). s.queues) w.seen-is in
          record {
            count = ap (λ (xs : List (Option QueueGauges)). length xs) queues ∙ old.invariant.count;
            later = subst (GoesOnLater first) (sym w.marked-is) old.invariant.later;
            held = subst (AreHeldSince first) (sym queues) old.invariant.held;
          }
    ]

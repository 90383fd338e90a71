-- Each act of a world keeps what is so of its numbers.
use Rattle.std.proofs.Common.{◌≡◌, ℕ, ◌<◌, Bool, true, false, List, [], length, Option, Some, None}
use Rattle.std.proofs.Common.{Ok, replicate, slice_index, slice_set, sym, ap, subst, arith}
use Rattle.std.proofs.lemmas.Bool.Decides.{nat_tests}
use Rattle.std.proofs.lemmas.List.{length-replicate}
use Rattle.words.specs.PlainQueue.{Value}
use Rattle.words.specs.declared.call.Call.{Call}
use Rattle.words.specs.declared.call.Client.{Client}
use Rattle.words.specs.declared.call.Kind.{Kind}
use Rattle.words.specs.declared.call.Kind.TheVariants.{Durable as durable_kind, Log as log_kind}
use Rattle.words.specs.declared.call.Reply.{Reply}
use Rattle.words.specs.declared.limits.TheConstants.{MAX_CLIENTS}
use Rattle.words.specs.declared.told.Told.{Told}
use Rattle.words.specs.declared.told.Told.TheVariants.{None as told_none}
use Rattle.interleave.specs.LogQueue.{is_stale, told_queue}
use Rattle.arena.specs.declared.place.Place.{Place}
use Rattle.stepper.specs.declared.resume.After.{After}
use Rattle.stepper.specs.declared.resume.After.TheVariants.{More, Done}
use Rattle.helping.specs.declared.op.Op.{Op}
use Rattle.events.specs.Effects.{order_of}
use Rattle.events.specs.Orders.{IsNew}
use Rattle.events.specs.Trace.{IsTrace}
use Rattle.events.specs.declared.event.Effect.{Effect}
use Rattle.events.specs.declared.event.Entry.{Entry}
use Rattle.events.specs.declared.event.Event.{Event}
use Rattle.events.proofs.Facts.{order_settled_effects}
use Rattle.recover.specs.declared.recovery.Recovery.{Recovery}
use Rattle.protocol.specs.Machine.{MayStep, events_after, next_of, next_recovery, recovery_events, with_step}
use Rattle.protocol.specs.declared.UnderWay.{UnderWay}
use Rattle.protocol.specs.invariants.Worlds.{Inv, IsCalling}
use Rattle.protocol.proofs.Facts.{calling, in_log, is_ready as ready_held, none_at_end}
use Rattle.interleave.specs.Booted.{queue_at_boot}
use Rattle.interleave.specs.Numbers.{AreNumbersOnceIn, AreWithinFloors, AreWithinFloorsIn}
use Rattle.interleave.specs.Numbers.{NumbersRise, AreNumbersRising, AreNumbersRisingIn}
use Rattle.interleave.specs.Queue.{new_queue, told_in}
use Rattle.interleave.specs.Ranges.{IsOfKind}
use Rattle.interleave.specs.State.{State, machine, order_in, after_call_began, queue_left}
use Rattle.interleave.specs.State.{after_one_access, evict_with, after_stop, is_ready, queue_at_ready, recover_with}
use Rattle.interleave.specs.State.{after_recovery_step, recover_result_with, after_recover, recover_result}
use Rattle.interleave.specs.declared.queue.Queue.{Queue}
use Rattle.interleave.specs.declared.queue.Queue.TheVariants.{Durable, Log}
use Rattle.interleave.proofs.machine.Starts.{IsTaken}
use Rattle.interleave.proofs.order.Entries.{comes_stepped, comes_evicted}
use Rattle.interleave.proofs.numbers.Uniqueness.{MayAllStand, rise_begun, rise_called, rise_comes, rise_crashed}
use Rattle.interleave.proofs.numbers.Uniqueness.{rise_returned, rise_ready, numbers_once, within_floors}

-- a log queue accepts numbers above the client's floor alone
abbrev pub IsAboveFloor : Queue → Client → ℕ → Type 0
IsAboveFloor (Durable told) client number = Unit {0}
IsAboveFloor (Log clients) client number = slice_index clients.floors client.0 < number

above_stale : (floor number : ℕ) → is_stale floor number ≡ false → floor < number
above_stale floor number h = grind (arith, nat_tests, h)

pub above_taken : (queue : Queue) (client : Client) (number n : ℕ) → IsTaken queue client number n
    → IsAboveFloor queue client n
above_taken (Durable told) client number n its = tt
above_taken (Log clients) client number n its =
    subst (λ (m : ℕ). slice_index clients.floors client.0 < m) (sym its.1)
    (above_stale (slice_index clients.floors client.0) number its.0)

-- a start
pub numbers_begun : (w : State) (client : Client) (number : ℕ) (call : Call) → Inv (machine w)
    → Inv (machine (after_call_began w client number call)) → client.0 < MAX_CLIENTS
    → IsAboveFloor w.queue client number → AreNumbersRising w → AreNumbersRising (after_call_began w client number call)
numbers_begun w client number call inv after few above = go w.queue above
  where
    go : (queue : Queue) → IsAboveFloor queue client number → AreNumbersRisingIn queue w.told w.log.events (order_in w)
        → AreNumbersRisingIn queue w.told (after_call_began w client number call).log.events (order_in w)
    go (Durable told) over v = tt
    go (Log clients) over v =
        rise_called w.told w.log.events w.log.effects clients.floors client number call
        (none_at_end w.shape.kind w.base w.told w.log.events w.log.effects (in_log (machine w) inv))
        (in_log (machine (after_call_began w client number call)) after).places few over v

-- an answer, where it is one
answered : (w : State) (client : Client) (u : UnderWay) (order : List Entry)
    → IsTrace w.shape.kind w.base w.told w.log.events w.log.effects → IsCalling w.log.events client.0 u
    → (next : After Op Reply) → MayAllStand (events_after w.log.events client next) → (queue : Queue)
    → AreNumbersRisingIn queue w.told w.log.events order
    → AreNumbersRisingIn (queue_left queue u next) w.told (events_after w.log.events client next) order
answered w client u order log calls (More op) places queue v = v
answered w client u order log calls (Done reply) places (Durable told) v = tt
answered w client u order log calls (Done reply) places (Log clients) v =
    let c : Client = u.begun.client in
    let same : client ≡ c = ap (λ (i : ℕ). let x : Client = record { 0 = i } in x) (sym calls.who) in
    let floors : List ℕ = slice_set clients.floors c.0 u.begun.number in
    subst (λ (x : Client). NumbersRise w.told (events_after w.log.events x (Done reply)) order floors) (sym same)
    (rise_returned w.shape.kind w.base w.told w.log.events w.log.effects order clients.floors c u.place u.begun.number
    reply log (subst (λ (x : Client). MayAllStand (events_after w.log.events x (Done reply))) same places)
    (u.begun.call, calls.stands) calls.open_from v)

-- a step
pub numbers_gone_on : (w : State) (client : Client) (u : UnderWay) → Inv (machine w)
    → Inv (with_step (machine w) client u) → MayStep (machine w) client u → AreNumbersRising w
    → AreNumbersRising (after_one_access w client u)
numbers_gone_on w client u inv after may v =
    answered w client u (order_of new) log
    (calling (machine w) (ready_held (machine w) inv may.ready).working client.0 u may.waits).1
    (next_of (machine w) u) (in_log (with_step (machine w) client u) after).places w.queue (grown w.queue v)
  where
    new : List Effect
    new = (with_step (machine w) client u).log.effects

    log : IsTrace w.shape.kind w.base w.told w.log.events w.log.effects
    log = in_log (machine w) inv

    grown : (queue : Queue) → AreNumbersRisingIn queue w.told w.log.events (order_in w)
        → AreNumbersRisingIn queue w.told w.log.events (order_of new)
    grown (Durable told) v = tt
    grown (Log clients) v =
        rise_comes w.shape.kind w.base w.told w.log.events clients.floors w.log.effects new log
        (comes_stepped (machine w) inv client u may) v

-- an eviction
pub numbers_evicted : (w : State) (word : ℕ) (p : Place) → Inv (machine w) → AreNumbersRising w
    → AreNumbersRising (evict_with w word (Some p))
numbers_evicted w word p inv = go w.queue
  where
    go : (queue : Queue) → AreNumbersRisingIn queue w.told w.log.events (order_in w)
        → AreNumbersRisingIn queue w.told w.log.events (order_in (evict_with w word (Some p)))
    go (Durable told) v = tt
    go (Log clients) v =
        rise_comes w.shape.kind w.base w.told w.log.events clients.floors w.log.effects
        (evict_with w word (Some p)).log.effects (in_log (machine w) inv) (comes_evicted (machine w) inv p) v

-- a crash
pub numbers_crashed : (w : State) → Inv (machine (after_stop w)) → AreNumbersRising w → AreNumbersRising (after_stop w)
numbers_crashed w after = go w.queue
  where
    go : (queue : Queue) → AreNumbersRisingIn queue w.told w.log.events (order_in w)
        → AreNumbersRisingIn queue w.told (after_stop w).log.events (order_in (after_stop w))
    go (Durable told) v = tt
    go (Log clients) v =
        rise_crashed w.told w.log.events (order_in (after_stop w)) clients.floors
        (in_log (machine (after_stop w)) after).places
        (subst (λ (order : List Entry). NumbersRise w.told w.log.events order clients.floors)
        (sym (order_settled_effects w.log.effects)) v)

-- the end of recovery, where it is one
readied : (kind : Kind) (base : List Value) (told : List Told) (events : List Event) (effects : List Effect)
    → (next : After Recovery (List Told)) → IsTrace kind base told (recovery_events events next) effects
    → (queue : Queue) → IsOfKind kind queue → AreNumbersRisingIn queue told events (order_of effects)
    → AreNumbersRisingIn (queue_at_ready queue next) told (recovery_events events next) (order_of effects)
readied kind base told events effects (More r) log queue is v = v
readied kind base told events effects (Done tells) log (Durable reports) is v = tt
readied log_kind base told events effects (Done tells) log (Log clients) is v =
    rise_ready base told events effects clients.floors tells log v
readied durable_kind base told events effects (Done tells) log (Log clients) is v = absurd is

-- a step of recovery
pub numbers_recovered : (w : State) (r : Recovery) → Inv (machine (after_recovery_step w r))
    → IsOfKind w.shape.kind w.queue → AreNumbersRising w → AreNumbersRising (after_recovery_step w r)
numbers_recovered w r after is v =
    readied w.shape.kind w.base w.told w.log.events w.log.effects (next_recovery (machine w) r)
    (in_log (machine (after_recovery_step w r)) after) w.queue is v

-- where the history begins: a new world, and one that is given kept words
pub numbers_new : (kind : Kind) (clients : ℕ)
    → AreNumbersRisingIn (new_queue kind clients) (told_in (new_queue kind clients)) [] []
numbers_new durable_kind clients = tt
numbers_new log_kind clients = rise_begun (replicate MAX_CLIENTS told_none) (length-replicate MAX_CLIENTS told_none)

pub numbers_booted : (kind : Kind) (told : List Told) → length told ≡ MAX_CLIENTS
    → AreNumbersRisingIn (queue_at_boot kind told) told [] []
numbers_booted durable_kind told sixteen = tt
numbers_booted log_kind told sixteen = rise_begun told sixteen

-- so no number stands twice in the order
pub numbers_are_once : (w : State) (is_new : (i : ℕ) → i < length (order_in w) → IsNew (order_in w) i)
    → AreNumbersRising w → AreNumbersOnceIn w.queue w.told w.log.events (order_in w)
numbers_are_once w is_new = go w.queue
  where
    go : (queue : Queue) → AreNumbersRisingIn queue w.told w.log.events (order_in w)
        → AreNumbersOnceIn queue w.told w.log.events (order_in w)
    go (Durable told) v = tt
    go (Log clients) v = numbers_once w.told w.log.events (order_in w) clients.floors is_new v

-- and where a Ready came last each number in the order is at most its client's floor
floors_readied : (w : State) (next : After Recovery (List Told)) (queue : Queue) → is_ready next ≡ true
    → AreNumbersRisingIn (queue_at_ready queue next) w.told (recovery_events w.log.events next) (order_in w)
    → AreWithinFloorsIn (queue_at_ready queue next) (recovery_events w.log.events next) (order_in w)
floors_readied w (More p) queue ready v = cc
floors_readied w (Done tells) (Durable reports) ready v = tt
floors_readied w (Done tells) (Log clients) ready v =
    within_floors w.told w.log.events (order_in w) (told_queue tells).floors tells v

pub within_floors_ready : (full : Bool) (w : State) → AreNumbersRising (after_recover full w)
    → recover_result full w ≡ Ok true → AreWithinFloors (after_recover full w)
within_floors_ready full w v is = go w.recovery full v is
  where
    go : (o : Option Recovery) (f : Bool) → AreNumbersRising (recover_with f w o) → recover_result_with f w o ≡ Ok true
        → AreWithinFloors (recover_with f w o)
    go None f v is = cc
    go (Some r) true v is = cc
    go (Some r) false v is =
        floors_readied w (next_recovery (machine w) r) w.queue
        (let same : is_ready (next_recovery (machine w) r) ≡ true = cc in same) v

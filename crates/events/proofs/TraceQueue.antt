-- What the queue holds after all effects of a trace, and what becomes of the order, as the trace grows.
use Rattle.std.proofs.Common.{ℕ, ◌≡◌, Bool, true, false, not, List, [], ◌∷◌, ◌++◌, refl, ap, ◌∙◌}
use Rattle.std.specs.Prelude.{All}
use Rattle.std.specs.List.{filter}
use Rattle.std.proofs.lemmas.List.{map-append}
use Rattle.std.proofs.lemmas.List.Elements.{filter_passes}
use Rattle.words.specs.PlainQueue.{Value}
use Rattle.words.specs.declared.call.Kind.{Kind}
use Rattle.words.specs.declared.call.Reply.{Reply}
use Rattle.words.specs.declared.call.Reply.TheVariants.{Empty}
use Rattle.words.specs.declared.told.Told.{Told}
use Rattle.events.specs.declared.event.Effect.{Effect}
use Rattle.events.specs.declared.event.Event.{Event}
use Rattle.events.specs.Effects.{entry_of, order_of, with_effect, with_pending, is_pending_at, without_pending}
use Rattle.events.specs.Effects.{with_settled, settled_effects}
use Rattle.events.specs.Trace.{IsTrace, entries_of, queue_of}
use Rattle.events.specs.Parts.{IsPartOf}
use Rattle.events.specs.Replay.{IsServed, call_at, queue_after_call, queue_after}
use Rattle.events.proofs.Members.{part_same, part_longer}
use Rattle.events.proofs.GrowingReplay.{runs_from_replays, queue_longer, queue_push, queue_kept, empty_leaves}
use Rattle.events.proofs.EffectLists.{order_with_effect, order_with_pending, order_without_pending}
use Rattle.events.proofs.EffectLists.{order_settled_effects, entries_with_settled, keeps_settled}
use Rattle.events.proofs.TraceEffects.{dropped_empty}

-- more events change nothing
pub queue_with_events : (kind : Kind) (base : List Value) (told : List Told) (events : List Event)
    (effects : List Effect) (more : List Event)
    → IsTrace kind base told events effects
    → queue_of (events ++ more) base effects ≡ queue_of events base effects
queue_with_events kind base told events effects more trace =
    queue_longer events more base (entries_of effects)
    (runs_from_replays events base (entries_of effects) trace.replays)

-- an effect that counts: the queue after it is what its call leaves
pub queue_with_effect : (events : List Event) (base : List Value) (effects : List Effect) (place : ℕ) (reply : Reply)
    (moment : ℕ)
    → queue_of events base (with_effect place reply moment effects)
    ≡ queue_after_call (queue_of events base effects) (call_at events place)
queue_with_effect events base effects place reply moment =
    let x : Effect = record { place = place; reply = reply; moment = moment; settled = true } in
    ap (queue_after events base) (map-append entry_of effects (x ∷ []))
    ∙ queue_push events base (entries_of effects) (entry_of x)

-- an Empty leaves the queue as it is
pub queue_with_pending : (events : List Event) (base : List Value) (effects : List Effect) (place moment : ℕ)
    → IsServed events (queue_of events base effects) (record { place = place; reply = Empty })
    → queue_of events base (with_pending place moment effects) ≡ queue_of events base effects
queue_with_pending events base effects place moment served =
    let x : Effect = record { place = place; reply = Empty; moment = moment; settled = false } in
    ap (queue_after events base) (map-append entry_of effects (x ∷ []))
    ∙ queue_push events base (entries_of effects) (entry_of x)
    ∙ empty_leaves events (queue_of events base effects) (entry_of x) served refl

-- so it is without effects that do not count
queue_without : (keep : Effect → Bool) (kind : Kind) (base : List Value) (told : List Told) (events : List Event)
    (effects : List Effect)
    → ((x : Effect) → x.settled ≡ true → keep x ≡ true) → IsTrace kind base told events effects
    → queue_of events base (filter keep effects) ≡ queue_of events base effects
queue_without keep kind base told events effects counts trace =
    queue_kept keep events base effects (dropped_empty keep events effects counts trace.pending)
    (runs_from_replays events base (entries_of effects) trace.replays)

pub queue_without_pending : (kind : Kind) (base : List Value) (told : List Told) (events : List Event)
    (effects : List Effect) (p : ℕ)
    → IsTrace kind base told events effects
    → queue_of events base (without_pending p effects) ≡ queue_of events base effects
queue_without_pending kind base told events effects p trace =
    queue_without (λ e. not (is_pending_at p e)) kind base told events effects (keeps_settled p) trace

pub queue_settled_effects : (kind : Kind) (base : List Value) (told : List Told) (events : List Event)
    (effects : List Effect)
    → IsTrace kind base told events effects
    → queue_of events base (settled_effects effects) ≡ queue_of events base effects
queue_settled_effects kind base told events effects trace =
    queue_without (λ e. e.settled) kind base told events effects (λ x s. s) trace

-- settling changes nothing of it
pub queue_with_settled : (events : List Event) (base : List Value) (effects : List Effect) (p : ℕ)
    → queue_of events base (with_settled p effects) ≡ queue_of events base effects
queue_with_settled events base effects p = ap (queue_after events base) (entries_with_settled p effects)

-- the replay of the order leaves what the queue holds after all effects
pub queue_of_order : (kind : Kind) (base : List Value) (told : List Told) (events : List Event) (effects : List Effect)
    → IsTrace kind base told events effects
    → queue_after events base (order_of effects) ≡ queue_of events base effects
queue_of_order kind base told events effects trace = queue_settled_effects kind base told events effects trace

-- the order before is a part of the order after
pub part_with_effect : (effects : List Effect) (place : ℕ) (reply : Reply) (moment : ℕ)
    → IsPartOf (order_of effects) (order_of (with_effect place reply moment effects))
part_with_effect effects place reply moment =
    rw (order_with_effect effects place reply moment)
    (part_longer (order_of effects) (record { place = place; reply = reply } ∷ []))

pub part_with_pending : (effects : List Effect) (place moment : ℕ)
    → IsPartOf (order_of effects) (order_of (with_pending place moment effects))
part_with_pending effects place moment = rw (order_with_pending effects place moment) (part_same (order_of effects))

pub part_without_pending : (effects : List Effect) (p : ℕ)
    → IsPartOf (order_of effects) (order_of (without_pending p effects))
part_without_pending effects p = rw (order_without_pending p effects) (part_same (order_of effects))

pub part_settled_effects : (effects : List Effect) → IsPartOf (order_of effects) (order_of (settled_effects effects))
part_settled_effects effects = rw (order_settled_effects effects) (part_same (order_of effects))

-- after a crash every effect counts
pub all_settled : (effects : List Effect) → All (λ x. x.settled ≡ true) (settled_effects effects)
all_settled effects = filter_passes (λ e. e.settled) effects

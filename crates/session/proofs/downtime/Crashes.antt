-- What is kept stays right over evictions and crashes.
use Rattle.std.proofs.Common.{◌≡◌, ℕ, ◌-◌, Bool, true, false, not, is_some, if◌then◌else◌, Option, Some, None, refl, sym, ap, subst, ◌∙◌}
use Rattle.words.specs.declared.call.Kind.TheVariants.{Log as log_kind}
use Rattle.words.specs.declared.told.Verdict.{Verdict}
use Rattle.arena.specs.Broker.{block_from}
use Rattle.arena.specs.Shape.{Counts, Shape}
use Rattle.protocol.specs.declared.acts.Act.TheVariants.{Crash, Evict}
use Rattle.interleave.specs.Holds.{Holds}
use Rattle.interleave.specs.State.{State, after_evict, after_stop}
use Rattle.interleave.proofs.Facts.{rested_after}
use Rattle.named.specs.Brokers.{Brokered, IsWell, quiet, world_at}
use Rattle.named.specs.Evicting.{is_in_block, world_evicted}
use Rattle.named.specs.Slots.{acted}
use Rattle.named.specs.Stopping.{IsSameButRoom, IsStopped}
use Rattle.named.specs.declared.recovery.BrokerRecovery.{BrokerRecovery}
use Rattle.named.proofs.Facts.{evict_alike, none_some}
use Rattle.session.specs.Sessions.{IsRight, IsSlotRight, Sessioned, is_up, kept_in}
use Rattle.session.proofs.calls.Slots.{right_down, right_if_quiet, right_unanswered}
use Rattle.session.proofs.brokers.Worlds.{holds_there, up_there}

-- a broker that is up has no recovery under way
pub up_none : (o : Option BrokerRecovery) → not (is_some o) ≡ true → o ≡ None
up_none None up = refl
up_none (Some r) up = absurd (cc (up))

pub up_same : (old new : Brokered) → new.recovery ≡ old.recovery → is_up new ≡ is_up old
up_same old new same = ap (λ (r : Option BrokerRecovery). not (is_some r)) same

-- where nothing but counts of accesses changed
pub right_quiet : (s : Sessioned) (new : Brokered) → IsRight s → IsWell new → new.recovery ≡ s.broker.recovery
    → ((slot : ℕ) → quiet (world_at new slot) ≡ quiet (world_at s.broker slot)) → IsRight (record s { broker = new })
right_quiet s new right well same worlds = record {
  well = well;
  slots = λ slot.
      subst (λ (u : Bool). IsSlotRight u (world_at new slot) (kept_in s.kept slot)) (sym (up_same s.broker new same))
      (right_if_quiet (is_up s.broker) (world_at s.broker slot) (world_at new slot) (kept_in s.kept slot) (worlds slot)
      (right.slots slot));
}

-- each world became this, which leaves what is kept of it right
became_right : (s : Sessioned) (new : Brokered) (up : Bool) (act : ℕ → State → State) → IsRight s → IsWell new
    → is_up new ≡ up → ((slot : ℕ) → world_at new slot ≡ acted (act slot) (world_at s.broker slot))
    → ((slot : ℕ) (w : State) → world_at s.broker slot ≡ Some w
    → IsSlotRight (is_up s.broker) (Some w) (kept_in s.kept slot)
    → IsSlotRight up (Some (act slot w)) (kept_in s.kept slot))
    → IsRight (record s { broker = new })
became_right s new up act right well is worlds each = record {
  well = well;
  slots = λ slot.
      subst (λ (u : Bool). IsSlotRight u (world_at new slot) (kept_in s.kept slot)) (sym is)
      (subst (λ (o : Option State). IsSlotRight up o (kept_in s.kept slot)) (sym (worlds slot))
      (go slot (world_at s.broker slot) refl (right.slots slot)));
}
  where
    go : (slot : ℕ) (o : Option State) → world_at s.broker slot ≡ o
        → IsSlotRight (is_up s.broker) o (kept_in s.kept slot)
        → IsSlotRight up (acted (act slot) o) (kept_in s.kept slot)
    go slot None here is = is
    go slot (Some w) here is = each slot w here is

-- an eviction of a word of the queue
evicted_queue : (up : Bool) (w : State) (word : ℕ) (kept : ℕ → Option Verdict) → Holds w
    → (up ≡ true → w.recovery ≡ None) → IsSlotRight up (Some w) kept → IsSlotRight up (Some (after_evict w word)) kept
evicted_queue true w word kept holds ready is =
    let alike = evict_alike w word in
    right_unanswered false w (Evict word) holds kept alike.0 (ready refl) (alike.1 ∙ ready refl)
    (λ client reply step result. absurd (cc (step))) is
evicted_queue false w word kept holds ready is =
    let alike = evict_alike w word in
    right_down false w (Evict word) holds kept alike.0 false
    (λ log up.
    let was : w.shape.kind ≡ log_kind = ap (λ (s : Shape). s.kind) (sym alike.0) ∙ log in
    let still : w.recovery ≡ None = sym alike.1 ∙ up in
    rested_after w word holds was still ((is was).rested refl still)) is

-- and of one of the broker's memory
evicted_slot : (c : Counts) (slot word : ℕ) (up : Bool) (w : State) (kept : ℕ → Option Verdict) → Holds w
    → (up ≡ true → w.recovery ≡ None) → IsSlotRight up (Some w) kept
    → IsSlotRight up (Some (world_evicted c slot word w)) kept
evicted_slot c slot word up w kept holds ready is = go (is_in_block c slot word)
  where
    go : (x : Bool) → IsSlotRight up (Some (if x then after_evict w (word - block_from c slot) else w)) kept
    go true = evicted_queue up w (word - block_from c slot) kept holds ready is
    go false = is

pub right_evicted : (s : Sessioned) (new : Brokered) (word : ℕ) → IsRight s → IsWell new
    → new.recovery ≡ s.broker.recovery
    → ((slot : ℕ) → world_at new slot ≡ acted (world_evicted s.broker.counts slot word) (world_at s.broker slot))
    → IsRight (record s { broker = new })
right_evicted s new word right well same worlds =
    became_right s new (is_up s.broker) (λ slot. world_evicted s.broker.counts slot word) right well
    (up_same s.broker new same) worlds (λ slot w here is.
    evicted_slot s.broker.counts slot word (is_up s.broker) w (kept_in s.kept slot)
    (holds_there s.broker right.well slot w here)
    (λ up. up_there s.broker right.well slot w here (up_none s.broker.recovery up)) is)

-- a crash: what clients will be told is still to come
pub right_stopped : (s : Sessioned) (new : Brokered) → IsRight s → IsWell new → IsStopped s.broker new
    → IsRight (record s { broker = new })
right_stopped s new right well stopped =
    became_right s new false (λ slot. after_stop) right well
    (ap (λ (b : Brokered). is_up b) stopped.same) stopped.worlds (λ slot w here is.
    right_down false w Crash (holds_there s.broker right.well slot w here) (kept_in s.kept slot) refl (is_up s.broker)
    (λ log up. absurd (none_some (sym up))) is)

-- one that is refused
pub right_roomier : (s : Sessioned) (new : Brokered) → IsRight s → IsWell new → IsSameButRoom s.broker new
    → IsRight (record s { broker = new })
right_roomier s new right well same =
    right_quiet s new right well (ap (λ (b : Brokered). b.recovery) same.same) (λ slot. ap quiet (same.worlds slot))

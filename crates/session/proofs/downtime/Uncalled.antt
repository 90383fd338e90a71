-- Nobody has called a broker that begins, and so it stays while it stops, recovers, or ends its histories.
use Rattle.std.proofs.Common.{◌≡◌, ◌⊎◌, inl, inr, ℕ, zero, suc, ◌-◌, List, Bool, if◌then◌else◌, true, false, is_some, Option, None, Some, Result, Ok, replicate, slice_get, refl, sym, ap, subst, ◌∙◌}
use Rattle.std.proofs.lemmas.Bool.{cases_eq}
use Rattle.words.specs.declared.call.Kind.TheVariants.{Durable as durable_kind, Log as log_kind}
use Rattle.words.specs.declared.refusal.Refusal.{Refusal}
use Rattle.persist.specs.Memory.{Words}
use Rattle.recover.specs.Table.{boot_recovery as queue_recovery}
use Rattle.recover.specs.declared.recovery.Recovery.{Recovery}
use Rattle.arena.specs.Broker.{block_from}
use Rattle.arena.specs.Shape.{Counts, Shape, shape_of}
use Rattle.arena.specs.declared.broker.SlotId.{SlotId}
use Rattle.arena.specs.declared.broker.TheConstants.{SLOTS}
use Rattle.directory.specs.Queue.{slot_in}
use Rattle.directory.specs.declared.creation.Creation.{Creation}
use Rattle.directory.specs.declared.queue.Queue.{Queue}
use Rattle.interleave.specs.Calls.{is_no_memory}
use Rattle.interleave.specs.Holds.{Holds}
use Rattle.interleave.specs.Rotation.{after_rotation}
use Rattle.interleave.specs.State.{State, after_evict, after_recover, after_stop, world_over}
use Rattle.interleave.specs.Verdicts.{IsRested}
use Rattle.interleave.proofs.Facts.{one_verdict, rested_after, rested_rotated, uncounted}
use Rattle.named.specs.Booting.{IsBooted, world_booted}
use Rattle.named.specs.Brokers.{Brokered, IsNew, IsOpened, IsSlotAt, IsWell, block_words, quiet, world_at, world_of}
use Rattle.named.specs.Evicting.{is_in_block, world_evicted}
use Rattle.named.specs.GoingOn.{AreOthersQuiet}
use Rattle.named.specs.Rotating.{IsRotated, rotate_result}
use Rattle.named.specs.Slots.{acted, kind_in, world_in}
use Rattle.named.specs.Stopping.{IsFound, IsFoundFirst, IsFoundIn, IsQueueRecovered, IsRecoveryStep, IsStopped}
use Rattle.named.specs.Stopping.{found_by, found_world}
use Rattle.named.specs.declared.recovery.BrokerRecovery.{BrokerRecovery}
use Rattle.named.specs.declared.recovery.BrokerRecovery.TheVariants.{ReadDirectory, RecoverQueue}
use Rattle.named.specs.declared.slot.Slot.{Slot}
use Rattle.named.specs.declared.slot.Slot.TheVariants.{Closed, Open}
use Rattle.named.proofs.Facts.{evict_alike, none_some, open_below, recovered_shape}
use Rattle.session.specs.Sessions.{HasDurableQueue, IsUncalled}
use Rattle.session.proofs.brokers.Histories.{world_at_rest}
use Rattle.session.proofs.calls.Slots.{rested_new, rested_recovered}
use Rattle.session.proofs.brokers.Worlds.{holds_there}

-- a world where nobody has called, if it is that of a ready log queue
abbrev pub IsRestedIf : State → Type 0
IsRestedIf w = w.shape.kind ≡ log_kind → w.recovery ≡ None → IsRested w

if_same : (v w : State) → v ≡ w → IsRestedIf w → IsRestedIf v
if_same v w same is = subst IsRestedIf (sym same) is

-- nor does the count of accesses matter
if_quiet : (b : Brokered) (slot : ℕ) (v : State) (o : Option State) → quiet (Some v) ≡ quiet o
    → ((w : State) → o ≡ Some w → IsRestedIf w) → IsRestedIf v
if_quiet b slot v None e is = absurd (cc (e))
if_quiet b slot v (Some w) e is = λ log up.
    let same : uncounted v ≡ uncounted w = cc (e) in
    (one_verdict v w same).rested
    (is w refl (ap (λ (x : State). x.shape.kind) (sym same) ∙ log) (ap (λ (x : State). x.recovery) (sym same) ∙ up))

-- a new broker has no queue
copies_closed : (n slot : ℕ) (s : Slot) → slice_get (replicate n Closed) slot ≡ Some s → s ≡ Closed
copies_closed zero slot s e = absurd (none_some e)
copies_closed (suc n) zero s e = cc
copies_closed (suc n) (suc slot) s e = copies_closed n slot s e

pub uncalled_new : (c : Counts) (b : Brokered) → IsNew c b → IsUncalled b
uncalled_new c b new = record { rested = λ slot w here log up. absurd (go slot w (slice_get b.slots slot) refl here) }
  where
    go : (slot : ℕ) (w : State) (o : Option Slot) → slice_get b.slots slot ≡ o → world_of b.words o ≡ Some w → ⊥
    go slot w None e there = none_some there
    go slot w (Some s) e there =
        let closed = copies_closed SLOTS slot s (ap (λ (xs : List Slot). slice_get xs slot) (sym new.slots) ∙ e) in
        none_some (ap (world_in b.words) (sym closed) ∙ there)

-- one that begins on kept words is all to recover
abbrev recovers : Option State → Bool
recovers None = false
recovers (Some w) = is_some w.recovery

unready : (c : Counts) (slot : ℕ) (ws : Words) (place : Option Queue) (w : State)
    → world_booted c slot ws place ≡ Some w → w.recovery ≡ None → ⊥
unready c slot ws None w here ready = none_some here
unready c slot ws (Some queue) w here ready =
    let up : true ≡ is_some w.recovery = ap recovers here in
    let down : is_some w.recovery ≡ false = ap (λ (o : Option Recovery). is_some o) ready in
    cc

pub uncalled_booted : (ws : Words) (b : Brokered) → IsWell b → IsBooted ws b → IsUncalled b
uncalled_booted ws b well booted = record {
  rested = λ slot w here log ready.
      let below = open_below b well slot w here in
      absurd (unready b.counts slot ws (slot_in ws.kept slot) w (sym (booted.worlds slot below) ∙ here) ready);
}

-- so is one that stopped
pub uncalled_stopped : (old new : Brokered) → IsStopped old new → IsUncalled new
uncalled_stopped old new stopped = record {
  rested = λ slot w here log ready. absurd (go slot w (world_at old slot) (sym (stopped.worlds slot) ∙ here) ready);
}
  where
    go : (slot : ℕ) (w : State) (o : Option State) → acted after_stop o ≡ Some w → w.recovery ≡ None → ⊥
    go slot w None e ready = none_some e
    go slot w (Some v) e ready =
        let same : after_stop v ≡ w = cc (e) in
        none_some (sym ready ∙ ap (λ (x : State). x.recovery) (sym same))

-- where its histories ended, each queue is told what is kept
pub uncalled_rotated : (old new : Brokered) → IsWell old → rotate_result false old ≡ Ok tt → IsRotated old new
    → IsUncalled new
uncalled_rotated old new well rotates rotated = record {
  rested = λ slot w here. go slot w (world_at old slot) refl (sym (rotated.worlds slot) ∙ here);
}
  where
    go : (slot : ℕ) (w : State) (o : Option State) → world_at old slot ≡ o → acted after_rotation o ≡ Some w → IsRestedIf w
    go slot w None there e = absurd (none_some e)
    go slot w (Some v) there e =
        let same : after_rotation v ≡ w = cc (e) in
        if_same w (after_rotation v) (sym same)
        (λ log up. rested_rotated false v (holds_there old well slot v there) log (world_at_rest old well rotates slot v there))

-- a step of recovery makes a queue ready with its clients told, or leaves the queues that are
module _ (old new : Brokered) (well : IsWell old) (is : IsUncalled old) where
  quiet_slot : (slot : ℕ) (w : State) → world_at new slot ≡ Some w → quiet (world_at new slot) ≡ quiet (world_at old slot)
      → IsRestedIf w
  quiet_slot slot w here same =
      if_quiet new slot w (world_at old slot) (ap quiet (sym here) ∙ same) (λ v there. is.rested slot v there)

  found_first : (at : SlotId) → IsFoundFirst old new at → IsUncalled new
  found_first at first = record { rested = λ slot w here. go slot w here (cases_eq slot at.0) }
    where
      go : (slot : ℕ) (w : State) → world_at new slot ≡ Some w → (slot ≡ at.0) ⊎ (slot ≡ at.0 → ⊥) → IsRestedIf w
      go slot w here (inr apart) = quiet_slot slot w here (first.others slot apart)
      go slot w here (inl same) = λ log up.
          let it = sym here ∙ ap (world_at new) same ∙ first.world in
          absurd (none_some (sym up ∙ found_down w it))
        where
          found_down : (w : State) → Some w ≡ Some (found_world old first.creation.queue.kind at.0 new.words)
              → w.recovery ≡ Some queue_recovery
          found_down w e = cc (e)

  found_in : (at : SlotId) (o : Option State) → IsFoundIn old new at o → IsUncalled new
  found_in at None first = found_first at first
  found_in at (Some w) known = record { rested = λ slot v here. quiet_slot slot v here (known.worlds slot) }

  found_uncalled : (o : Option SlotId) → IsFound old new o → IsUncalled new
  found_uncalled None known = record { rested = λ slot v here. quiet_slot slot v here (known.worlds slot) }
  found_uncalled (Some at) found = found_in at (world_at old at.0) found

  queue_uncalled : (at : ℕ) (result : Result Bool Refusal) → IsQueueRecovered old new at result → IsUncalled new
  queue_uncalled at result step = record { rested = λ slot w here. go slot w here (cases_eq slot at) }
    where
      own : (w : State) (o : Option State) → world_at old at ≡ o → acted (after_recover (is_no_memory result)) o ≡ Some w
          → IsRestedIf w
      own w None there e = absurd (none_some e)
      own w (Some v) there e =
          let same : after_recover (is_no_memory result) v ≡ w = cc (e) in
          if_same w (after_recover (is_no_memory result) v) (sym same)
          (λ log ready.
          let was : v.shape.kind ≡ log_kind = ap (λ (s : Shape). s.kind) (sym (recovered_shape (is_no_memory result) v)) ∙ log in
          rested_recovered (is_no_memory result) v (holds_there old well at v there) was (is.rested at v there was) ready)

      go : (slot : ℕ) (w : State) → world_at new slot ≡ Some w → (slot ≡ at) ⊎ (slot ≡ at → ⊥) → IsRestedIf w
      go slot w here (inr apart) = quiet_slot slot w here (step.others slot apart)
      go slot w here (inl same) = own w (world_at old at) refl (sym step.world ∙ ap (world_at new) (sym same) ∙ here)

  pub uncalled_recovered : (result : Result Bool Refusal) → IsRecoveryStep old new result old.recovery → IsUncalled new
  uncalled_recovered result step = go old.recovery step
    where
      go : (r : Option BrokerRecovery) → IsRecoveryStep old new result r → IsUncalled new
      go None same = subst IsUncalled (sym same.1) is
      go (Some (ReadDirectory at)) read = found_uncalled (found_by old at).opened read.found
      go (Some (RecoverQueue at)) recovered = queue_uncalled at.0 result recovered

-- what leaves each world as it is, but for the count of accesses, calls nobody
pub uncalled_alike : (old new : Brokered) → IsUncalled old
    → ((slot : ℕ) → quiet (world_at new slot) ≡ quiet (world_at old slot)) → IsUncalled new
uncalled_alike old new is same = record {
  rested = λ slot w here.
      if_quiet new slot w (world_at old slot) (ap quiet (sym here) ∙ same slot) (λ v there. is.rested slot v there);
}

-- nor does what changes one slot, where that has no log queue in which somebody has called
uncalled_but : (old new : Brokered) (at : ℕ) → IsUncalled old → AreOthersQuiet old new at
    → ((w : State) → world_at new at ≡ Some w → IsRestedIf w) → IsUncalled new
uncalled_but old new at is others own = record { rested = λ slot w here. go slot w here (cases_eq slot at) }
  where
    go : (slot : ℕ) (w : State) → world_at new slot ≡ Some w → (slot ≡ at) ⊎ (slot ≡ at → ⊥) → IsRestedIf w
    go slot w here (inl same) = own w (ap (world_at new) (sym same) ∙ here)
    go slot w here (inr apart) =
        if_quiet new slot w (world_at old slot) (ap quiet (sym here) ∙ others slot apart) (λ v there. is.rested slot v there)

-- a queue that the directory has as durable is no log queue
not_log : (b : Brokered) (slot : ℕ) → IsWell b → HasDurableQueue b slot → (w : State) → world_at b slot ≡ Some w
    → w.shape.kind ≡ log_kind → ⊥
not_log b slot well durable w here log = go (slice_get b.slots slot) refl here
  where
    by_slot : (s : Slot) → IsSlotAt b.counts b.words slot s → kind_in s ≡ Some durable_kind → world_in b.words s ≡ Some w → ⊥
    by_slot Closed at kind there = none_some there
    by_slot (Open block) at kind there =
        let same : w.shape ≡ block.core.shape = cc (there) in
        let kinds : log_kind ≡ block.core.shape.kind = sym log ∙ ap (λ (x : Shape). x.kind) same in
        absurd (cc (kinds, kind))

    go : (o : Option Slot) → slice_get b.slots slot ≡ o → world_of b.words o ≡ Some w → ⊥
    go None e there = none_some there
    go (Some s) e there =
        by_slot s (well.slots slot s e) (well.kinds slot s (Some durable.queue) e durable.has ∙ ap Some durable.durable) there

pub uncalled_durable : (old new : Brokered) (slot : ℕ) → IsWell new → IsUncalled old → HasDurableQueue new slot
    → AreOthersQuiet old new slot → IsUncalled new
uncalled_durable old new slot well is durable others =
    uncalled_but old new slot is others (λ w here log. absurd (not_log new slot well durable w here log))

-- nobody has called a queue that was just created
pub uncalled_created : (old new : Brokered) (creation : Creation) (slot : SlotId) → IsWell new → IsUncalled old
    → IsOpened old new creation slot → AreOthersQuiet old new slot.0 → IsUncalled new
uncalled_created old new creation slot well is opened others =
    uncalled_but old new slot.0 is others (λ w here. own w here (sym here ∙ opened.world))
  where
    own : (w : State) → world_at new slot.0 ≡ Some w
        → Some w ≡ Some (world_over (shape_of creation.queue.kind old.counts) (block_words old.counts slot.0 new.words))
        → IsRestedIf w
    own w here e =
        let s : Shape = shape_of creation.queue.kind old.counts in
        let ws : Words = block_words old.counts slot.0 new.words in
        let same : w ≡ world_over s ws = cc (e) in
        if_same w (world_over s ws) same
        (λ log up. rested_new s ws (subst Holds same (holds_there new well slot.0 w here)) log)

-- nor is an eviction a call
pub uncalled_evicted : (old new : Brokered) (word : ℕ) → IsWell old → IsUncalled old
    → ((slot : ℕ) → world_at new slot ≡ acted (world_evicted old.counts slot word) (world_at old slot)) → IsUncalled new
uncalled_evicted old new word well is worlds = record {
  rested = λ slot w here. go slot w (world_at old slot) refl (sym (worlds slot) ∙ here);
}
  where
    evicted : (v : State) (n : ℕ) (inside : Bool) → Holds v → IsRestedIf v → IsRestedIf (if inside then after_evict v n else v)
    evicted v n false holds rested = rested
    evicted v n true holds rested = λ log up.
        let alike = evict_alike v n in
        let log_was : v.shape.kind ≡ log_kind = ap (λ (x : Shape). x.kind) (sym alike.0) ∙ log in
        let up_was : v.recovery ≡ None = sym alike.1 ∙ up in
        rested_after v n holds log_was up_was (rested log_was up_was)

    go : (slot : ℕ) (w : State) (o : Option State) → world_at old slot ≡ o
        → acted (world_evicted old.counts slot word) o ≡ Some w → IsRestedIf w
    go slot w None there e = absurd (none_some e)
    go slot w (Some v) there e =
        let same : world_evicted old.counts slot word v ≡ w = cc (e) in
        if_same w (world_evicted old.counts slot word v) (sym same)
        (evicted v (word - block_from old.counts slot) (is_in_block old.counts slot word) (holds_there old well slot v there) (is.rested slot v there))

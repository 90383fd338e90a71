-- A crash of a broker: room is made in each queue's history, each queue stops, and recovery begins anew.
use Rattle.std.proofs.Common.{◌≡◌, ℕ, ◌+◌, ◌≤◌, inl, inr, true, false, List, Option, Some, None, slice_get, slice_set, refl, sym, ap, ◌∙◌, arith}
use Rattle.std.specs.Option.{option_map}
use Rattle.std.specs.Prelude.{is_some}
use Rattle.std.proofs.lemmas.Option.{slice_get_within}
use Rattle.persist.specs.Memory.{Words, words_after_crash}
use Rattle.arena.specs.Shape.{Counts}
use Rattle.directory.specs.Directory.{Directory}
use Rattle.directory.specs.Recovery.{boot_recovery}
use Rattle.directory.specs.UnderWay.{IsAsItWasOrWith, IsAtRest}
use Rattle.directory.specs.declared.creation.Creation.{Creation}
use Rattle.directory.specs.declared.queue.Queue.{Queue}
use Rattle.directory.proofs.Facts.{creation_crashed, head_crashed, recovery_begins, rest_crashed}
use Rattle.interleave.specs.State.{State, after_stop}
use Rattle.named.specs.Blocks.{BlockState, state_in}
use Rattle.named.specs.Brokers.{Brokered, IsCreating, IsDirectoryAt, IsMaybeWith, IsReading, IsSlotAt, IsUnusedBlock}
use Rattle.named.specs.Brokers.{IsWell, IsWith, is_ready_at, room_at, room_of, world_at, world_of}
use Rattle.named.specs.Each.{EachBecame, HasMoreRoom, HasStopped}
use Rattle.named.specs.Slots.{AreEffectsFew, IsReadyIn, IsSameSlot, IsSlotWell, acted, kind_in, world_in}
use Rattle.named.specs.Stopping.{booting}
use Rattle.named.specs.declared.recovery.BrokerRecovery.{BrokerRecovery}
use Rattle.named.specs.declared.recovery.BrokerRecovery.TheVariants.{ReadDirectory, RecoverQueue}
use Rattle.named.specs.declared.slot.Slot.{Slot}
use Rattle.named.specs.declared.slot.Slot.TheVariants.{Closed, Open}
use Rattle.named.proofs.creations.Beginnings.{get_there}
use Rattle.named.proofs.acts.OneSlot.{in_block_again, kind_stays, ready_stays, slot_is_well, slot_now, some_is}
use Rattle.named.proofs.histories.Reservations.{few, same_outside, slot_reserved}

-- what a slot was, of which this became
record Was (become : Slot → Slot → Type 0) (old : List Slot) (at : ℕ) (is : Slot) : Type 0 where
  slot : Slot
  here : slice_get old at ≡ Some slot
  became : become slot is

module _ (become : Slot → Slot → Type 0) (old new : List Slot) (each : EachBecame become old new) where
  was_there : (at : ℕ) (is : Slot) → slice_get new at ≡ Some is → Was become old at is
  was_there at is e = go (slice_get old at) refl
    where
      go : (o : Option Slot) → slice_get old at ≡ o → Was become old at is
      go (Some was) here = record { slot = was; here = here; became = each.each at was is here e }
      go None none = absurd (get_there old at (omega (arith, slice_get_within new at is e, each.count)) none)

  -- where there is none, there was none
  was_none : (at : ℕ) → slice_get new at ≡ None → slice_get old at ≡ None
  was_none at none = go (slice_get old at) refl
    where
      go : (o : Option Slot) → slice_get old at ≡ o → o ≡ None
      go (Some was) here = absurd (get_there new at (omega (arith, slice_get_within old at was here, each.count)) none)
      go None e = refl

-- room was made in each history
module _ (b : Brokered) (slots : List Slot) (holds : IsWell b) (each : EachBecame HasMoreRoom b.slots slots) where
  slots_roomier : (at : ℕ) (slot : Slot) → slice_get slots at ≡ Some slot → IsSlotAt b.counts b.words at slot
  slots_roomier at is e =
      let was = was_there HasMoreRoom b.slots slots each at is e in
      let here : IsSlotAt b.counts b.words at was.slot = holds.slots at was.slot was.here in
      let well : IsSlotWell b.words is = slot_reserved b.words was.slot is (slot_is_well b.counts b.words at was.slot here) was.became.same (was.became.world b.words) in
      slot_now b.counts b.words b.words at was.slot is here well was.became.same (same_outside b.words was.slot)

  kinds_roomier : (at : ℕ) (slot : Slot) (queue : Option Queue) → slice_get slots at ≡ Some slot → slice_get b.directory at ≡ Some queue
      → kind_in slot ≡ option_map (λ (q : Queue). q.kind) queue
  kinds_roomier at is queue e listed =
      let was = was_there HasMoreRoom b.slots slots each at is e in
      kind_stays was.slot is was.became.same ∙ holds.kinds at was.slot queue was.here listed

  readiness_roomier : (at : ℕ) (slot : Slot) → slice_get slots at ≡ Some slot → IsReadyIn (is_ready_at b.recovery at) slot
  readiness_roomier at is e =
      let was = was_there HasMoreRoom b.slots slots each at is e in
      ready_stays (is_ready_at b.recovery at) was.slot is was.became.same was.became.as_ready (holds.readiness at was.slot was.here)

  pub well_roomier : IsWell (record b { slots = slots })
  well_roomier = record {
    counts = holds.counts;
    room = holds.room;
    head = holds.head;
    count = each.count ∙ holds.count;
    slots = slots_roomier;
    listed = holds.listed;
    kinds = kinds_roomier;
    directory = holds.directory;
    readiness = readiness_roomier;
  }

  pub worlds_roomier : (at : ℕ) → world_of b.words (slice_get slots at) ≡ world_at b at
  worlds_roomier at = go (slice_get slots at) refl
    where
      go : (o : Option Slot) → slice_get slots at ≡ o → world_of b.words o ≡ world_at b at
      go (Some is) e =
          let was = was_there HasMoreRoom b.slots slots each at is e in
          was.became.world b.words ∙ sym (ap (world_of b.words) was.here)
      go None e = sym (ap (world_of b.words) (was_none HasMoreRoom b.slots slots each at e))

  pub rooms_roomier : (at : ℕ) → room_at b at ≤ room_of (slice_get slots at)
  rooms_roomier at = go (slice_get slots at) refl
    where
      go : (o : Option Slot) → slice_get slots at ≡ o → room_at b at ≤ room_of o
      go (Some is) e =
          let was = was_there HasMoreRoom b.slots slots each at is e in
          omega (arith, ap room_of was.here, was.became.room)
      go None e = omega (arith, ap room_of (was_none HasMoreRoom b.slots slots each at e))

-- each queue's history has room for as many events as calls took effect
pub few_in_each : (b : Brokered) → IsWell b → (at : ℕ) (slot : Slot) → slice_get b.slots at ≡ Some slot → AreEffectsFew slot
few_in_each b holds at slot e = few b.words slot (slot_is_well b.counts b.words at slot (holds.slots at slot e))

-- a queue that stopped is in its block as it was
block_stopped : (c : Counts) (old new : Words) (at : ℕ) (was is : Slot) → (IsUnusedBlock c old at → IsUnusedBlock c new at) → IsSlotAt c old at was
    → IsSlotWell new is → IsSameSlot was is → IsSlotAt c new at is
block_stopped c old new at Closed Closed unused here well place = unused here
block_stopped c old new at (Open was) (Open is) unused here well place = in_block_again c old new at was is here well place
block_stopped c old new at Closed (Open is) unused here well place = absurd place
block_stopped c old new at (Open was) Closed unused here well place = absurd place

-- and its recovery is to come
recovers : (ws : Words) (w : State) (is : BlockState) → Some (state_in ws is) ≡ Some (after_stop w) → is_some is.core.trace.recovery ≡ true
recovers ws w is e = ap (λ (v : State). is_some v.recovery) (some_is (Some (state_in ws is)) (state_in ws is) (after_stop w) refl e)

not_ready : (old new : Words) (was is : Slot) → IsSameSlot was is → world_in new is ≡ acted after_stop (world_in old was) → IsReadyIn false is
not_ready old new Closed Closed place e = tt
not_ready old new (Open was) (Open is) place e = recovers new (state_in old was) is e
not_ready old new Closed (Open is) place e = absurd place
not_ready old new (Open was) Closed place e = absurd place

-- the directory is to be read
reading : (ws : Words) (creation : Option Creation) (known whole : Directory) → IsAtRest ws whole → IsMaybeWith known whole creation
    → IsReading ws boot_recovery creation known
reading ws creation known whole rest more = record {
  whole = whole;
  recovering = recovery_begins ws whole rest;
  more = more;
  loaded = λ slot less. absurd (omega (arith, less));
}

as_known : (creation : Option Creation) (known : Directory) → IsMaybeWith known known creation
as_known None known = refl
as_known (Some creation) known = inl refl

-- the creation that a crash cut off is kept, or it is not
cut_off : (ws : Words) (creation : Creation) (directory : Directory) → IsCreating ws creation directory
    → IsReading (words_after_crash ws) boot_recovery (Some creation) directory
cut_off ws creation directory here = go (creation_crashed ws creation directory here.under_way)
  where
    go : IsAsItWasOrWith (words_after_crash ws) creation directory → IsReading (words_after_crash ws) boot_recovery (Some creation) directory
    go (inl rest) = reading (words_after_crash ws) (Some creation) directory directory rest (inl refl)
    go (inr rest) =
        let is_with : IsWith directory (slice_set directory creation.slot.0 (Some creation.queue)) creation = record { free = here.under_way.others.free; is_new = here.is_new; is = refl } in
        reading (words_after_crash ws) (Some creation) directory (slice_set directory creation.slot.0 (Some creation.queue)) rest (inr is_with)

directory_crashed : (ws : Words) (recovery : Option BrokerRecovery) (creation : Option Creation) (directory : Directory)
    → IsDirectoryAt ws recovery creation directory → IsReading (words_after_crash ws) boot_recovery creation directory
directory_crashed ws None None directory here = reading (words_after_crash ws) None directory directory (rest_crashed ws directory here) refl
directory_crashed ws None (Some creation) directory here = cut_off ws creation directory here
directory_crashed ws (Some (ReadDirectory at)) creation directory here =
    reading (words_after_crash ws) creation directory here.whole (rest_crashed ws here.whole here.recovering.rest) here.more
directory_crashed ws (Some (RecoverQueue slot)) creation directory here =
    reading (words_after_crash ws) creation directory directory (rest_crashed ws directory here.rest) (as_known creation directory)

-- each queue stops
module _ (b : Brokered) (slots : List Slot) (holds : IsWell b) (each : EachBecame HasStopped b.slots slots) where
  unused_stays : (at : ℕ) → IsUnusedBlock b.counts b.words at → IsUnusedBlock b.counts (words_after_crash b.words) at
  unused_stays at unused = record { cached = unused.kept; kept = unused.kept }

  slots_stopped : (at : ℕ) (slot : Slot) → slice_get slots at ≡ Some slot → IsSlotAt b.counts (words_after_crash b.words) at slot
  slots_stopped at is e =
      let was = was_there HasStopped b.slots slots each at is e in
      let here : IsSlotAt b.counts b.words at was.slot = holds.slots at was.slot was.here in
      let well : IsSlotWell (words_after_crash b.words) is = was.became.well b.words (slot_is_well b.counts b.words at was.slot here) in
      block_stopped b.counts b.words (words_after_crash b.words) at was.slot is (unused_stays at) here well was.became.same

  kinds_stopped : (at : ℕ) (slot : Slot) (queue : Option Queue) → slice_get slots at ≡ Some slot → slice_get b.directory at ≡ Some queue
      → kind_in slot ≡ option_map (λ (q : Queue). q.kind) queue
  kinds_stopped at is queue e listed =
      let was = was_there HasStopped b.slots slots each at is e in
      kind_stays was.slot is was.became.same ∙ holds.kinds at was.slot queue was.here listed

  readiness_stopped : (at : ℕ) (slot : Slot) → slice_get slots at ≡ Some slot → IsReadyIn false slot
  readiness_stopped at is e =
      let was = was_there HasStopped b.slots slots each at is e in
      not_ready b.words (words_after_crash b.words) was.slot is was.became.same (was.became.world b.words)

  pub well_stopped : IsWell (record b { words = words_after_crash b.words; slots = slots; recovery = booting })
  well_stopped = record {
    counts = holds.counts;
    room = record { cached = holds.room.kept; kept = holds.room.kept };
    head = head_crashed b.words b.counts holds.head;
    count = each.count ∙ holds.count;
    slots = slots_stopped;
    listed = holds.listed;
    kinds = kinds_stopped;
    directory = directory_crashed b.words b.recovery b.creation b.directory holds.directory;
    readiness = readiness_stopped;
  }

  pub worlds_stopped : (at : ℕ) → world_of (words_after_crash b.words) (slice_get slots at) ≡ acted after_stop (world_at b at)
  worlds_stopped at = go (slice_get slots at) refl
    where
      go : (o : Option Slot) → slice_get slots at ≡ o → world_of (words_after_crash b.words) o ≡ acted after_stop (world_at b at)
      go (Some is) e =
          let was = was_there HasStopped b.slots slots each at is e in
          was.became.world b.words ∙ sym (ap (λ (o : Option Slot). acted after_stop (world_of b.words o)) was.here)
      go None e = sym (ap (λ (o : Option Slot). acted after_stop (world_of b.words o)) (was_none HasStopped b.slots slots each at e))

  pub rooms_stopped : (at : ℕ) → room_at b at ≤ room_of (slice_get slots at) + 1
  rooms_stopped at = go (slice_get slots at) refl
    where
      go : (o : Option Slot) → slice_get slots at ≡ o → room_at b at ≤ room_of o + 1
      go (Some is) e =
          let was = was_there HasStopped b.slots slots each at is e in
          omega (arith, ap room_of was.here, was.became.room)
      go None e = omega (arith, ap room_of (was_none HasStopped b.slots slots each at e))

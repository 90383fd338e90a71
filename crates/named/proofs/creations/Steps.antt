-- A step of a creation keeps what holds of the broker, and leaves its queues as they were.
use Rattle.std.proofs.Common.{◌≡◌, ◌≢◌, ℕ, ◌+◌, ◌*◌, ◌<◌, ◌≤◌, ◌⊎◌, inl, inr, List, take, drop, slice_get, slice_set, Option, Some, None, true, refl, sym, ap, ◌∙◌, subst, arith}
use Rattle.std.proofs.lemmas.Bool.{cases_eq}
use Rattle.std.proofs.lemmas.List.{drop-drop}
use Rattle.std.specs.Option.{option_map}
use Rattle.persist.specs.Memory.{Words}
use Rattle.arena.specs.Broker.{block_size_of}
use Rattle.arena.specs.declared.broker.SlotId.{SlotId}
use Rattle.stepper.specs.declared.resume.After.TheVariants.{More, Done}
use Rattle.directory.specs.Creation.{after_point, creation_at, next_of, successor}
use Rattle.directory.specs.Directory.{Directory, HasName, IsDirectory, IsFree}
use Rattle.directory.specs.UnderWay.{ComesTo, HasDirectory, HasHead, HaveSameBlocks, IsAtRest, IsCreationUnderWay}
use Rattle.directory.specs.declared.creation.Creation.{Creation}
use Rattle.directory.specs.declared.creation.CreationPoint.{CreationPoint}
use Rattle.directory.specs.declared.queue.Queue.{Queue}
use Rattle.directory.proofs.Facts.{creation_blocks, creation_goes_on, creation_head, set_here}
use Rattle.interleave.proofs.Facts.{get_set}
use Rattle.named.specs.Brokers.{Brokered, HasRoom, IsCreating, IsDirectoryAt, IsDirectoryIn, IsSlotAt, IsUnusedBlock}
use Rattle.named.specs.Brokers.{IsWell, block_words, is_ready_at, quiet, room_at, room_of, words_created, world_at}
use Rattle.named.specs.Brokers.{world_of}
use Rattle.named.specs.Slots.{kind_in, room_in, world_in, IsReadyIn}
use Rattle.named.specs.declared.recovery.BrokerRecovery.{BrokerRecovery}
use Rattle.named.specs.declared.slot.Slot.{Slot}
use Rattle.named.specs.declared.slot.Slot.TheVariants.{Closed, Open}
use Rattle.named.proofs.creations.Beginnings.{get_there}
use Rattle.named.proofs.acts.Loops.{rooms_kept}
use Rattle.named.proofs.acts.OneSlot.{get_set_other, length_set, size_same, slot_stays, some_is, world_stays}

block_list : (size j : ℕ) (new old : List ℕ) → drop 34 new ≡ drop 34 old → take size (drop (34 + j * size) new) ≡ take size (drop (34 + j * size) old)
block_list size j new old e =
    ap (take size) (sym (drop-drop (j * size) 34 new) ∙ ap (drop (j * size)) e ∙ drop-drop (j * size) 34 old)

-- what a step of a creation comes to is of the same queue, and the same slot
more_queue : (slot : SlotId) (queue : Queue) (o : Option CreationPoint) (next : Creation) → after_point slot queue o ≡ More next
    → (next.queue ≡ queue) × (next.slot ≡ slot)
more_queue slot queue (Some at) next e =
    let is : next ≡ creation_at slot queue at = cc in
    (ap (λ (k : Creation). k.queue) is, ap (λ (k : Creation). k.slot) is)
more_queue slot queue None next e = absurd (cc)

done_slot : (slot : SlotId) (queue : Queue) (o : Option CreationPoint) (done : SlotId) → after_point slot queue o ≡ Done done → done ≡ slot
done_slot slot queue (Some at) done e = absurd (cc)
done_slot slot queue None done e = cc

pub closed_where_free : (slot : Slot) → kind_in slot ≡ None → slot ≡ Closed
closed_where_free Closed e = refl
closed_where_free (Open block) e = absurd (cc)

module _ (b : Brokered) (creation : Creation) (holds : IsWell b) (ready : b.recovery ≡ None) (is : b.creation ≡ Some creation) where
  at_ready : IsDirectoryIn b.words b.creation b.directory
  at_ready = subst (λ (o : Option BrokerRecovery). IsDirectoryAt b.words o b.creation b.directory) ready holds.directory

  pub creating : IsCreating b.words creation b.directory
  creating = subst (λ (o : Option Creation). IsDirectoryIn b.words o b.directory) is at_ready

  ws : Words
  ws = words_created b creation

  pub comes : ComesTo (words_created b creation) creation.queue b.directory (successor creation)
  comes = creation_goes_on b.counts b.words creation b.directory creating.under_way

  blocks : HaveSameBlocks b.words (words_created b creation)
  blocks = creation_blocks b.counts b.words creation creating.under_way.others.in_range

  same_block : (j : ℕ) → ((block_words b.counts j (words_created b creation)).cached ≡ (block_words b.counts j b.words).cached)
      × ((block_words b.counts j (words_created b creation)).kept ≡ (block_words b.counts j b.words).kept)
  same_block j = (
    block_list (block_size_of b.counts.clients b.counts.records) j (words_created b creation).cached b.words.cached blocks.cached,
    block_list (block_size_of b.counts.clients b.counts.records) j (words_created b creation).kept b.words.kept blocks.kept,
  )

  head_now : HasHead (words_created b creation) b.counts
  head_now = creation_head b.counts b.counts b.words creation creating.under_way.others.room holds.head

  world_same : (j : ℕ) → quiet (world_of (words_created b creation) (slice_get b.slots j)) ≡ quiet (world_at b j)
  world_same j = go (slice_get b.slots j) refl
    where
      go : (o : Option Slot) → slice_get b.slots j ≡ o → quiet (world_of (words_created b creation) o) ≡ quiet (world_of b.words o)
      go (Some s) e = world_stays b.counts j s b.words (words_created b creation) (same_block j) (holds.slots j s e)
      go None e = refl

  module _ (has : HasDirectory (words_created b creation)) where
    pub room_now : HasRoom b.counts (words_created b creation)
    room_now = record {
      cached = size_same 34 (words_created b creation).cached b.words.cached blocks.cached has.cached (omega (arith, holds.room.cached)) ∙ holds.room.cached;
      kept = size_same 34 (words_created b creation).kept b.words.kept blocks.kept has.kept (omega (arith, holds.room.kept)) ∙ holds.room.kept;
    }

    pub slots_now : (j : ℕ) (s : Slot) → slice_get b.slots j ≡ Some s → IsSlotAt b.counts (words_created b creation) j s
    slots_now j s e = slot_stays b.counts j s b.words (words_created b creation) (same_block j) (room_now.cached ∙ sym holds.room.cached) (holds.slots j s e)

  -- it goes on
  module _ (next : Creation) (went : successor creation ≡ More next) where
    going : IsCreationUnderWay (words_created b creation) next b.directory
    going = subst (ComesTo (words_created b creation) creation.queue b.directory) went comes

    pub well_more : IsWell (record b { words = words_created b creation; creation = Some next })
    well_more = record {
      counts = holds.counts;
      room = room_now going.others.room;
      head = head_now;
      count = holds.count;
      slots = slots_now going.others.room;
      listed = holds.listed;
      kinds = holds.kinds;
      directory = subst (λ (o : Option BrokerRecovery). IsDirectoryAt (words_created b creation) o (Some next) b.directory) (sym ready) still;
      readiness = holds.readiness;
    }
      where
        still : IsDirectoryIn (words_created b creation) (Some next) b.directory
        still = record {
          under_way = going;
          is_new = subst (λ (q : Queue). HasName b.directory q.name → ⊥) (sym (more_queue creation.slot creation.queue (next_of creation.at) next went).0) creating.is_new;
        }

  -- it is done: this slot is opened
  module _ (slot : SlotId) (went : successor creation ≡ Done slot) where
    pub its_slot : slot ≡ creation.slot
    its_slot = done_slot creation.slot creation.queue (next_of creation.at) slot went

    pub rest : IsAtRest (words_created b creation) (slice_set b.directory slot.0 (Some creation.queue))
    rest = subst (ComesTo (words_created b creation) creation.queue b.directory) went comes

    pub is_free : IsFree b.directory slot.0
    is_free = subst (λ (s : SlotId). IsFree b.directory s.0) (sym its_slot) creating.under_way.others.free

    pub in_range : slot.0 < 8
    in_range = subst (λ (s : SlotId). s.0 < 8) (sym its_slot) creating.under_way.others.in_range

    pub unused : IsUnusedBlock b.counts (words_created b creation) slot.0
    unused = go (slice_get b.slots slot.0) refl
      where
        go : (o : Option Slot) → slice_get b.slots slot.0 ≡ o → IsUnusedBlock b.counts (words_created b creation) slot.0
        go (Some s) e =
            let closed : s ≡ Closed = closed_where_free s (holds.kinds slot.0 s None e is_free) in
            subst (IsSlotAt b.counts (words_created b creation) slot.0) closed (slots_now rest.room slot.0 s e)
        go None e = absurd (get_there b.slots slot.0 (omega (arith, in_range, holds.count)) e)

    -- it was closed, and had no room
    pub rooms_opened : (opened : Slot) (at : ℕ) → room_at b at ≤ room_of (slice_get (slice_set b.slots slot.0 opened) at)
    rooms_opened opened at = go (slice_get b.slots slot.0) refl
      where
        go : (o : Option Slot) → slice_get b.slots slot.0 ≡ o → room_at b at ≤ room_of (slice_get (slice_set b.slots slot.0 opened) at)
        go (Some s) e =
            let closed : s ≡ Closed = closed_where_free s (holds.kinds slot.0 s None e is_free) in
            rooms_kept b.slots slot.0 s opened e (omega (arith, ap room_in closed)) at
        go None e = absurd (get_there b.slots slot.0 (omega (arith, in_range, holds.count)) e)

    module _ (opened : Slot) (kind : kind_in opened ≡ Some creation.queue.kind) (is_ready : IsReadyIn true opened) (at : IsSlotAt b.counts (words_created b creation) slot.0 opened)
        (directory : Directory) (listed : directory ≡ slice_set b.directory slot.0 (Some creation.queue)) (once : IsDirectory directory) where
      slots_done : (j : ℕ) (s : Slot) → slice_get (slice_set b.slots slot.0 opened) j ≡ Some s → IsSlotAt b.counts (words_created b creation) j s
      slots_done j s e = go (cases_eq j slot.0)
        where
          go : (j ≡ slot.0) ⊎ (j ≡ slot.0 → ⊥) → IsSlotAt b.counts (words_created b creation) j s
          go (inl same) =
              let e2 : slice_get (slice_set b.slots slot.0 opened) slot.0 ≡ Some s = subst (λ n. slice_get (slice_set b.slots slot.0 opened) n ≡ Some s) same e in
              subst (λ n. IsSlotAt b.counts (words_created b creation) n s) (sym same)
              (subst (IsSlotAt b.counts (words_created b creation) slot.0) (some_is _ opened s (get_set b.slots slot.0 opened (omega (arith, in_range, holds.count))) e2) at)
          go (inr ne) = slots_now rest.room j s (sym (get_set_other b.slots slot.0 opened j ne) ∙ e)

      kinds_done : (j : ℕ) (s : Slot) (queue : Option Queue) → slice_get (slice_set b.slots slot.0 opened) j ≡ Some s
          → slice_get (slice_set b.directory slot.0 (Some creation.queue)) j ≡ Some queue → kind_in s ≡ option_map (λ (q : Queue). q.kind) queue
      kinds_done j s queue e there = go (cases_eq j slot.0)
        where
          go : (j ≡ slot.0) ⊎ (j ≡ slot.0 → ⊥) → kind_in s ≡ option_map (λ (q : Queue). q.kind) queue
          go (inl same) =
              let e2 : slice_get (slice_set b.slots slot.0 opened) slot.0 ≡ Some s = subst (λ n. slice_get (slice_set b.slots slot.0 opened) n ≡ Some s) same e in
              let d2 : slice_get (slice_set b.directory slot.0 (Some creation.queue)) slot.0 ≡ Some queue = subst (λ n. slice_get (slice_set b.directory slot.0 (Some creation.queue)) n ≡ Some queue) same there in
              let slot_is : opened ≡ s = some_is _ opened s (get_set b.slots slot.0 opened (omega (arith, in_range, holds.count))) e2 in
              let queue_is : Some creation.queue ≡ queue = some_is _ (Some creation.queue) queue (set_here b.directory slot.0 (Some creation.queue) (omega (arith, in_range, holds.listed.count))) d2 in
              ap kind_in (sym slot_is) ∙ kind ∙ ap (option_map (λ (q : Queue). q.kind)) queue_is
          go (inr ne) = holds.kinds j s queue (sym (get_set_other b.slots slot.0 opened j ne) ∙ e) (sym (get_set_other b.directory slot.0 (Some creation.queue) j ne) ∙ there)

      ready_done : (j : ℕ) (s : Slot) → slice_get (slice_set b.slots slot.0 opened) j ≡ Some s → IsReadyIn true s
      ready_done j s e = go (cases_eq j slot.0)
        where
          go : (j ≡ slot.0) ⊎ (j ≡ slot.0 → ⊥) → IsReadyIn true s
          go (inl same) =
              let e2 : slice_get (slice_set b.slots slot.0 opened) slot.0 ≡ Some s = subst (λ n. slice_get (slice_set b.slots slot.0 opened) n ≡ Some s) same e in
              subst (IsReadyIn true) (some_is _ opened s (get_set b.slots slot.0 opened (omega (arith, in_range, holds.count))) e2) is_ready
          go (inr ne) =
              subst (λ (o : Option BrokerRecovery). IsReadyIn (is_ready_at o j) s) ready
              (holds.readiness j s (sym (get_set_other b.slots slot.0 opened j ne) ∙ e))

      pub well_done : IsWell (record { counts = b.counts; words = words_created b creation; slots = slice_set b.slots slot.0 opened; directory = directory; creation = None; recovery = None })
      well_done = record {
        counts = holds.counts;
        room = room_now rest.room;
        head = head_now;
        count = length_set b.slots slot.0 opened ∙ holds.count;
        slots = slots_done;
        listed = once;
        kinds = λ j s queue e there. kinds_done j s queue e (subst (λ (d : Directory). slice_get d j ≡ Some queue) listed there);
        directory = subst (IsAtRest (words_created b creation)) (sym listed) rest;
        readiness = ready_done;
      }

      pub world_opened : world_of (words_created b creation) (slice_get (slice_set b.slots slot.0 opened) slot.0) ≡ world_in (words_created b creation) opened
      world_opened = ap (world_of (words_created b creation)) (get_set b.slots slot.0 opened (omega (arith, in_range, holds.count)))

      pub others_done : (j : ℕ) → j ≢ slot.0 → quiet (world_of (words_created b creation) (slice_get (slice_set b.slots slot.0 opened) j)) ≡ quiet (world_at b j)
      others_done j ne = ap (λ (o : Option Slot). quiet (world_of (words_created b creation) o)) (get_set_other b.slots slot.0 opened j ne) ∙ world_same j

  pub others_more : (j : ℕ) → quiet (world_of (words_created b creation) (slice_get b.slots j)) ≡ quiet (world_at b j)
  others_more j = world_same j

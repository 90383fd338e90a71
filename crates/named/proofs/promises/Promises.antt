-- What follows of a broker's invariant: each queue is explained, and another broker may begin on the words that it
-- keeps.
use Rattle.std.proofs.Common.{◌≡◌, ℕ, ◌<◌, ◌⊎◌, inl, inr, List, length, replicate, slice_get, slice_set, slice_index, slice_index_or, Option, Some, None, refl, sym, ap, subst, ◌∙◌, arith}
use Rattle.std.proofs.lemmas.Bool.{cases_eq}
use Rattle.std.proofs.lemmas.List.{length-replicate}
use Rattle.std.proofs.lemmas.Option.{slice_get-get_or, slice_get_within}
use Rattle.words.specs.declared.call.Kind.{Kind}
use Rattle.arena.proofs.Facts.{queue_fits}
use Rattle.persist.specs.Memory.{Words, words_after_crash}
use Rattle.persist.proofs.Facts.{index_within}
use Rattle.arena.specs.Broker.{block_from, block_size_of, broker_size}
use Rattle.arena.specs.Limits.{AreCounts}
use Rattle.arena.specs.Shape.{Counts, Shape, shape_of}
use Rattle.sound_words.specs.Sound.{AreSoundWords}
use Rattle.directory.specs.Directory.{Directory, HasQueue, IsDirectory, IsFree}
use Rattle.directory.specs.Sound.{AreFreeBlocksZero, DirectoryIsSound, HeadIsSound, IsBlockZero, counts_in}
use Rattle.directory.specs.UnderWay.{IsAtRest}
use Rattle.directory.specs.declared.creation.Creation.{Creation}
use Rattle.directory.specs.declared.queue.Queue.{Queue}
use Rattle.directory.proofs.Facts.{creation_crashed, kept_directory, opened, rest_crashed, rest_sound}
use Rattle.interleave.specs.Holds.{IsExplained}
use Rattle.interleave.specs.Ranges.{AreUnused}
use Rattle.interleave.specs.State.{State, world_over}
use Rattle.interleave.proofs.Facts.{explained_world, holds_over, kept_sound, zero_at}
use Rattle.named.specs.Blocks.{BlockState, state_in}
use Rattle.named.specs.Booting.{AreBootWords, kept_block}
use Rattle.named.specs.Brokers.{Brokered, IsCreating, IsDirectoryAt, IsInBlock, IsMaybeWith, IsSlotAt, IsUnusedBlock}
use Rattle.named.specs.Brokers.{IsWell, IsWith, block_words, world_of}
use Rattle.named.specs.Promises.{AreExplained, KeepsPromises}
use Rattle.named.specs.Slots.{kind_in, world_in}
use Rattle.named.specs.declared.recovery.BrokerRecovery.{BrokerRecovery}
use Rattle.named.specs.declared.recovery.BrokerRecovery.TheVariants.{ReadDirectory, RecoverQueue}
use Rattle.named.specs.declared.slot.Slot.{Slot}
use Rattle.named.specs.declared.slot.Slot.TheVariants.{Closed, Open}
use Rattle.named.proofs.acts.OneSlot.{get_set_other}

-- each queue's world holds
explained_in : (c : Counts) (ws : Words) (at : ℕ) (slot : Slot) (w : State) → IsSlotAt c ws at slot → world_in ws slot ≡ Some w → IsExplained w
explained_in c ws at Closed w here is = absurd (cc)
explained_in c ws at (Open block) w here is =
    let same : state_in ws block ≡ w = cc in
    subst IsExplained same (explained_world (state_in ws block) here.well.holds)

pub explained_well : (b : Brokered) → IsWell b → AreExplained b
explained_well b holds slot w is = go (slice_get b.slots slot) refl is
  where
    go : (o : Option Slot) → slice_get b.slots slot ≡ o → world_of b.words o ≡ Some w → IsExplained w
    go (Some s) here is = explained_in b.counts b.words slot s w (holds.slots slot s here) is
    go None here is = absurd (cc)

module _ (c : Counts) (ws : Words) (slot : ℕ) (unused : IsUnusedBlock c ws slot) where
  long : length (kept_block c slot ws.kept) ≡ block_size_of c.clients c.records
  long = ap length unused.kept ∙ length-replicate (block_size_of c.clients c.records) 0

  zero_in : (word : ℕ) → slice_index (kept_block c slot ws.kept) word ≡ 0
  zero_in word = ap (λ (l : List ℕ). slice_index l word) unused.kept ∙ zero_at (block_size_of c.clients c.records) word

  pub block_zero : IsBlockZero c ws.kept slot
  block_zero word below = sym (index_within ws.kept (block_from c slot) (block_size_of c.clients c.records) word below) ∙ zero_in word

  -- a queue of either kind may begin in a block that is all 0
  unused_are : (kind : Kind) → AreUnused (shape_of kind c) (block_words c slot ws)
  unused_are kind = record {
    count = inr (record { count = long; room = omega (arith, queue_fits kind c, long); rest = λ word past below. zero_in word });
    cached = unused.cached ∙ ap (λ (n : ℕ). replicate n 0) (sym long);
    kept = unused.kept ∙ ap (λ (n : ℕ). replicate n 0) (sym long);
  }

  pub unused_sound : (kind : Kind) → AreCounts c.clients c.records → AreSoundWords (shape_of kind c) (kept_block c slot ws.kept)
  unused_sound kind counts =
      kept_sound (world_over (shape_of kind c) (block_words c slot ws))
      (holds_over (shape_of kind c) (block_words c slot ws) (unused_are kind) (omega (arith, counts)) (omega (arith, counts)))

-- an open slot's queue may begin again on its block
queue_sound : (c : Counts) (ws : Words) (at : ℕ) (block : BlockState) → IsInBlock c ws at block
    → AreSoundWords (shape_of block.core.shape.kind c) (kept_block c at ws.kept)
queue_sound c ws at block here =
    subst (λ (s : Shape). AreSoundWords s (kept_block c at ws.kept)) here.shape
    (rw (sym here.from, sym here.len) (kept_sound (state_in ws block) here.well.holds))

open_sound : (c : Counts) (ws : Words) (at : ℕ) (slot : Slot) (kind : Kind) → IsSlotAt c ws at slot → kind_in slot ≡ Some kind → AreSoundWords (shape_of kind c) (kept_block c at ws.kept)
open_sound c ws at Closed kind here is = absurd (cc)
open_sound c ws at (Open block) kind here is =
    let same : block.core.shape.kind ≡ kind = cc in
    subst (λ (k : Kind). AreSoundWords (shape_of k c) (kept_block c at ws.kept)) same (queue_sound c ws at block here)

closed_unused : (c : Counts) (ws : Words) (at : ℕ) (slot : Slot) → IsSlotAt c ws at slot → kind_in slot ≡ None → IsUnusedBlock c ws at
closed_unused c ws at Closed here is = here
closed_unused c ws at (Open block) here is = absurd (cc)

-- a directory has what is known, and maybe a queue where nothing is known of one
pub record IsMore (known whole : Directory) : Type 0 where
  pub listed : IsDirectory whole
  pub each : (slot : ℕ) → (slice_get whole slot ≡ slice_get known slot) ⊎ IsFree known slot

module _ (b : Brokered) (holds : IsWell b) where
  slot_of : (at : ℕ) → at < 8 → slice_get b.slots at ≡ Some (slice_index_or b.slots at Closed)
  slot_of at below = slice_get-get_or b.slots at Closed (omega (arith, below, holds.count))

  -- a slot where no queue is known has nothing in its block
  unused_at : (at : ℕ) → IsFree b.directory at → IsUnusedBlock b.counts b.words at
  unused_at at free =
      let below : at < length b.directory = slice_get_within b.directory at None free in
      let here = slot_of at (omega (arith, below, holds.listed.count)) in
      let slot : Slot = slice_index_or b.slots at Closed in
      closed_unused b.counts b.words at slot (holds.slots at slot here) (holds.kinds at slot None here free)

  sound_at : (at : ℕ) (queue : Queue) → HasQueue b.directory at queue → AreSoundWords (shape_of queue.kind b.counts) (kept_block b.counts at b.words.kept)
  sound_at at queue has =
      let below : at < length b.directory = slice_get_within b.directory at (Some queue) has in
      let here = slot_of at (omega (arith, below, holds.listed.count)) in
      let slot : Slot = slice_index_or b.slots at Closed in
      open_sound b.counts b.words at slot queue.kind (holds.slots at slot here) (holds.kinds at slot (Some queue) here has)

  -- the head tells of the broker's counts
  pub head_is : counts_in b.words.kept ≡ b.counts
  head_is =
      ap (λ (n : ℕ). let c : Counts = record { clients = n; records = slice_index b.words.kept 1 } in c) holds.head.clients.kept
      ∙ ap (λ (n : ℕ). let c : Counts = record { clients = b.counts.clients; records = n } in c) holds.head.records.kept

  module _ (whole : Directory) (rest : IsAtRest (words_after_crash b.words) whole) (more : IsMore b.directory whole) where
    free_zero : AreFreeBlocksZero b.counts b.words.kept whole
    free_zero at below free = elim (more.each at) [
      | inl same ↦ block_zero b.counts b.words at (unused_at at (sym same ∙ free))
      | inr none ↦ block_zero b.counts b.words at (unused_at at none)
    ]

    block_sound : (at : ℕ) (queue : Queue) → HasQueue whole at queue → AreSoundWords (shape_of queue.kind b.counts) (kept_block b.counts at b.words.kept)
    block_sound at queue has = elim (more.each at) [
      | inl same ↦ sound_at at queue (sym same ∙ has)
      | inr none ↦ unused_sound b.counts b.words at (unused_at at none) queue.kind holds.counts
    ]

    head_sound : HeadIsSound b.words.kept
    head_sound = record {
      counts = subst (λ (c : Counts). AreCounts c.clients c.records) (sym head_is) holds.counts;
      size = holds.room.kept ∙ ap broker_size (sym head_is);
    }

    words_sound : AreBootWords b.words.kept
    words_sound = record {
      broker = record {
        head = head_sound;
        directory = subst (λ (c : Counts). DirectoryIsSound c b.words.kept) (sym head_is)
            (rest_sound b.counts (words_after_crash b.words) whole rest more.listed free_zero);
      };
      blocks = λ at queue has.
          subst (λ (c : Counts). AreSoundWords (shape_of queue.kind c) (kept_block c at b.words.kept)) (sym head_is)
          (block_sound at queue (subst (λ (d : Directory). HasQueue d at queue) (kept_directory (words_after_crash b.words) whole rest) has));
    }

  -- what is known is all
  same_boots : IsAtRest b.words b.directory → AreBootWords b.words.kept
  same_boots rest = words_sound b.directory (rest_crashed b.words b.directory rest) (record { listed = holds.listed; each = λ at. inl refl })

  known_boots : (whole : Directory) → IsAtRest b.words whole → whole ≡ b.directory → AreBootWords b.words.kept
  known_boots whole rest same = same_boots (subst (IsAtRest b.words) same rest)

  -- there is the queue too whose creation was kept
  with_boots : (whole : Directory) (creation : Creation) → IsWith b.directory whole creation → IsAtRest (words_after_crash b.words) whole → AreBootWords b.words.kept
  with_boots whole creation is rest =
      words_sound whole rest
      (record {
        listed = subst IsDirectory (sym is.is) (opened b.directory creation.slot.0 creation.queue holds.listed is.free is.is_new);
        each = λ at. elim (cases_eq at creation.slot.0) [
          | inl same ↦ inr (subst (IsFree b.directory) (sym same) is.free)
          | inr apart ↦ inl (ap (λ (d : Directory). slice_get d at) is.is ∙ get_set_other b.directory creation.slot.0 (Some creation.queue) at apart)
        ];
      })

  creating_boots : (creation : Creation) → IsCreating b.words creation b.directory → AreBootWords b.words.kept
  creating_boots creation creating = elim (creation_crashed b.words creation b.directory creating.under_way) [
    | inl without ↦ words_sound b.directory without (record { listed = holds.listed; each = λ at. inl refl })
    | inr whole ↦
        with_boots (slice_set b.directory creation.slot.0 (Some creation.queue)) creation
        (record { free = creating.under_way.others.free; is_new = creating.is_new; is = refl }) whole
  ]

  maybe_boots : (whole : Directory) (creation : Option Creation) → IsAtRest b.words whole → IsMaybeWith b.directory whole creation → AreBootWords b.words.kept
  maybe_boots whole None rest same = known_boots whole rest same
  maybe_boots whole (Some creation) rest (inl same) = known_boots whole rest same
  maybe_boots whole (Some creation) rest (inr is) = with_boots whole creation is (rest_crashed b.words whole rest)

  at_boots : (recovery : Option BrokerRecovery) (creation : Option Creation) → IsDirectoryAt b.words recovery creation b.directory → AreBootWords b.words.kept
  at_boots None None here = same_boots here
  at_boots None (Some creation) here = creating_boots creation here
  at_boots (Some (ReadDirectory at)) creation here = maybe_boots here.whole creation here.recovering.rest here.more
  at_boots (Some (RecoverQueue slot)) creation here = same_boots here.rest

  pub boots_well : AreBootWords b.words.kept
  boots_well = at_boots b.recovery b.creation holds.directory

pub promises_well : (b : Brokered) → IsWell b → KeepsPromises b
promises_well b holds = record { explained = explained_well b holds; boots = boots_well b holds; well = holds }

-- by the fields that the broker is shown by
pub promises_kept : (b shown : Brokered) → IsWell b → b ≡ shown → KeepsPromises shown
promises_kept b shown holds same = subst KeepsPromises same (promises_well b holds)

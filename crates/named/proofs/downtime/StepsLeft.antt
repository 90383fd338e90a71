-- A broker's recovery has fewer steps left after each.
use Rattle.std.proofs.Common.{◌≡◌, ℕ, ◌+◌, ◌-◌, ◌<◌, ◌≤◌, ◌⊎◌, inl, inr, Bool, true, false, if◌then◌else◌, List, Option, Some, None, Result, Ok, drop, slice_get, refl, sym, ap, ◌∙◌, subst, arith}
use Rattle.std.specs.Prelude.{IfOk}
use Rattle.std.specs.List.{sum_by}
use Rattle.std.proofs.lemmas.List.{drop-drop}
use Rattle.std.proofs.lemmas.List.Sums.{sum_by-drop_more, sum_by-take-drop}
use Rattle.std.proofs.lemmas.Option.{get_or_from_slice_get, slice_get_within}
use Rattle.words.specs.declared.call.Kind.{Kind}
use Rattle.words.specs.declared.refusal.Refusal.{Refusal}
use Rattle.arena.specs.Shape.{Counts, Shape, shape_of}
use Rattle.persist.specs.Memory.{Words, words_after_eviction}
use Rattle.arena.specs.Broker.{block_from}
use Rattle.stepper.specs.declared.resume.After.{After}
use Rattle.stepper.specs.declared.resume.After.TheVariants.{More, Done}
use Rattle.directory.specs.Directory.{Directory, HasQueue}
use Rattle.directory.specs.Queue.{directory_of}
use Rattle.directory.specs.Recovering.{IsOneLess, most_left}
use Rattle.directory.specs.Recovery.{recovered}
use Rattle.directory.specs.UnderWay.{IsAtRest}
use Rattle.directory.specs.declared.queue.Queue.{Queue}
use Rattle.directory.specs.declared.recovery.DirectoryPoint.{DirectoryPoint}
use Rattle.directory.specs.declared.recovery.DirectoryPoint.TheVariants.{LoadGate, LoadFirstName, LoadSecondName}
use Rattle.directory.specs.declared.recovery.DirectoryPoint.TheVariants.{LoadKind}
use Rattle.directory.specs.declared.recovery.DirectoryRecovery.{DirectoryRecovery}
use Rattle.directory.proofs.Facts.{kept_directory, one_less, rest_evicted}
use Rattle.interleave.specs.State.{State, after_evict, after_recover, most_to_ready, recover_result, steps_to_ready}
use Rattle.interleave.proofs.Facts.{falls_on, few_to_ready, left_evicted as left_after_evict}
use Rattle.named.specs.Blocks.{BlockState, state_in}
use Rattle.named.specs.Evicting.{is_in_block, world_evicted}
use Rattle.named.specs.Brokers.{Brokered, IsDirectoryAt, IsInBlock, IsReading, IsRecoveringQueue, IsSlotAt, IsWell}
use Rattle.named.specs.Brokers.{world_at, world_of}
use Rattle.named.specs.Lasting.{left_after_read, left_at, left_in, most_from, most_kept, most_of, steps_left}
use Rattle.named.specs.Slots.{IsSlotWell, acted, answered, kind_in, world_in}
use Rattle.named.specs.Stopping.{IsNext}
use Rattle.named.specs.declared.recovery.BrokerRecovery.{BrokerRecovery}
use Rattle.named.specs.declared.recovery.BrokerRecovery.TheVariants.{ReadDirectory, RecoverQueue}
use Rattle.named.specs.declared.slot.Slot.{Slot}
use Rattle.named.specs.declared.slot.Slot.TheVariants.{Closed, Open}

-- the steps of the queues from a slot on
most_further : (c : Counts) (directory : Directory) (i j : ℕ) → i ≤ j → most_from c directory j ≤ most_from c directory i
most_further c directory i j less =
    let both = sum_by-take-drop (most_of c) (drop i directory) (j - i) in
    let same : drop (j - i) (drop i directory) ≡ drop j directory = drop-drop (j - i) i directory ∙ ap (λ n. drop n directory) (omega (arith, less)) in
    omega (arith, both, ap (sum_by (most_of c)) same)

most_here : (c : Counts) (directory : Directory) (i : ℕ) (queue : Queue) → HasQueue directory i queue
    → most_from c directory i ≡ most_of c (Some queue) + most_from c directory (i + 1)
most_here c directory i queue has =
    sum_by-drop_more (most_of c) directory i None (slice_get_within directory i (Some queue) has)
    ∙ ap (λ (o : Option Queue). most_of c o + most_from c directory (i + 1)) (get_or_from_slice_get directory i (Some queue) None has)

-- a queue's recovery has no more steps left than it takes at most
block_few : (c : Counts) (ws : Words) (at : ℕ) (block : BlockState) → IsInBlock c ws at block
    → steps_to_ready (state_in ws block) ≤ most_to_ready (shape_of block.core.shape.kind c)
block_few c ws at block here = subst (λ (s : Shape). steps_to_ready (state_in ws block) ≤ most_to_ready s) here.shape (few_to_ready (state_in ws block) here.well.holds)

slot_few : (c : Counts) (ws : Words) (at : ℕ) (slot : Slot) (queue : Queue) → IsSlotAt c ws at slot → kind_in slot ≡ Some queue.kind
    → left_in (world_in ws slot) ≤ most_of c (Some queue)
slot_few c ws at Closed queue here kind = absurd (cc)
slot_few c ws at (Open block) queue here kind =
    let same : block.core.shape.kind ≡ queue.kind = cc in
    subst (λ (k : Kind). steps_to_ready (state_in ws block) ≤ most_to_ready (shape_of k c)) same (block_few c ws at block here)

module _ (b : Brokered) (holds : IsWell b) where
  queue_few : (at : ℕ) (queue : Queue) → HasQueue b.directory at queue → left_in (world_at b at) ≤ most_of b.counts (Some queue)
  queue_few at queue has = go (slice_get b.slots at) refl
    where
      go : (o : Option Slot) → slice_get b.slots at ≡ o → left_in (world_of b.words o) ≤ most_of b.counts (Some queue)
      go (Some slot) e = slot_few b.counts b.words at slot queue (holds.slots at slot e) (holds.kinds at slot (Some queue) e has)
      go None e = omega arith

  few_from : (at from : ℕ) (queue : Queue) → HasQueue b.directory at queue → from ≤ at
      → left_in (world_at b at) + most_from b.counts b.directory (at + 1) ≤ most_from b.counts b.directory from
  few_from at from queue has past =
      omega (arith, queue_few at queue has, most_here b.counts b.directory at queue has, most_further b.counts b.directory from at past)

  -- what is next has no more left than the queues from there on
  pub few_next : (from : ℕ) (recovery : Option BrokerRecovery) → IsNext b.directory from recovery → left_at b recovery ≤ most_from b.counts b.directory from
  few_next from None next = omega arith
  few_next from (Some (ReadDirectory at)) next = absurd next
  few_next from (Some (RecoverQueue slot)) next = few_from slot.0 from next.queue next.has next.past

  pub most_is_kept : IsAtRest b.words b.directory → most_from b.counts b.directory 0 ≡ most_kept b
  most_is_kept rest = ap (λ (d : Directory). most_from b.counts d 0) (sym (kept_directory b.words b.directory rest))

  -- the whole recovery has so few steps at most
  pub few_left : steps_left b ≤ 32 + most_kept b
  few_left = go b.recovery refl
    where
      read_few : (point : DirectoryPoint) (places : Directory) → most_left (record { places = places; at = point }) ≤ 32
      read_few (LoadGate slot) places = omega arith
      read_few (LoadFirstName slot) places = omega arith
      read_few (LoadSecondName slot first) places = omega arith
      read_few (LoadKind slot first second) places = omega arith

      go : (r : Option BrokerRecovery) → b.recovery ≡ r → left_at b r ≤ 32 + most_kept b
      go None e = omega arith
      go (Some (ReadDirectory at)) e = omega (arith, read_few at.at at.places)
      go (Some (RecoverQueue slot)) e =
          let it : IsRecoveringQueue b.words b.directory slot.0 = subst (λ (r : Option BrokerRecovery). IsDirectoryAt b.words r b.creation b.directory) e holds.directory in
          omega (arith, few_from slot.0 0 it.queue it.has (omega arith), most_is_kept it.rest)

-- a load of the directory's recovery
pub read_falls : (b now : Brokered) (at : DirectoryRecovery) (found : ℕ) → now.counts ≡ b.counts → now.words.kept ≡ b.words.kept
    → left_after_read now (recovered at found).after + 1 ≤ most_left at + most_kept b
read_falls b now at found counts kept = go (recovered at found).after (one_less at found)
  where
    same : most_kept now ≡ most_kept b
    same = ap (λ (c : Counts). most_from c (directory_of now.words.kept) 0) counts ∙ ap (λ (l : List ℕ). most_from b.counts (directory_of l) 0) kept

    go : (a : After DirectoryRecovery Directory) → IsOneLess at a → left_after_read now a + 1 ≤ most_left at + most_kept b
    go (More next) less = omega (arith, less.0, same)
    go (Done places) less = omega (arith, less.0, same)

-- a step of a queue's recovery
block_falls : (full : Bool) (w : State) (r : Result Bool Refusal) (ready : Bool) → r ≡ recover_result full w → r ≡ Ok ready
    → IfOk r (λ x. steps_to_ready (after_recover full w) < steps_to_ready w) → steps_to_ready (after_recover full w) < steps_to_ready w
block_falls full w r ready is ok less = subst (λ (x : Result Bool Refusal). IfOk x (λ y. steps_to_ready (after_recover full w) < steps_to_ready w)) ok less

pub slot_falls : (full : Bool) (ws : Words) (slot : Slot) (kind : Kind) (r : Result Bool Refusal) (ready : Bool) → IsSlotWell ws slot → kind_in slot ≡ Some kind
    → r ≡ answered (recover_result full) (world_in ws slot) → r ≡ Ok ready
    → left_in (acted (after_recover full) (world_in ws slot)) < left_in (world_in ws slot)
slot_falls full ws Closed kind r ready well some is ok = absurd (cc)
slot_falls full ws (Open block) kind r ready well some is ok =
    block_falls full (state_in ws block) r ready is ok (falls_on full (state_in ws block) well.holds r is)

-- an eviction leaves the recovery as many steps as it had: it changes nothing of a directory that is being read
module _ (old new : Brokered) (word : ℕ) (holds : IsWell old) (same : new ≡ record old { words = new.words; slots = new.slots })
    (kept : (new.words.kept ≡ (words_after_eviction word old.words).kept) ⊎ (new.words.kept ≡ old.words.kept))
    (worlds : (slot : ℕ) → world_at new slot ≡ acted (world_evicted old.counts slot word) (world_at old slot)) where
  counts_same : new.counts ≡ old.counts
  counts_same = ap (λ (b : Brokered). b.counts) same

  -- the directory that is kept
  most_evicted : (whole : Directory) → IsAtRest old.words whole → most_kept new ≡ most_kept old
  most_evicted whole rest =
      let directory : directory_of new.words.kept ≡ directory_of old.words.kept = elim kept [
        | inl was_kept ↦ ap directory_of was_kept ∙ kept_directory (words_after_eviction word old.words) whole (rest_evicted old.words word whole rest)
            ∙ sym (kept_directory old.words whole rest)
        | inr stayed ↦ ap directory_of stayed
      ] in
      ap (λ (c : Counts). most_from c (directory_of new.words.kept) 0) counts_same ∙ ap (λ (d : Directory). most_from old.counts d 0) directory

  -- a queue that recovers
  queue_evicted : (slot : ℕ) → left_in (world_at new slot) ≡ left_in (world_at old slot)
  queue_evicted slot = ap left_in (worlds slot) ∙ go (world_at old slot)
    where
      one : (x : Bool) (w : State) → steps_to_ready (if x then after_evict w (word - block_from old.counts slot) else w) ≡ steps_to_ready w
      one true w = left_after_evict w (word - block_from old.counts slot)
      one false w = refl

      go : (o : Option State) → left_in (acted (world_evicted old.counts slot word) o) ≡ left_in o
      go None = refl
      go (Some w) = one (is_in_block old.counts slot word) w

  pub left_evicted : steps_left new ≡ steps_left old
  left_evicted = ap (left_at new) (ap (λ (b : Brokered). b.recovery) same) ∙ go old.recovery refl
    where
      go : (r : Option BrokerRecovery) → old.recovery ≡ r → left_at new r ≡ left_at old r
      go None e = refl
      go (Some (ReadDirectory at)) e =
          let it : IsReading old.words at old.creation old.directory = subst (λ (o : Option BrokerRecovery). IsDirectoryAt old.words o old.creation old.directory) e holds.directory in
          ap (λ n. most_left at + n) (most_evicted it.whole it.recovering.rest)
      go (Some (RecoverQueue slot)) e =
          ap (λ n. n + most_from new.counts new.directory (slot.0 + 1)) (queue_evicted slot.0)
          ∙ ap (λ (b : Brokered). left_in (world_at old slot.0) + most_from b.counts b.directory (slot.0 + 1)) same

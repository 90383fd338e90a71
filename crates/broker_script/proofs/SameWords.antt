-- Two brokers whose queues' worlds and whose directories are the same have the same words.
use Rattle.std.proofs.Common.{◌≡◌, refl, sym, ap, ap₂, ◌∙◌, subst, ℕ, zero, suc, ◌+◌, ◌-◌, ◌*◌, ◌<◌, ◌≤◌, ◌⊎◌, inl, inr, List, [], length, take, drop, slice_index, arith}
use Rattle.std.proofs.lemmas.Bool.{cases_lt}
use Rattle.std.proofs.lemmas.List.{ext_get_or}
use Rattle.std.specs.Prelude.{Option, Some, None, slice_get}
use Rattle.persist.specs.Memory.{Words}
use Rattle.persist.proofs.Facts.{index_within}
use Rattle.arena.specs.Broker.{block_from, block_size_of}
use Rattle.arena.specs.Shape.{Counts}
use Rattle.directory.specs.UnderWay.{HaveSameDirectory}
use Rattle.interleave.specs.State.{State}
use Rattle.named.specs.Brokers.{Brokered, IsSlotAt, IsWell, block_words, quiet, world_at, world_of}
use Rattle.named.specs.Slots.{world_in}
use Rattle.named.specs.declared.slot.Slot.{Slot}
use Rattle.named.specs.declared.slot.Slot.TheVariants.{Closed, Open}
use Rattle.named.proofs.Facts.{get_there}

-- in which block a word lies
record IsInBlockOf (count size word : ℕ) : Type 0 where
  pub block : ℕ
  pub below : block < count
  pub from : block * size ≤ word
  pub to : word < block * size + size

next_block : (count size word : ℕ) → word < suc count * size → (word < count * size) ⊎ (count * size ≤ word)
    → (word < count * size → IsInBlockOf count size word) → IsInBlockOf (suc count) size word
next_block count size word h (inl less) before =
    let b = before less in
    record { block = b.block; below = omega (arith, b.below); from = b.from; to = b.to }
next_block count size word h (inr past) before =
    record { block = count; below = omega arith; from = past; to = omega (arith, h) }

block_of : (count size word : ℕ) → word < count * size → IsInBlockOf count size word
block_of zero size word h = absurd (omega (arith, h))
block_of (suc count) size word h =
    next_block count size word h (cases_lt word (count * size)) (λ less. block_of count size word less)

-- lists that are the same before the blocks and in each block
blocks_same : (size : ℕ) (xs ys : List ℕ) → length xs ≡ 34 + 8 * size → length ys ≡ 34 + 8 * size
    → ((word : ℕ) → word < 34 → slice_index xs word ≡ slice_index ys word)
    → ((slot : ℕ) → slot < 8 → take size (drop (34 + slot * size) xs) ≡ take size (drop (34 + slot * size) ys))
    → xs ≡ ys
blocks_same size xs ys long long_too front blocks = ext_get_or 0 xs ys (long ∙ sym long_too) (λ i h. at i h (cases_lt i 34))
  where
    at : (i : ℕ) → i < length xs → (i < 34) ⊎ (34 ≤ i) → slice_index xs i ≡ slice_index ys i
    at i h (inl less) = front i less
    at i h (inr past) =
        let b = block_of 8 size (i - 34) (omega (arith, h, long, past)) in
        let j : ℕ = i - 34 - b.block * size in
        let inside : j < size = omega (arith, b.from, b.to) in
        let place : 34 + b.block * size + j ≡ i = omega (arith, b.from, past) in
        let read : (zs : List ℕ) → slice_index (take size (drop (34 + b.block * size) zs)) j ≡ slice_index zs i =
        λ zs. index_within zs (34 + b.block * size) size j inside ∙ ap (slice_index zs) place in
        sym (read xs) ∙ ap (λ (zs : List ℕ). slice_index zs j) (blocks b.block b.below) ∙ read ys

-- the words of a world
abbrev cached_of : Option State → List ℕ
cached_of (Some w) = w.words.cached
cached_of None = []

abbrev kept_of : Option State → List ℕ
kept_of (Some w) = w.words.kept
kept_of None = []

abbrev HaveSameBlock : Counts → ℕ → Words → Words → Type 0
HaveSameBlock c slot old new =
    ((block_words c slot new).cached ≡ (block_words c slot old).cached) × ((block_words c slot new).kept ≡ (block_words c slot old).kept)

part_is : (from len at size : ℕ) (ws : List ℕ) → from ≡ at → len ≡ size → take len (drop from ws) ≡ take size (drop at ws)
part_is from len at size ws begins long = ap₂ (λ (f n : ℕ). take n (drop f ws)) begins long

-- the block of a slot whose world is the same
block_same : (c : Counts) (slot : ℕ) (old new : Words) (was is : Slot) → IsSlotAt c old slot was → IsSlotAt c new slot is
    → quiet (world_in new is) ≡ quiet (world_in old was) → HaveSameBlock c slot old new
block_same c slot old new Closed Closed before now same = (now.cached ∙ sym before.cached, now.kept ∙ sym before.kept)
block_same c slot old new Closed (Open is) before now same = absurd (cc)
block_same c slot old new (Open was) Closed before now same = absurd (cc)
block_same c slot old new (Open was) (Open is) before now same =
    let size = block_size_of c.clients c.records in
    let from = block_from c slot in (
      sym (part_is is.from is.len from size new.cached now.from now.len) ∙ ap cached_of same
          ∙ part_is was.from was.len from size old.cached before.from before.len,
      sym (part_is is.from is.len from size new.kept now.from now.len) ∙ ap kept_of same
          ∙ part_is was.from was.len from size old.kept before.from before.len,
    )

block_alike : (c : Counts) (slot : ℕ) (old new : Brokered) → IsWell old → IsWell new → old.counts ≡ c → new.counts ≡ c
    → slot < 8 → quiet (world_at new slot) ≡ quiet (world_at old slot) → HaveSameBlock c slot old.words new.words
block_alike c slot old new well well_too counts counts_too below same =
    go (slice_get old.slots slot) refl (slice_get new.slots slot) refl
  where
    go : (o : Option Slot) → slice_get old.slots slot ≡ o → (n : Option Slot) → slice_get new.slots slot ≡ n
        → HaveSameBlock c slot old.words new.words
    go None before n now = absurd (get_there old.slots slot (omega (arith, below, well.count)) before)
    go (Some was) before None now = absurd (get_there new.slots slot (omega (arith, below, well_too.count)) now)
    go (Some was) before (Some is) now =
        block_same c slot old.words new.words was is
        (subst (λ (k : Counts). IsSlotAt k old.words slot was) counts (well.slots slot was before))
        (subst (λ (k : Counts). IsSlotAt k new.words slot is) counts_too (well_too.slots slot is now))
        (ap (λ (o : Option Slot). quiet (world_of new.words o)) (sym now) ∙ same
        ∙ ap (λ (o : Option Slot). quiet (world_of old.words o)) before)

pub record HaveSameWords (old new : Brokered) : Type 0 where
  pub cached : new.words.cached ≡ old.words.cached
  pub kept : new.words.kept ≡ old.words.kept

pub same_words : (old new : Brokered) → IsWell old → IsWell new → new.counts ≡ old.counts
    → ((slot : ℕ) → quiet (world_at new slot) ≡ quiet (world_at old slot)) → HaveSameDirectory old.words new.words
    → HaveSameWords old new
same_words old new well well_too counts worlds front =
    let c = old.counts in
    let size = block_size_of c.clients c.records in
    let blocks : (slot : ℕ) → slot < 8 → HaveSameBlock c slot old.words new.words =
    λ slot below. block_alike c slot old new well well_too refl counts below (worlds slot) in
    let long : (xs : List ℕ) → length xs ≡ 34 + 8 * block_size_of new.counts.clients new.counts.records → length xs ≡ 34 + 8 * size =
    λ xs e. subst (λ (k : Counts). length xs ≡ 34 + 8 * block_size_of k.clients k.records) counts e in
    record {
      cached = blocks_same size new.words.cached old.words.cached (long new.words.cached well_too.room.cached) well.room.cached
          front.cached (λ slot below. (blocks slot below).0);
      kept = blocks_same size new.words.kept old.words.kept (long new.words.kept well_too.room.kept) well.room.kept
          front.kept (λ slot below. (blocks slot below).1);
    }

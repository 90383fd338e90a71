-- An eviction from a broker's memory keeps what holds of the broker.
use Rattle.std.proofs.Common.{◌≡◌, ◌≢◌, ℕ, ◌+◌, ◌-◌, ◌<◌, ◌≤◌, ◌⊎◌, inl, inr, Bool, true, false, ◌&&◌, if◌then◌else◌, List, take, drop, replicate, slice_get, slice_index, slice_set, Option, Some, None, refl, sym, ap, ◌∙◌, subst, arith}
use Rattle.std.proofs.lemmas.Bool.{cases_eq, le-leb, lt-leb, lt-ltb, le-ltb}
use Rattle.std.proofs.lemmas.List.{drop-set-lt, drop-take, take-set-le, length-set, set-get_or, get_or-replicate}
use Rattle.std.proofs.lemmas.Option.{slice_get_within}
use Rattle.std.specs.Prelude.{nat_le, nat_lt}
use Rattle.persist.specs.Memory.{Words, words_after_eviction, words_in}
use Rattle.persist.proofs.Facts.{index_within}
use Rattle.arena.specs.Broker.{block_from, block_size_of, broker_size}
use Rattle.arena.specs.Shape.{Counts}
use Rattle.arena.proofs.Facts.{block_ends}
use Rattle.directory.specs.Directory.{Directory}
use Rattle.directory.specs.declared.creation.Creation.{Creation}
use Rattle.directory.proofs.Facts.{creation_evicted, head_evicted, recovery_evicted, rest_evicted}
use Rattle.interleave.specs.Core.{state_of}
use Rattle.interleave.specs.State.{State, after_evict}
use Rattle.interleave.proofs.Facts.{get_set}
use Rattle.named.specs.Blocks.{IsSameWords, state_in}
use Rattle.named.specs.Evicting.{is_in_block, world_evicted}
use Rattle.named.specs.Slots.{IsEvictedOutside, IsSameOutsideSlot, IsWordOf, acted, world_evicted_in, world_in}
use Rattle.named.specs.Brokers.{Brokered, IsDirectoryAt, IsDirectoryDown, IsDirectoryIn, IsSlotAt, IsUnusedBlock}
use Rattle.named.specs.Brokers.{IsWell, block_words, world_at, world_of}
use Rattle.named.specs.declared.recovery.BrokerRecovery.{BrokerRecovery}
use Rattle.named.specs.declared.recovery.BrokerRecovery.TheVariants.{ReadDirectory, RecoverQueue}
use Rattle.named.specs.declared.slot.Slot.{Slot}
use Rattle.named.specs.declared.slot.Slot.TheVariants.{Closed, Open}
use Rattle.named.proofs.acts.OneSlot.{blocks_apart, get_set_other, has_directory, slot_stays}

creating_evicted : (ws : Words) (word : ℕ) (creation : Option Creation) (directory : Directory) → IsDirectoryIn ws creation directory
    → IsDirectoryIn (words_after_eviction word ws) creation directory
creating_evicted ws word None directory here = rest_evicted ws word directory here
creating_evicted ws word (Some creation) directory here = record {
  under_way = creation_evicted ws word creation directory here.under_way;
  is_new = here.is_new;
}

down_evicted : (ws : Words) (word : ℕ) (recovery : BrokerRecovery) (creation : Option Creation) (directory : Directory)
    → IsDirectoryDown ws recovery creation directory → IsDirectoryDown (words_after_eviction word ws) recovery creation directory
down_evicted ws word (ReadDirectory at) creation directory here = record {
  whole = here.whole;
  recovering = recovery_evicted ws word at here.whole here.recovering;
  more = here.more;
  loaded = here.loaded;
}
down_evicted ws word (RecoverQueue slot) creation directory here = record {
  rest = rest_evicted ws word directory here.rest;
  queue = here.queue;
  has = here.has;
}

directory_evicted : (ws : Words) (word : ℕ) (recovery : Option BrokerRecovery) (creation : Option Creation) (directory : Directory)
    → IsDirectoryAt ws recovery creation directory → IsDirectoryAt (words_after_eviction word ws) recovery creation directory
directory_evicted ws word None creation directory here = creating_evicted ws word creation directory here
directory_evicted ws word (Some recovery) creation directory here = down_evicted ws word recovery creation directory here

same_part : (from len : ℕ) (old new : Words) → (words_in from len new).cached ≡ (words_in from len old).cached
    → (words_in from len new).kept ≡ (words_in from len old).kept → new.accesses ≡ old.accesses → words_in from len new ≡ words_in from len old
same_part from len old new cached kept accesses =
    ap (λ (xs : List ℕ). let ws : Words = record (words_in from len new) { cached = xs } in ws) cached
    ∙ ap (λ (xs : List ℕ). let ws : Words = record (words_in from len new) { cached = (words_in from len old).cached; kept = xs } in ws) kept
    ∙ ap (λ (n : ℕ). let ws : Words = record (words_in from len old) { accesses = n } in ws) accesses

-- a world over words with the same values, after as many accesses, is the same
world_exact : (c : Counts) (i : ℕ) (slot : Slot) (old new : Words) → IsSlotAt c old i slot → (block_words c i new).cached ≡ (block_words c i old).cached
    → (block_words c i new).kept ≡ (block_words c i old).kept → new.accesses ≡ old.accesses → world_in new slot ≡ world_in old slot
world_exact c i Closed old new here cached kept accesses = refl
world_exact c i (Open block) old new here cached kept accesses =
    let same : words_in block.from block.len new ≡ words_in block.from block.len old = rw (here.from, here.len) (same_part (block_from c i) (block_size_of c.clients c.records) old new cached kept accesses) in
    ap (λ (ws : Words). let r : Option State = Some (state_of block.core ws) in r) same

-- whether a word is in a block
not_below : (c : Counts) (i word : ℕ) → word < block_from c i → is_in_block c i word ≡ false
not_below c i word h = ap (λ (x : Bool). x && nat_lt word (block_from c i + block_size_of c.clients c.records)) (lt-leb (block_from c i) word h)

not_above : (c : Counts) (i word : ℕ) → block_from c i + block_size_of c.clients c.records ≤ word → is_in_block c i word ≡ false
not_above c i word h = go (nat_le (block_from c i) word) (nat_lt word (block_from c i + block_size_of c.clients c.records)) (le-ltb word _ h)
  where
    go : (a d : Bool) → d ≡ false → a && d ≡ false
    go true d e = e
    go false d e = refl

is_inside : (c : Counts) (i word : ℕ) → block_from c i ≤ word → word < block_from c i + block_size_of c.clients c.records → is_in_block c i word ≡ true
is_inside c i word low high =
    ap (λ (x : Bool). x && nat_lt word (block_from c i + block_size_of c.clients c.records)) (le-leb (block_from c i) word low)
    ∙ lt-ltb word (block_from c i + block_size_of c.clients c.records) high

-- where it is not, the world stays
acted_outside : (c : Counts) (i word : ℕ) (o : Option State) → is_in_block c i word ≡ false → acted (world_evicted c i word) o ≡ o
acted_outside c i word None e = refl
acted_outside c i word (Some w) e = ap (λ (x : Bool). let r : Option State = Some (if x then after_evict w (word - block_from c i) else w) in r) e

-- where it is, an open slot's world has it evicted
evicted_inside : (c : Counts) (i word : ℕ) (ws : Words) (slot : Slot) → IsSlotAt c ws i slot → is_in_block c i word ≡ true
    → world_evicted_in slot word ws ≡ acted (world_evicted c i word) (world_in ws slot)
evicted_inside c i word ws Closed here e = refl
evicted_inside c i word ws (Open block) here e =
    ap (λ n. let r : Option State = Some (after_evict (state_in ws block) (word - n)) in r) here.from
    ∙ sym (ap (λ (x : Bool). let r : Option State = Some (if x then after_evict (state_in ws block) (word - block_from c i) else state_in ws block) in r) e)

-- a word of a slot's block
pub word_of_block : (c : Counts) (i word : ℕ) (ws : Words) (slot : Slot) → IsSlotAt c ws i slot → block_from c i ≤ word
    → word < block_from c i + block_size_of c.clients c.records → IsWordOf slot word
word_of_block c i word ws Closed here low high = tt
word_of_block c i word ws (Open block) here low high = (omega (arith, here.from, low), omega (arith, here.from, here.len, high))

-- that of a closed one is 0, cached and kept: its eviction changes nothing
unused_evicted : (c : Counts) (i word : ℕ) (ws : Words) → IsUnusedBlock c ws i → block_from c i ≤ word
    → word < block_from c i + block_size_of c.clients c.records → words_after_eviction word ws ≡ ws
unused_evicted c i word ws unused low high =
    let size = block_size_of c.clients c.records in
    let at : block_from c i + (word - block_from c i) ≡ word = omega (arith, low) in
    let below : word - block_from c i < size = omega (arith, low, high) in
    let value : (xs : List ℕ) → take size (drop (block_from c i) xs) ≡ replicate size 0 → slice_index xs word ≡ 0 = λ xs e.
    ap (slice_index xs) (sym at) ∙ sym (index_within xs (block_from c i) size (word - block_from c i) below)
    ∙ ap (λ (l : List ℕ). slice_index l (word - block_from c i)) e ∙ get_or-replicate size (word - block_from c i) 0 0 below in
    let same : slice_index ws.cached word ≡ slice_index ws.kept word = value ws.cached unused.cached ∙ sym (value ws.kept unused.kept) in
    ap (λ (v : ℕ). let m : Words = record ws { kept = slice_set ws.kept word v } in m) same
    ∙ ap (λ (vs : List ℕ). let m : Words = record ws { kept = vs } in m) (set-get_or ws.kept word 0)

pub outside_evicted : (c : Counts) (i word : ℕ) (old new : Words) (slot : Slot) → IsSlotAt c old i slot → block_from c i ≤ word
    → word < block_from c i + block_size_of c.clients c.records → IsEvictedOutside slot word old new → IsSameOutsideSlot slot old new
outside_evicted c i word old new Closed here low high outside = outside ∙ unused_evicted c i word old here low high
outside_evicted c i word old new (Open block) here low high outside = outside

-- a word of the head or of the directory
module _ (b : Brokered) (word : ℕ) (holds : IsWell b) (low : word < 34) where
  abbrev ws : Words
  ws = words_after_eviction word b.words

  same_kept : (j : ℕ) → (block_words b.counts j (words_after_eviction word b.words)).kept ≡ (block_words b.counts j b.words).kept
  same_kept j = ap (take (block_size_of b.counts.clients b.counts.records)) (drop-set-lt (block_from b.counts j) b.words.kept word (slice_index b.words.cached word) (omega (arith, low)))

  pub well_before : IsWell (record b { words = words_after_eviction word b.words })
  well_before = record {
    counts = holds.counts;
    room = record { cached = holds.room.cached; kept = length-set b.words.kept word (slice_index b.words.cached word) ∙ holds.room.kept };
    head = head_evicted b.words word b.counts (has_directory b.counts b.words holds.room) holds.head;
    count = holds.count;
    slots = λ j s e. slot_stays b.counts j s b.words (words_after_eviction word b.words) (refl, same_kept j) refl (holds.slots j s e);
    listed = holds.listed;
    kinds = holds.kinds;
    directory = directory_evicted b.words word b.recovery b.creation b.directory holds.directory;
    readiness = holds.readiness;
  }

  pub worlds_before : (j : ℕ) → world_of (words_after_eviction word b.words) (slice_get b.slots j) ≡ acted (world_evicted b.counts j word) (world_at b j)
  worlds_before j = go (slice_get b.slots j) refl
    where
      go : (o : Option Slot) → slice_get b.slots j ≡ o → world_of (words_after_eviction word b.words) o ≡ acted (world_evicted b.counts j word) (world_of b.words o)
      go None e = refl
      go (Some s) e =
          world_exact b.counts j s b.words (words_after_eviction word b.words) (holds.slots j s e) refl (same_kept j) refl
          ∙ sym (acted_outside b.counts j word (world_in b.words s) (not_below b.counts j word (omega (arith, low))))

-- a word that there is not
pub worlds_past : (b : Brokered) (word : ℕ) → IsWell b → broker_size b.counts ≤ word → (j : ℕ) → world_at b j ≡ acted (world_evicted b.counts j word) (world_at b j)
worlds_past b word holds past j = go (slice_get b.slots j) refl
  where
    go : (o : Option Slot) → slice_get b.slots j ≡ o → world_of b.words o ≡ acted (world_evicted b.counts j word) (world_of b.words o)
    go None e = refl
    go (Some s) e =
        let below : j < 8 = omega (arith, slice_get_within b.slots j s e, holds.count) in
        sym (acted_outside b.counts j word (world_in b.words s) (not_above b.counts j word (omega (arith, past, block_ends (block_size_of b.counts.clients b.counts.records) j 8 below))))

-- a change behind a part leaves it
part_before : (c : Counts) (j word : ℕ) (ws : Words) → block_from c j + block_size_of c.clients c.records ≤ word
    → (block_words c j (words_after_eviction word ws)).kept ≡ (block_words c j ws).kept
part_before c j word ws past =
    let size = block_size_of c.clients c.records in
    let cut : (xs : List ℕ) → take size (drop (block_from c j) xs) ≡ drop (block_from c j) (take (block_from c j + size) xs) = λ xs. sym (drop-take (block_from c j) size xs) in
    let set : take (block_from c j + size) (slice_set ws.kept word (slice_index ws.cached word)) ≡ take (block_from c j + size) ws.kept = take-set-le (block_from c j + size) ws.kept word (slice_index ws.cached word) past in
    cut (slice_set ws.kept word (slice_index ws.cached word)) ∙ ap (drop (block_from c j)) set ∙ sym (cut ws.kept)

-- a word of a slot's block
module _ (b : Brokered) (i word : ℕ) (was is : Slot) (new : Words) (holds : IsWell b) (here : slice_get b.slots i ≡ Some was)
    (low : block_from b.counts i ≤ word) (high : word < block_from b.counts i + block_size_of b.counts.clients b.counts.records)
    (same : IsSameWords (words_after_eviction word b.words) new) (world : world_in new is ≡ world_evicted_in was word b.words) where
  others_evicted : (j : ℕ) (s : Slot) → j ≢ i → slice_get b.slots j ≡ Some s → world_in new s ≡ acted (world_evicted b.counts j word) (world_in b.words s)
  others_evicted j s ne e = go (blocks_apart b.counts i j ne)
    where
      size : ℕ
      size = block_size_of b.counts.clients b.counts.records

      kept : (block_words b.counts j (words_after_eviction word b.words)).kept ≡ (block_words b.counts j b.words).kept → is_in_block b.counts j word ≡ false
          → world_in new s ≡ acted (world_evicted b.counts j word) (world_in b.words s)
      kept part outside =
          world_exact b.counts j s b.words new (holds.slots j s e)
          (ap (λ (xs : List ℕ). take (block_size_of b.counts.clients b.counts.records) (drop (block_from b.counts j) xs)) same.cached)
          (ap (λ (xs : List ℕ). take (block_size_of b.counts.clients b.counts.records) (drop (block_from b.counts j) xs)) same.kept ∙ part)
          same.accesses
          ∙ sym (acted_outside b.counts j word (world_in b.words s) outside)

      go : (block_from b.counts j + block_size_of b.counts.clients b.counts.records ≤ block_from b.counts i) ⊎ (block_from b.counts i + block_size_of b.counts.clients b.counts.records ≤ block_from b.counts j)
          → world_in new s ≡ acted (world_evicted b.counts j word) (world_in b.words s)
      go (inl before) = kept (part_before b.counts j word b.words (omega (arith, before, low))) (not_above b.counts j word (omega (arith, before, low)))
      go (inr behind) =
          kept (ap (take (block_size_of b.counts.clients b.counts.records)) (drop-set-lt (block_from b.counts j) b.words.kept word (slice_index b.words.cached word) (omega (arith, behind, high))))
          (not_below b.counts j word (omega (arith, behind, high)))

  pub worlds_within : (j : ℕ) → world_of new (slice_get (slice_set b.slots i is) j) ≡ acted (world_evicted b.counts j word) (world_at b j)
  worlds_within j = go (cases_eq j i)
    where
      go : (j ≡ i) ⊎ (j ≡ i → ⊥) → world_of new (slice_get (slice_set b.slots i is) j) ≡ acted (world_evicted b.counts j word) (world_at b j)
      go (inl e) = subst (λ n. world_of new (slice_get (slice_set b.slots i is) n) ≡ acted (world_evicted b.counts n word) (world_at b n)) (sym e)
          (ap (world_of new) (get_set b.slots i is (slice_get_within b.slots i was here)) ∙ world
          ∙ evicted_inside b.counts i word b.words was (holds.slots i was here) (is_inside b.counts i word low high)
          ∙ sym (ap (λ (o : Option Slot). acted (world_evicted b.counts i word) (world_of b.words o)) here))
      go (inr ne) = ap (world_of new) (get_set_other b.slots i is j ne) ∙ other (slice_get b.slots j) refl
        where
          other : (o : Option Slot) → slice_get b.slots j ≡ o → world_of new o ≡ acted (world_evicted b.counts j word) (world_of b.words o)
          other None e = refl
          other (Some s) e = others_evicted j s ne e

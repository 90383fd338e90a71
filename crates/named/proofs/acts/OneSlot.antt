-- An act on one slot keeps what holds of the broker, and leaves the other slots as they were.
use Rattle.std.proofs.Common.{◌≡◌, ◌≢◌, ℕ, zero, suc, ◌+◌, ◌<◌, ◌≤◌, ◌⊎◌, inl, inr, List, [], ◌∷◌, length, take, drop, slice_get, slice_set, Option, Some, None, Result, Ok, Err, Bool, if◌then◌else◌, is_some, is_ok, refl, sym, ap, ◌∙◌, subst, arith, length-drop, length-take}
use Rattle.std.proofs.lemmas.Bool.{cases_eq, cases_lt}
use Rattle.std.proofs.lemmas.Option.{slice_get_within, slice_get_past}
use Rattle.std.specs.Option.{option_map}
use Rattle.persist.specs.Memory.{Words, words_in, IsSameOutside}
use Rattle.persist.proofs.Facts.{elsewhere}
use Rattle.arena.specs.Broker.{block_from, block_size_of}
use Rattle.arena.specs.Shape.{Counts, Shape, shape_of}
use Rattle.arena.proofs.Facts.{block_ends}
use Rattle.directory.specs.Directory.{Directory}
use Rattle.directory.specs.UnderWay.{HasDirectory, HaveSameDirectory}
use Rattle.directory.specs.declared.creation.Creation.{Creation}
use Rattle.directory.specs.declared.queue.Queue.{Queue}
use Rattle.directory.proofs.Facts.{creation_moves, head_moves, outside_same, recovery_moves, rest_moves}
use Rattle.interleave.specs.State.{State}
use Rattle.interleave.proofs.Facts.{get_set, holds_alike}
use Rattle.named.specs.Blocks.{BlockState, IsWellIn, state_in, LieInOnePlace}
use Rattle.words.specs.declared.call.Client.{Client}
use Rattle.words.specs.declared.refusal.Refusal.{Refusal}
use Rattle.words.specs.declared.refusal.Refusal.TheVariants.{NoQueue, NotReady}
use Rattle.named.specs.Slots.{acted, answered, IsAsReady, IsReadyIn, IsSameOutsideSlot, IsSameSlot, IsSlotWell, kind_in}
use Rattle.named.specs.Slots.{world_in}
use Rattle.named.specs.Brokers.{Brokered, HasRoom, IsDirectoryAt, IsDirectoryDown, IsDirectoryIn, IsInBlock, IsSlotAt}
use Rattle.named.specs.Brokers.{IsUnusedBlock, IsWell, block_words, quiet, with_slot, world_at, world_of, world_after}
use Rattle.named.specs.Brokers.{answer_at, answer_if, admission, is_ready_at}
use Rattle.named.specs.declared.recovery.BrokerRecovery.{BrokerRecovery}
use Rattle.named.specs.declared.recovery.BrokerRecovery.TheVariants.{ReadDirectory, RecoverQueue}
use Rattle.named.specs.declared.slot.Slot.{Slot}
use Rattle.named.specs.declared.slot.Slot.TheVariants.{Closed, Open}

pub get_set_other : {X : Type 0} (xs : List X) (i : ℕ) (v : X) (t : ℕ) → t ≢ i → slice_get (slice_set xs i v) t ≡ slice_get xs t
get_set_other [] i v t ne = refl
get_set_other (y ∷ ys) zero v zero ne = absurd (ne refl)
get_set_other (y ∷ ys) zero v (suc t) ne = refl
get_set_other (y ∷ ys) (suc i) v zero ne = refl
get_set_other (y ∷ ys) (suc i) v (suc t) ne = get_set_other ys i v t (λ e. ne (ap suc e))

-- as long as the part is inside both, what lies after it tells how long they are
pub size_same : (n : ℕ) (c d : List ℕ) → drop n c ≡ drop n d → n ≤ length c → n ≤ length d → length c ≡ length d
size_same n c d e hc hd = omega (arith, sym (length-drop n c) ∙ ap length e ∙ length-drop n d)

-- where a part is as long as it should be, so much of the list is there
part_inside : (from len : ℕ) (c : List ℕ) → 1 ≤ len → length (take len (drop from c)) ≡ len → from + len ≤ length c
part_inside from len c some e = omega (arith, length-take len (drop from c), length-drop from c, e, some)

-- a block ends where the next begins, or before
pub block_after : (c : Counts) (i j : ℕ) → i < j → block_from c i + block_size_of c.clients c.records ≤ block_from c j
block_after c i j h = omega (arith, block_ends (block_size_of c.clients c.records) i j h)

pub blocks_apart : (c : Counts) (i j : ℕ) → j ≢ i
    → (block_from c j + block_size_of c.clients c.records ≤ block_from c i) ⊎ (block_from c i + block_size_of c.clients c.records ≤ block_from c j)
blocks_apart c i j ne = go (cases_lt i j)
  where
    go : (i < j) ⊎ (j ≤ i) → (block_from c j + block_size_of c.clients c.records ≤ block_from c i) ⊎ (block_from c i + block_size_of c.clients c.records ≤ block_from c j)
    go (inl less) = inr (block_after c i j less)
    go (inr above) = inl (block_after c j i (omega (arith, above, ne)))

abbrev HaveSameBlock : Counts → ℕ → Words → Words → Type 0
HaveSameBlock c j old new =
    ((block_words c j new).cached ≡ (block_words c j old).cached) × ((block_words c j new).kept ≡ (block_words c j old).kept)

-- a queue whose block is as it was stays in it
pub block_stays : (c : Counts) (j : ℕ) (block : BlockState) (old new : Words) → HaveSameBlock c j old new → length new.cached ≡ length old.cached
    → IsInBlock c old j block → IsInBlock c new j block
block_stays c j block old new same long here = record {
  shape = here.shape;
  from = here.from;
  len = here.len;
  port = here.port;
  well = record {
    some = here.well.some;
    inside = omega (arith, here.well.inside, long);
    ports = here.well.ports;
    holds = holds_alike block.core (words_in block.from block.len old) (words_in block.from block.len new)
        (rw (here.from, here.len) same.0) (rw (here.from, here.len) same.1) here.well.holds;
  };
}

pub slot_stays : (c : Counts) (j : ℕ) (slot : Slot) (old new : Words) → HaveSameBlock c j old new → length new.cached ≡ length old.cached
    → IsSlotAt c old j slot → IsSlotAt c new j slot
slot_stays c j Closed old new same long here = record { cached = same.0 ∙ here.cached; kept = same.1 ∙ here.kept }
slot_stays c j (Open block) old new same long here = block_stays c j block old new same long here

-- and its world is the same, but for the count of accesses
block_quiet : (c : Counts) (j : ℕ) (block : BlockState) (old new : Words) → HaveSameBlock c j old new → IsInBlock c old j block
    → quiet (Some (state_in new block)) ≡ quiet (Some (state_in old block))
block_quiet c j block old new same here =
    let cached : (words_in block.from block.len new).cached ≡ (words_in block.from block.len old).cached = rw (here.from, here.len) same.0 in
    let kept : (words_in block.from block.len new).kept ≡ (words_in block.from block.len old).kept = rw (here.from, here.len) same.1 in
    cc

pub world_stays : (c : Counts) (j : ℕ) (slot : Slot) (old new : Words) → HaveSameBlock c j old new → IsSlotAt c old j slot
    → quiet (world_in new slot) ≡ quiet (world_in old slot)
world_stays c j Closed old new same here = refl
world_stays c j (Open block) old new same here = block_quiet c j block old new same here

-- what lies outside a block of the broker's
outside_room : (c : Counts) (old new : Words) (i : ℕ) (was is : BlockState) → HasRoom c old → IsInBlock c old i was → IsWellIn new is
    → LieInOnePlace was is → IsSameOutside was.from was.len old new → HasRoom c new
outside_room c old new i was is room here well place outside =
    let inside : was.from + was.len ≤ length new.cached = omega (arith, well.inside, place.0, place.1) in
    let part : length (take is.len (drop is.from new.kept)) ≡ length (take is.len (drop is.from new.cached)) = well.holds.safe.words.same in
    let part_len : length (take is.len (drop is.from new.cached)) ≡ is.len = omega (arith, length-take is.len (drop is.from new.cached), length-drop is.from new.cached, well.inside) in
    let kept_inside : is.from + is.len ≤ length new.kept = part_inside is.from is.len new.kept well.some (part ∙ part_len) in
    record {
      cached = size_same (was.from + was.len) new.cached old.cached outside.cached_after inside here.well.inside ∙ room.cached;
      kept = size_same (was.from + was.len) new.kept old.kept outside.kept_after (omega (arith, kept_inside, place.0, place.1)) (omega (arith, here.well.inside, room.cached, room.kept)) ∙ room.kept;
    }

slot_room : (c : Counts) (old new : Words) (i : ℕ) (was is : Slot) → HasRoom c old → IsSlotAt c old i was → IsSlotWell new is
    → IsSameSlot was is → IsSameOutsideSlot was old new → HasRoom c new
slot_room c old new i Closed is room here well place outside = subst (HasRoom c) (sym outside) room
slot_room c old new i (Open was) (Open is) room here well place outside = outside_room c old new i was is room here well place outside
slot_room c old new i (Open was) Closed room here well place outside = absurd place

-- the blocks of other slots
block_elsewhere : (c : Counts) (old new : Words) (i j : ℕ) (was : BlockState) → j ≢ i → IsInBlock c old i was
    → IsSameOutside was.from was.len old new → HaveSameBlock c j old new
block_elsewhere c old new i j was ne here outside =
    elsewhere was.from was.len (block_from c j) (block_size_of c.clients c.records) old new outside
    (rw (here.from, here.len) (blocks_apart c i j ne))

slot_elsewhere : (c : Counts) (old new : Words) (i j : ℕ) (was : Slot) → j ≢ i → IsSlotAt c old i was
    → IsSameOutsideSlot was old new → HaveSameBlock c j old new
slot_elsewhere c old new i j Closed ne here outside = (ap (λ (ws : Words). (block_words c j ws).cached) outside, ap (λ (ws : Words). (block_words c j ws).kept) outside)
slot_elsewhere c old new i j (Open was) ne here outside = block_elsewhere c old new i j was ne here outside

-- the directory's words
pub has_directory : (c : Counts) (ws : Words) → HasRoom c ws → HasDirectory ws
has_directory c ws room = record { cached = omega (arith, room.cached); kept = omega (arith, room.kept) }

-- they are as they were where nothing was done
pub directory_as_it_was : (b x : Brokered) → IsWell b → b ≡ x → HaveSameDirectory x.words x.words
directory_as_it_was b x holds e =
    subst (λ (y : Brokered). HaveSameDirectory y.words y.words) e
    (record { room = has_directory b.counts b.words holds.room; cached = λ word below. refl; kept = λ word below. refl })

block_past : (c : Counts) (old new : Words) (i : ℕ) (was : BlockState) → HasRoom c new → IsInBlock c old i was
    → IsSameOutside was.from was.len old new → HaveSameDirectory old new
block_past c old new i was room here outside =
    outside_same old new was.from was.len (omega (arith, here.from)) (has_directory c new room) outside

slot_past : (c : Counts) (old new : Words) (i : ℕ) (was : Slot) → HasRoom c new → IsSlotAt c old i was
    → IsSameOutsideSlot was old new → HaveSameDirectory old new
slot_past c old new i Closed room here outside = record {
  room = has_directory c new room;
  cached = λ word below. rw outside refl;
  kept = λ word below. rw outside refl;
}
slot_past c old new i (Open was) room here outside = block_past c old new i was room here outside

creating_stays : (old new : Words) (creation : Option Creation) (directory : Directory) → HaveSameDirectory old new
    → IsDirectoryIn old creation directory → IsDirectoryIn new creation directory
creating_stays old new None directory same here = rest_moves old new same directory here
creating_stays old new (Some creation) directory same here = record {
  under_way = creation_moves old new same creation directory here.under_way;
  is_new = here.is_new;
}

down_stays : (old new : Words) (recovery : BrokerRecovery) (creation : Option Creation) (directory : Directory) → HaveSameDirectory old new
    → IsDirectoryDown old recovery creation directory → IsDirectoryDown new recovery creation directory
down_stays old new (ReadDirectory at) creation directory same here = record {
  whole = here.whole;
  recovering = recovery_moves old new at here.whole here.recovering same;
  more = here.more;
  loaded = here.loaded;
}
down_stays old new (RecoverQueue slot) creation directory same here = record {
  rest = rest_moves old new same directory here.rest;
  queue = here.queue;
  has = here.has;
}

pub directory_stays : (old new : Words) (recovery : Option BrokerRecovery) (creation : Option Creation) (directory : Directory) → HaveSameDirectory old new
    → IsDirectoryAt old recovery creation directory → IsDirectoryAt new recovery creation directory
directory_stays old new None creation directory same here = creating_stays old new creation directory same here
directory_stays old new (Some recovery) creation directory same here = down_stays old new recovery creation directory same here

-- a queue that lies in its place is in its block
pub in_block_again : (c : Counts) (old new : Words) (at : ℕ) (was is : BlockState) → IsInBlock c old at was → IsWellIn new is
    → LieInOnePlace was is → IsInBlock c new at is
in_block_again c old new at was is here well place = record {
  shape = place.3 ∙ here.shape ∙ ap (λ (s : Shape). shape_of s.kind c) (sym place.3);
  from = place.0 ∙ here.from;
  len = place.1 ∙ here.len;
  port = place.2 ∙ here.port;
  well = well;
}

-- the slot that acted
pub slot_now : (c : Counts) (old new : Words) (i : ℕ) (was is : Slot) → IsSlotAt c old i was → IsSlotWell new is → IsSameSlot was is
    → IsSameOutsideSlot was old new → IsSlotAt c new i is
slot_now c old new i Closed Closed here well place outside = subst (λ (ws : Words). IsUnusedBlock c ws i) (sym outside) here
slot_now c old new i (Open was) (Open is) here well place outside = in_block_again c old new i was is here well place
slot_now c old new i Closed (Open is) here well place outside = absurd place
slot_now c old new i (Open was) Closed here well place outside = absurd place

pub kind_stays : (was is : Slot) → IsSameSlot was is → kind_in is ≡ kind_in was
kind_stays Closed Closed place = refl
kind_stays (Open was) (Open is) place = ap (λ (s : Shape). Some s.kind) place.3
kind_stays Closed (Open is) place = absurd place
kind_stays (Open was) Closed place = absurd place

pub length_set : {X : Type 0} (xs : List X) (i : ℕ) (x : X) → length (slice_set xs i x) ≡ length xs
length_set [] i x = refl
length_set (y ∷ xs) zero x = refl
length_set (y ∷ xs) (suc i) x = ap suc (length_set xs i x)

pub some_is : {X : Type 0} (o : Option X) (x y : X) → o ≡ Some x → o ≡ Some y → x ≡ y
some_is o x y e f = cc

-- where nothing was refused for it, no recovery is under way
pub ready_there : (o : Option BrokerRecovery) (r : Result Unit Refusal) → r ≡ (if is_some o then Err NotReady else Ok tt) → r ≡ Ok tt → o ≡ None
ready_there None r is ok = refl
ready_there (Some recovery) r is ok = absurd (cc)

-- past the eight slots there is no queue
pub no_queue : {T : Type 0} (g : State → Result T Refusal) (b : Brokered) (i : ℕ) (client : Client) → IsWell b → 8 ≤ i → admission b client ≡ Ok tt
    → answer_at g b i client ≡ Err NoQueue
no_queue g b i client holds past admitted =
    let none : slice_get b.slots i ≡ None = slice_get_past b.slots i (omega (arith, past, holds.count)) in
    ap (λ (r : Result Unit Refusal). answer_if r (answered g (world_at b i))) admitted ∙ ap (λ (o : Option Slot). answered g (world_of b.words o)) none

-- a queue is as ready as it was
pub ready_stays : (ready : Bool) (was is : Slot) → IsSameSlot was is → IsAsReady was is → IsReadyIn ready was → IsReadyIn ready is
ready_stays ready Closed Closed place alike here = tt
ready_stays ready (Open was) (Open is) place alike here = ap is_some alike ∙ here
ready_stays ready Closed (Open is) place alike here = absurd place
ready_stays ready (Open was) Closed place alike here = absurd place

-- an open slot's world holds
pub slot_is_well : (c : Counts) (ws : Words) (i : ℕ) (slot : Slot) → IsSlotAt c ws i slot → IsSlotWell ws slot
slot_is_well c ws i Closed here = tt
slot_is_well c ws i (Open block) here = here.well

module _ (b : Brokered) (i : ℕ) (was is : Slot) (ws : Words) (holds : IsWell b) (here : slice_get b.slots i ≡ Some was)
    (well : IsSlotWell ws is) (outside : IsSameOutsideSlot was b.words ws) (place : IsSameSlot was is) where
  at_is : slice_get (slice_set b.slots i is) i ≡ Some is
  at_is = get_set b.slots i is (slice_get_within b.slots i was here)

  pub room_now : HasRoom b.counts ws
  room_now = slot_room b.counts b.words ws i was is holds.room (holds.slots i was here) well place outside

  pub same_directory : HaveSameDirectory b.words ws
  same_directory = slot_past b.counts b.words ws i was room_now (holds.slots i was here) outside

  pub slots_now : (j : ℕ) (s : Slot) → slice_get (slice_set b.slots i is) j ≡ Some s → IsSlotAt b.counts ws j s
  slots_now j s e = go (cases_eq j i)
    where
      go : (j ≡ i) ⊎ (j ≡ i → ⊥) → IsSlotAt b.counts ws j s
      go (inl same) =
          let e2 : slice_get (slice_set b.slots i is) i ≡ Some s = subst (λ n. slice_get (slice_set b.slots i is) n ≡ Some s) same e in
          subst (λ n. IsSlotAt b.counts ws n s) (sym same)
          (subst (IsSlotAt b.counts ws i) (some_is _ is s at_is e2) (slot_now b.counts b.words ws i was is (holds.slots i was here) well place outside))
      go (inr ne) =
          let there : slice_get b.slots j ≡ Some s = sym (get_set_other b.slots i is j ne) ∙ e in
          slot_stays b.counts j s b.words ws (slot_elsewhere b.counts b.words ws i j was ne (holds.slots i was here) outside)
          (room_now.cached ∙ sym holds.room.cached) (holds.slots j s there)

  pub kinds_now : (j : ℕ) (s : Slot) (queue : Option Queue) → slice_get (slice_set b.slots i is) j ≡ Some s
      → slice_get b.directory j ≡ Some queue → kind_in s ≡ option_map (λ (q : Queue). q.kind) queue
  kinds_now j s queue e listed = go (cases_eq j i)
    where
      go : (j ≡ i) ⊎ (j ≡ i → ⊥) → kind_in s ≡ option_map (λ (q : Queue). q.kind) queue
      go (inl same) =
          let e2 : slice_get (slice_set b.slots i is) i ≡ Some s = subst (λ n. slice_get (slice_set b.slots i is) n ≡ Some s) same e in
          let here2 : slice_get b.slots j ≡ Some was = subst (λ n. slice_get b.slots n ≡ Some was) (sym same) here in
          ap kind_in (sym (some_is _ is s at_is e2)) ∙ kind_stays was is place ∙ holds.kinds j was queue here2 listed
      go (inr ne) = holds.kinds j s queue (sym (get_set_other b.slots i is j ne) ∙ e) listed

  -- each slot is as ready as these say, where the one that acted is
  pub readiness_now : (recovery : Option BrokerRecovery) → IsReadyIn (is_ready_at recovery i) is
      → ((j : ℕ) (s : Slot) → j ≢ i → slice_get b.slots j ≡ Some s → IsReadyIn (is_ready_at recovery j) s)
      → (j : ℕ) (s : Slot) → slice_get (slice_set b.slots i is) j ≡ Some s → IsReadyIn (is_ready_at recovery j) s
  readiness_now recovery own others j s e = go (cases_eq j i)
    where
      go : (j ≡ i) ⊎ (j ≡ i → ⊥) → IsReadyIn (is_ready_at recovery j) s
      go (inl same) =
          let e2 : slice_get (slice_set b.slots i is) i ≡ Some s = subst (λ n. slice_get (slice_set b.slots i is) n ≡ Some s) same e in
          subst (λ n. IsReadyIn (is_ready_at recovery n) s) (sym same) (subst (IsReadyIn (is_ready_at recovery i)) (some_is _ is s at_is e2) own)
      go (inr ne) = others j s ne (sym (get_set_other b.slots i is j ne) ∙ e)

  pub still_well : IsAsReady was is → IsWell (with_slot b i is ws)
  still_well alike = record {
    counts = holds.counts;
    room = room_now;
    head = head_moves b.words ws b.counts same_directory holds.head;
    count = length_set b.slots i is ∙ holds.count;
    slots = slots_now;
    listed = holds.listed;
    kinds = kinds_now;
    directory = directory_stays b.words ws b.recovery b.creation b.directory same_directory holds.directory;
    readiness = readiness_now b.recovery (ready_stays (is_ready_at b.recovery i) was is place alike (holds.readiness i was here)) (λ j s ne e. holds.readiness j s e);
  }

  -- the other slots are as they were
  pub others_stay : (j : ℕ) → j ≢ i → quiet (world_at (with_slot b i is ws) j) ≡ quiet (world_at b j)
  others_stay j ne = ap (λ (o : Option Slot). quiet (world_of ws o)) (get_set_other b.slots i is j ne) ∙ go (slice_get b.slots j) refl
    where
      go : (o : Option Slot) → slice_get b.slots j ≡ o → quiet (world_of ws o) ≡ quiet (world_of b.words o)
      go (Some s) e = world_stays b.counts j s b.words ws (slot_elsewhere b.counts b.words ws i j was ne (holds.slots i was here) outside) (holds.slots j s e)
      go None e = refl

  pub world_now : world_at (with_slot b i is ws) i ≡ world_in ws is
  world_now = ap (world_of ws) at_is

  pub world_was : world_at b i ≡ world_in b.words was
  world_was = ap (world_of b.words) here

  -- an act of a client that is admitted
  pub world_done : (f : State → State) (client : Client) → admission b client ≡ Ok tt → world_in ws is ≡ acted f (world_in b.words was)
      → world_at (with_slot b i is ws) i ≡ world_after f b i client
  world_done f client admitted act =
      world_now ∙ act ∙ ap (acted f) (sym world_was) ∙ sym (ap (λ (r : Result Unit Refusal). if is_ok r then acted f (world_at b i) else world_at b i) admitted)

  pub answer_done : {T : Type 0} (g : State → Result T Refusal) (client : Client) (r : Result T Refusal) → admission b client ≡ Ok tt
      → r ≡ answered g (world_in b.words was) → r ≡ answer_at g b i client
  answer_done g client r admitted is_it =
      is_it ∙ ap (answered g) (sym world_was) ∙ sym (ap (λ (a : Result Unit Refusal). answer_if a (answered g (world_at b i))) admitted)

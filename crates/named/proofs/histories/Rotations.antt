-- A rotation of a broker.
use Rattle.std.proofs.Common.{◌≡◌, ℕ, zero, suc, inl, inr, List, [], ◌∷◌, ◌++◌, length, slice_get, slice_index_or, slice_set, ◌+◌, ◌<◌, ◌≤◌, Option, None, Some, Bool, true, false, Result, Ok, Err, if◌then◌else◌, refl, sym, ap, subst, ◌∙◌, arith}
use Rattle.std.specs.Prelude.{IfErr, is_some, ◌||◌}
use Rattle.std.specs.List.{list_any}
use Rattle.std.proofs.lemmas.Bool.{cases_eq, cases_lt}
use Rattle.std.proofs.lemmas.List.{length_push, length-set}
use Rattle.std.proofs.lemmas.Option.{slice_get-get_or, slice_get_past, slice_get_within}
use Rattle.words.specs.PlainQueue.{Value}
use Rattle.words.specs.declared.refusal.Refusal.{Refusal}
use Rattle.words.specs.declared.refusal.Refusal.TheVariants.{NotReady, Busy, NoMemory}
use Rattle.persist.specs.Memory.{Words}
use Rattle.arena.specs.Shape.{Counts}
use Rattle.events.proofs.Facts.{get_last, get_longer, get_push_cases}
use Rattle.interleave.specs.Rotation.{after_rotation, rotate_result, some_client_calls}
use Rattle.interleave.proofs.Facts.{get_set}
use Rattle.named.specs.Blocks.{BlockState, state_in}
use Rattle.named.specs.Brokers.{Brokered, IsSlotAt, IsWell, is_ready_at, room_of, world_of}
use Rattle.named.specs.Rotating.{AreBegunAnew, AreQuiet, IsBaseIn, IsBegunAnew, has_calls_in}
use Rattle.named.specs.Slots.{IsReadyIn, IsSameSlot, IsSlotWell, acted}
use Rattle.named.specs.declared.recovery.BrokerRecovery.{BrokerRecovery}
use Rattle.named.specs.declared.slot.Slot.{Slot}
use Rattle.named.specs.declared.slot.Slot.TheVariants.{Closed, Open}
use Rattle.named.proofs.acts.OneSlot.{get_set_other, in_block_again, kind_stays, ready_stays, slot_is_well, some_is}

-- a queue that is ready, and that nobody calls, may end its history
pub may_rotate : (full : Bool) (ws : Words) (block : BlockState) → is_some block.core.trace.recovery ≡ false → some_client_calls block.core.calls ≡ false
    → rotate_result full (state_in ws block) ≡ (if full then Err NoMemory else Ok tt)
may_rotate full ws block ready nobody =
    ap (λ (x : Bool). if x then Err NotReady else (if some_client_calls block.core.calls then Err Busy else (if full then Err NoMemory else Ok tt))) ready
    ∙ ap (λ (x : Bool). if x then Err Busy else (if full then Err NoMemory else Ok tt)) nobody

-- so it is refused for want of memory alone
pub for_memory : {T : Type 0} (r : Result T Refusal) (ws : Words) (block : BlockState) → is_some block.core.trace.recovery ≡ false → some_client_calls block.core.calls ≡ false
    → IfErr r (λ e. rotate_result true (state_in ws block) ≡ Err e) → IfErr r (λ e. e ≡ NoMemory)
for_memory (Ok x) ws block ready nobody refused = tt
for_memory (Err e) ws block ready nobody refused =
    let same : Err NoMemory ≡ (let r : Result Unit Refusal = Err e in r) = sym (may_rotate true ws block ready nobody) ∙ refused in
    cc

-- a base more
pub bases_more : (ws : Words) (slots : List Slot) (bases : List (List Value)) (slot : Slot) (base : List Value)
    → ((at : ℕ) (s : Slot) (b : List Value) → slice_get slots at ≡ Some s → slice_get bases at ≡ Some b → IsBaseIn ws s b)
    → slice_get slots (length bases) ≡ Some slot → IsBaseIn ws slot base
    → (at : ℕ) (s : Slot) (b : List Value) → slice_get slots at ≡ Some s → slice_get (bases ++ base ∷ []) at ≡ Some b → IsBaseIn ws s b
bases_more ws slots bases slot base each here own at s b there more = elim (get_push_cases bases base at b more) [
  | inl before ↦ each at s b there before
  | inr last ↦
      let same : slot ≡ s = some_is _ slot s here (subst (λ (n : ℕ). slice_get slots n ≡ Some s) last.0 there) in
      subst (IsBaseIn ws s) last.1 (subst (λ (x : Slot). IsBaseIn ws x base) same own)
]

-- the histories that end while there is a base left for each of the others: those of the slots past them ended
pub record AreBegunFrom (ws : Words) (old : List Slot) (bases : List (List Value)) (new : List Slot) (left : List (List Value)) : Type 0 where
  pub count : length new ≡ length old
  pub few : length left ≤ length old
  pub bases_left : (at : ℕ) (base : List Value) → slice_get left at ≡ Some base → slice_get bases at ≡ Some base
  pub still : (at : ℕ) → at < length left → slice_get new at ≡ slice_get old at
  pub begun : (at : ℕ) (was is : Slot) → length left ≤ at → slice_get old at ≡ Some was → slice_get new at ≡ Some is → IsBegunAnew ws was is

pub begun_more : (ws : Words) (old : List Slot) (bases : List (List Value)) (new : List Slot) (left : List (List Value)) (base : List Value) (was is : Slot)
    → AreBegunFrom ws old bases new (left ++ base ∷ []) → slice_get new (length left) ≡ Some was → IsBegunAnew ws was is
    → AreBegunFrom ws old bases (slice_set new (length left) is) left
begun_more ws old bases new left base was is h here begun =
    let long : length (left ++ base ∷ []) ≡ length left + 1 = length_push left base in
    let set_long : length (slice_set new (length left) is) ≡ length new = length-set new (length left) is in
    record {
      count = set_long ∙ h.count;
      few = omega (arith, h.few, long);
      bases_left = λ at b e. h.bases_left at b (get_longer left (base ∷ []) at b e);
      still = λ at below. get_set_other new (length left) is at (λ e. absurd (omega (arith, e, below))) ∙ h.still at (omega (arith, below, long));
      begun = λ at w i past there now. elim (cases_eq at (length left)) [
        | inl same ↦
            let is_it : i ≡ is = some_is _ i is now (ap (slice_get (slice_set new (length left) is)) same ∙ get_set new (length left) is (slice_get_within new (length left) was here)) in
            let was_it : w ≡ was = some_is _ w was there (ap (slice_get old) same ∙ sym (h.still (length left) (omega (arith, long))) ∙ here) in
            subst (IsBegunAnew ws w) (sym is_it) (subst (λ (x : Slot). IsBegunAnew ws x is) (sym was_it) begun)
        | inr apart ↦ h.begun at w i (omega (arith, past, apart, long)) there (sym (get_set_other new (length left) is at apart) ∙ now)
      ];
    }

-- the slot whose history ends next is as it was, and there is its base
pub record IsNext (old new : List Slot) (bases : List (List Value)) (base : List Value) (at : ℕ) (slot : Slot) : Type 0 where
  pub now : slice_get new at ≡ Some slot
  pub was : slice_get old at ≡ Some slot
  pub its_base : slice_get bases at ≡ Some base

pub next_slot : (ws : Words) (old : List Slot) (bases : List (List Value)) (new : List Slot) (left : List (List Value)) (base : List Value) (at : ℕ) (d : Slot)
    → AreBegunFrom ws old bases new (left ++ base ∷ []) → at ≡ length left → IsNext old new bases base at (slice_index_or new at d)
next_slot ws old bases new left base at d h last =
    let long : length (left ++ base ∷ []) ≡ length left + 1 = length_push left base in
    let now : slice_get new at ≡ Some (slice_index_or new at d) = slice_get-get_or new at d (omega (arith, h.count, h.few, long, last)) in
    record {
      now = now;
      was = sym (h.still at (omega (arith, last, long))) ∙ now;
      its_base = h.bases_left at base (ap (slice_get (left ++ base ∷ [])) last ∙ get_last left base);
    }

pub begun_all : (ws : Words) (old : List Slot) (bases : List (List Value)) (new : List Slot) (left : List (List Value)) → AreBegunFrom ws old bases new left
    → length left ≡ 0 → AreBegunAnew ws old new
begun_all ws old bases new left h none = record {
  count = h.count;
  each = λ at was is there here. h.begun at was is (omega (arith, none)) there here;
}

-- where no element passes the test, this one does not
pub none_of : {X : Type 0} (p : X → Bool) (xs : List X) (at : ℕ) (x : X) → list_any p xs ≡ false → slice_get xs at ≡ Some x → p x ≡ false
none_of p [] at x none here = absurd (cc)
none_of p (y ∷ ys) zero x none here =
    let same : y ≡ x = cc in
    subst (λ z. p z ≡ false) same (first (p y) (list_any p ys) none)
  where
    first : (a b : Bool) → (a || b) ≡ false → a ≡ false
    first true b e = cc
    first false b e = refl
none_of p (y ∷ ys) (suc at) x none here = none_of p ys at x (rest (p y) (list_any p ys) none) here
  where
    rest : (a b : Bool) → (a || b) ≡ false → b ≡ false
    rest true b e = cc
    rest false b e = e

-- where neither stands in the way
pub neither : (a b : Bool) → (a || b) ≡ false → b ≡ false
neither true b e = cc
neither false b e = e

-- each queue of a ready broker that no client calls may end its history
pub all_quiet : (b : Brokered) → IsWell b → b.recovery ≡ None → list_any has_calls_in b.slots ≡ false → AreQuiet b.words b.slots
all_quiet b holds ready nobody at slot here = (
  slot_is_well b.counts b.words at slot (holds.slots at slot here),
  (subst (λ (o : Option BrokerRecovery). IsReadyIn (is_ready_at o at) slot) ready (holds.readiness at slot here), none_of has_calls_in b.slots at slot nobody here),
)

anew_at : (c : Counts) (ws : Words) (at : ℕ) (was is : Slot) → IsSlotAt c ws at was → IsSlotWell ws is → IsSameSlot was is → IsSlotAt c ws at is
anew_at c ws at Closed Closed here well place = here
anew_at c ws at (Open was) (Open is) here well place = in_block_again c ws ws at was is here well place
anew_at c ws at Closed (Open is) here well place = absurd place
anew_at c ws at (Open was) Closed here well place = absurd place

module _ (b : Brokered) (slots : List Slot) (holds : IsWell b) (begun : AreBegunAnew b.words b.slots slots) where
  -- the slot as it was
  pub was_at : (at : ℕ) (is : Slot) → slice_get slots at ≡ Some is → slice_get b.slots at ≡ Some (slice_index_or b.slots at is)
  was_at at is here = slice_get-get_or b.slots at is (omega (arith, slice_get_within slots at is here, begun.count))

  began : (at : ℕ) (is : Slot) → slice_get slots at ≡ Some is → IsBegunAnew b.words (slice_index_or b.slots at is) is
  began at is here = begun.each at (slice_index_or b.slots at is) is (was_at at is here) here

  pub rotated_well : IsWell (record b { slots = slots })
  rotated_well = record {
    counts = holds.counts;
    room = holds.room;
    head = holds.head;
    count = begun.count ∙ holds.count;
    slots = λ at is here.
        let h = began at is here in
        anew_at b.counts b.words at (slice_index_or b.slots at is) is (holds.slots at (slice_index_or b.slots at is) (was_at at is here)) h.well h.same;
    listed = holds.listed;
    kinds = λ at is queue here listed.
        kind_stays (slice_index_or b.slots at is) is (began at is here).same ∙ holds.kinds at (slice_index_or b.slots at is) queue (was_at at is here) listed;
    directory = holds.directory;
    readiness = λ at is here.
        let h = began at is here in
        ready_stays (is_ready_at b.recovery at) (slice_index_or b.slots at is) is h.same h.as_ready (holds.readiness at (slice_index_or b.slots at is) (was_at at is here));
  }

  -- what holds of each slot as it was and as it is, and where there is none
  each_or_none : (p : Option Slot → Option Slot → Type 0) → p None None → ((was is : Slot) → IsBegunAnew b.words was is → p (Some was) (Some is))
      → (at : ℕ) → p (slice_get b.slots at) (slice_get slots at)
  each_or_none p none some at = elim (cases_lt at (length slots)) [
    | inl below ↦
        let is : Slot = slice_index_or slots at Closed in
        let here : slice_get slots at ≡ Some is = slice_get-get_or slots at Closed below in
        subst (p (slice_get b.slots at)) (sym here)
        (subst (λ (o : Option Slot). p o (Some is)) (sym (was_at at is here)) (some (slice_index_or b.slots at is) is (began at is here)))
    | inr past ↦
        subst (p (slice_get b.slots at)) (sym (slice_get_past slots at past))
        (subst (λ (o : Option Slot). p o None) (sym (slice_get_past b.slots at (omega (arith, past, begun.count)))) none)
  ]

  pub rotated_worlds : (at : ℕ) → world_of b.words (slice_get slots at) ≡ acted after_rotation (world_of b.words (slice_get b.slots at))
  rotated_worlds = each_or_none (λ was is. world_of b.words is ≡ acted after_rotation (world_of b.words was)) refl (λ was is h. h.world)

  pub rotated_rooms : (at : ℕ) → room_of (slice_get b.slots at) ≤ room_of (slice_get slots at)
  rotated_rooms = each_or_none (λ was is. room_of was ≤ room_of is) (omega arith) (λ was is h. h.room)

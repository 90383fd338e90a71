-- What becomes of the words of a slot: where they stay, where one is written, evicted or lost.
use Rattle.std.proofs.Common.{◌≡◌, ◌≢◌, ℕ, ◌+◌, ◌*◌, ◌<◌, ◌≤◌, List, length, Option, Some, None, refl, sym, ◌∙◌, ap, subst, arith, inl, inr, ◌⊎◌, get_or-set_other, slice_index, slice_set}
use Rattle.std.specs.Prelude.{◌==◌, IsSome, slice_get, if◌then◌else◌}
use Rattle.std.proofs.lemmas.Bool.Decides.{eqb_tells}
use Rattle.std.proofs.lemmas.Grind.{get_or-set_at}
use Rattle.persist.specs.Memory.{Words, words_after_eviction, words_after_crash}
use Rattle.directory.specs.Queue.{first_name_at, second_name_at, kind_at, gate_at, queue_of, queue_in, slot_in, IsSlotSound}
use Rattle.directory.specs.Directory.{Directory}
use Rattle.directory.specs.declared.queue.Queue.{Queue}
use Rattle.directory.specs.UnderWay.{IsSettled, IsSlotAtRest}

-- what a word has after a write of a word: the value, or what it had
pub written_here : (xs : List ℕ) (w v i : ℕ) → w < length xs → i ≡ w → slice_index (slice_set xs w v) i ≡ v
written_here xs w v i below same = get_or-set_at xs w i v 0 same below

pub written_there : (xs : List ℕ) (w v i : ℕ) → i ≢ w → slice_index (slice_set xs w v) i ≡ slice_index xs i
written_there xs w v i other = get_or-set_other xs w i v 0 other

-- an eviction keeps the cached value of its word, and changes no other
pub evicted : (xs kept : List ℕ) (w i : ℕ) → i < length kept
    → (slice_index (slice_set kept w (slice_index xs w)) i ≡ slice_index kept i) ⊎ (slice_index (slice_set kept w (slice_index xs w)) i ≡ slice_index xs i)
evicted xs kept w i below = elim (eqb_tells i w) [
  | inl e ↦ inr (written_here kept w (slice_index xs w) i (omega (arith, e.1)) e.1 ∙ ap (λ (k : ℕ). slice_index xs k) (sym e.1))
  | inr e ↦ inl (written_there kept w (slice_index xs w) i e.1)
]

-- a value that a word has cached and kept is kept after it
pub evicted_both : (xs kept : List ℕ) (w i v : ℕ) → i < length kept → slice_index xs i ≡ v → slice_index kept i ≡ v
    → slice_index (slice_set kept w (slice_index xs w)) i ≡ v
evicted_both xs kept w i v below cached same = elim (evicted xs kept w i below) [ inl e ↦ e ∙ same | inr e ↦ e ∙ cached ]

-- new has the four words of the slot as old has them
pub record SameSlot (old new : List ℕ) (slot : ℕ) : Type 0 where
  pub first : slice_index new (first_name_at slot) ≡ slice_index old (first_name_at slot)
  pub second : slice_index new (second_name_at slot) ≡ slice_index old (second_name_at slot)
  pub kind : slice_index new (kind_at slot) ≡ slice_index old (kind_at slot)
  pub gate : slice_index new (gate_at slot) ≡ slice_index old (gate_at slot)

pub same_slot : (xs : List ℕ) (slot : ℕ) → SameSlot xs xs slot
same_slot xs slot = record { first = refl; second = refl; kind = refl; gate = refl }

pub below_same : (old new : List ℕ) (slot : ℕ) → slot < 8 → ((i : ℕ) → i < 34 → slice_index new i ≡ slice_index old i) → SameSlot old new slot
below_same old new slot in_range same = record {
  first = same (first_name_at slot) (omega arith);
  second = same (second_name_at slot) (omega arith);
  kind = same (kind_at slot) (omega arith);
  gate = same (gate_at slot) (omega arith);
}

pub written_same : (xs : List ℕ) (slot other field v : ℕ) → field < 4 → other ≢ slot → (w : ℕ) → w ≡ 2 + 4 * slot + field → SameSlot xs (slice_set xs w v) other
written_same xs slot other field v small apart w at = record {
  first = written_there xs w v (first_name_at other) (λ e. apart (omega arith));
  second = written_there xs w v (second_name_at other) (λ e. apart (omega arith));
  kind = written_there xs w v (kind_at other) (λ e. apart (omega arith));
  gate = written_there xs w v (gate_at other) (λ e. apart (omega arith));
}

pub evicted_same : (ws : Words) (w slot : ℕ) → slot < 8 → 34 ≤ length ws.kept → IsSettled ws slot → SameSlot ws.kept (words_after_eviction w ws).kept slot
evicted_same ws w slot in_range room h = record {
  first = evicted_both ws.cached ws.kept w (first_name_at slot) (slice_index ws.kept (first_name_at slot)) (omega arith) h.first refl;
  second = evicted_both ws.cached ws.kept w (second_name_at slot) (slice_index ws.kept (second_name_at slot)) (omega arith) h.second refl;
  kind = evicted_both ws.cached ws.kept w (kind_at slot) (slice_index ws.kept (kind_at slot)) (omega arith) h.kind refl;
  gate = evicted_both ws.cached ws.kept w (gate_at slot) (slice_index ws.kept (gate_at slot)) (omega arith) h.gate refl;
}

-- what a slot has is told by its four words
pub queue_in-same : (old new : List ℕ) (slot : ℕ) → SameSlot old new slot → queue_in new slot ≡ queue_in old slot
queue_in-same old new slot same =
    ap (λ (w : ℕ). queue_of w (slice_index new (second_name_at slot)) (slice_index new (kind_at slot))) same.first
    ∙ (ap (λ (w : ℕ). queue_of (slice_index old (first_name_at slot)) w (slice_index new (kind_at slot))) same.second
    ∙ ap (λ (w : ℕ). queue_of (slice_index old (first_name_at slot)) (slice_index old (second_name_at slot)) w) same.kind)

pub slot_in-same : (old new : List ℕ) (slot : ℕ) → SameSlot old new slot → slot_in new slot ≡ slot_in old slot
slot_in-same old new slot same =
    ap (λ (w : ℕ). if w == 1 then queue_in new slot else None) same.gate
    ∙ ap (λ (q : Option Queue). if slice_index old (gate_at slot) == 1 then q else None) (queue_in-same old new slot same)

pub sound-same : (old new : List ℕ) (slot : ℕ) → SameSlot old new slot → IsSlotSound old slot → IsSlotSound new slot
sound-same old new slot same (inl closed) = inl (same.gate ∙ closed)
sound-same old new slot same (inr opened) = inr (record {
  gate = same.gate ∙ opened.gate;
  queue = subst (λ (q : Option Queue). IsSome q) (sym (queue_in-same old new slot same)) opened.queue;
})

-- a slot at rest stays so where its words stay
pub slot_moves : (old new : Words) (slot : ℕ) (directory : Directory) → SameSlot old.cached new.cached slot → SameSlot old.kept new.kept slot → IsSlotAtRest old slot directory → IsSlotAtRest new slot directory
slot_moves old new slot directory cached kept h = record {
  settled = record {
    first = cached.first ∙ (h.settled.first ∙ sym kept.first);
    second = cached.second ∙ (h.settled.second ∙ sym kept.second);
    kind = cached.kind ∙ (h.settled.kind ∙ sym kept.kind);
    gate = cached.gate ∙ (h.settled.gate ∙ sym kept.gate);
  };
  sound = sound-same old.kept new.kept slot kept h.sound;
  same = h.same ∙ ap Some (sym (slot_in-same old.kept new.kept slot kept));
}

-- and in a crash
pub slot_crashes : (ws : Words) (slot : ℕ) (directory : Directory) → IsSlotSound ws.kept slot → slice_get directory slot ≡ Some (slot_in ws.kept slot) → IsSlotAtRest (words_after_crash ws) slot directory
slot_crashes ws slot directory sound same = record {
  settled = record { first = refl; second = refl; kind = refl; gate = refl };
  sound = sound;
  same = same;
}

-- What an access does to words, it does to them as they are shown by their places.
use Rattle.std.proofs.Common.{◌≡◌, ℕ, zero, suc, ◌≤◌, Bool, true, false, ◌==◌, List, length, replicate, slice_index, slice_set, if◌then◌else◌, refl, sym, ap, subst, ◌∙◌, arith, ◌&&◌, nat_le}
use Rattle.std.proofs.lemmas.Bool.{false≢true}
use Rattle.std.proofs.lemmas.Bool.Decides.{nat_tests}
use mathlib.Core.Path.{fun_ext}
use Rattle.words.specs.declared.call.Kind.{Kind}
use Rattle.words.specs.declared.call.Kind.TheVariants.{Durable, Log}
use Rattle.persist.specs.Memory.{Words, Access, Load, Store, Cas, Flush, Fence, words_after_access, words_after_store}
use Rattle.persist.specs.Memory.{words_after_eviction}
use Rattle.arena.specs.Layout.{size_of, word_at}
use Rattle.arena.specs.Shape.{Shape, greatest}
use Rattle.arena.specs.Place.{IsPlace, is_same, is_same-true}
use Rattle.arena.specs.Laws.{at-written}
use Rattle.arena.specs.declared.place.Place.{Place}
use Rattle.arena.specs.declared.place.Place.TheVariants.{Head, Tail, Announcement, Bump, Item, Next, Mark, Cell, Insert}
use Rattle.arena.specs.declared.place.Place.TheVariants.{Number, EntryKind, Status, EntryNode}
use Rattle.stepper.specs.Step.{after_one, place_of}
use Rattle.protocol.specs.Machine.{put, with_store, with_fence, with_access}
use Rattle.interleave.specs.Values.{is_durable, is_log, is_record, is_place, value_of_place, memory_by_place}

-- the test is true exactly at the layout's places
pub is_place-true : (s : Shape) (p : Place) → IsPlace s p → is_place s p ≡ true
is_place-true s Head h = refl
is_place-true s Tail h = refl
is_place-true s (Announcement t) h = grind (arith, nat_tests, h)
is_place-true s (Bump t) h = grind (arith, nat_tests, h)
is_place-true s (Item n part) h = grind (arith, nat_tests, h)
is_place-true s (Next n) h = grind (arith, nat_tests, h)
is_place-true s (Mark n) h = grind (arith, nat_tests, h)
is_place-true s (Cell c) h = rw h.0 (grind (arith, nat_tests, h.1))
is_place-true s (Insert n) h = rw h.0 (grind (arith, nat_tests, h.1))
is_place-true s (Number e) h = rw h.0 (grind (arith, nat_tests, h.1))
is_place-true s (EntryKind e) h = rw h.0 (grind (arith, nat_tests, h.1))
is_place-true s (Status e) h = rw h.0 (grind (arith, nat_tests, h.1))
is_place-true s (EntryNode e) h = rw h.0 (grind (arith, nat_tests, h.1))

-- a test of the kind and another one
of_durable : (k : Kind) (b : Bool) → (is_durable k && b) ≡ true → (k ≡ Durable) × (b ≡ true)
of_durable Durable b h = (refl, h)
of_durable Log b h = cc

of_log : (k : Kind) (b : Bool) → (is_log k && b) ≡ true → (k ≡ Log) × (b ≡ true)
of_log Durable b h = cc
of_log Log b h = (refl, h)

pub is_place-from : (s : Shape) (p : Place) → is_place s p ≡ true → IsPlace s p
is_place-from s Head h = tt
is_place-from s Tail h = tt
is_place-from s (Announcement t) h = grind (arith, nat_tests, h)
is_place-from s (Bump t) h = grind (arith, nat_tests, h)
is_place-from s (Item n part) h = grind (arith, nat_tests, h)
is_place-from s (Next n) h = grind (arith, nat_tests, h)
is_place-from s (Mark n) h = grind (arith, nat_tests, h)
is_place-from s (Cell c) h = let t = of_durable s.kind (is_record s c.0) h in (t.0, grind (arith, nat_tests, t.1))
is_place-from s (Insert n) h = let t = of_log s.kind (nat_le n.0 (greatest s)) h in (t.0, grind (arith, nat_tests, t.1))
is_place-from s (Number e) h = let t = of_log s.kind (is_record s e.0) h in (t.0, grind (arith, nat_tests, t.1))
is_place-from s (EntryKind e) h = let t = of_log s.kind (is_record s e.0) h in (t.0, grind (arith, nat_tests, t.1))
is_place-from s (Status e) h = let t = of_log s.kind (is_record s e.0) h in (t.0, grind (arith, nat_tests, t.1))
is_place-from s (EntryNode e) h = let t = of_log s.kind (is_record s e.0) h in (t.0, grind (arith, nat_tests, t.1))

-- a place shows its word
pub shown_at : (s : Shape) (ws : List ℕ) (p : Place) → IsPlace s p → value_of_place s ws p ≡ slice_index ws (word_at s p)
shown_at s ws p h = rw (is_place-true s p h) refl

not_same : (s : Shape) (p q : Place) (b : Bool) → is_same p q ≡ b → IsPlace s p → is_place s q ≡ false → b ≡ false
not_same s p q true same hp e = absurd (false≢true (sym e ∙ is_place-true s q (subst (IsPlace s) (is_same-true p q same) hp)))
not_same s p q false same hp e = refl

written_at : (s : Shape) (ws : List ℕ) (p : Place) (v : ℕ) → IsPlace s p → size_of s ≤ length ws → (q : Place) (b : Bool) → is_place s q ≡ b → value_of_place s (slice_set ws (word_at s p) v) q ≡ put (value_of_place s ws) p v q
written_at s ws p v hp long q true e = rw e (at-written s p q hp (is_place-from s q e) ws v long)
written_at s ws p v hp long q false e = rw (e, not_same s p q (is_same p q) refl hp e) refl

-- a write at a place is shown as one
pub shown_written : (s : Shape) (ws : List ℕ) (p : Place) (v : ℕ) → IsPlace s p → size_of s ≤ length ws → value_of_place s (slice_set ws (word_at s p) v) ≡ put (value_of_place s ws) p v
shown_written s ws p v hp long = fun_ext (λ q. written_at s ws p v hp long q (is_place s q) refl)

pub shown_evicted : (s : Shape) (ws : Words) (p : Place) → IsPlace s p → size_of s ≤ length ws.kept → memory_by_place s (words_after_eviction (word_at s p) ws) ≡ with_fence (memory_by_place s ws) p
shown_evicted s ws p hp long =
    ap (λ f. record { cached = value_of_place s ws.cached; kept = f })
    (shown_written s ws.kept p (slice_index ws.cached (word_at s p)) hp long ∙ ap (λ v. put (value_of_place s ws.kept) p v) (sym (shown_at s ws.cached p hp)))

-- so an access at a place is one to the words as they are shown
pub shown_accessed : (s : Shape) (ws : Words) (access : Access Place) → IsPlace s (place_of access) → size_of s ≤ length ws.cached → size_of s ≤ length ws.kept
    → memory_by_place s (after_one s access ws) ≡ with_access (memory_by_place s ws) access
shown_accessed s ws (Load p) hp long_c long_k = refl
shown_accessed s ws (Store p v) hp long_c long_k =
    ap (λ f. record { cached = f; kept = value_of_place s ws.kept }) (shown_written s ws.cached p v hp long_c)
shown_accessed s ws (Cas p old new) hp long_c long_k =
    rw (shown_at s ws.cached p hp) (go (slice_index ws.cached (word_at s p) == old))
  where
    go : (b : Bool) → memory_by_place s (words_after_access (if b then words_after_store (word_at s p) new ws else ws)) ≡ (if b then with_store (memory_by_place s ws) p new else memory_by_place s ws)
    go true = ap (λ f. record { cached = f; kept = value_of_place s ws.kept }) (shown_written s ws.cached p new hp long_c)
    go false = refl
shown_accessed s ws (Flush p) hp long_c long_k = refl
shown_accessed s ws (Fence p) hp long_c long_k = shown_evicted s ws p hp long_k

pub zero_at : (n w : ℕ) → slice_index (replicate n 0) w ≡ 0
zero_at zero w = refl
zero_at (suc n) zero = refl
zero_at (suc n) (suc w) = zero_at n w

-- all words are zero
pub shown_zero : (s : Shape) (n : ℕ) → value_of_place s (replicate n 0) ≡ (λ p. 0)
shown_zero s n = fun_ext (λ p. go (is_place s p) (word_at s p))
  where
    go : (b : Bool) (w : ℕ) → (if b then slice_index (replicate n 0) w else 0) ≡ 0
    go true w = zero_at n w
    go false w = refl

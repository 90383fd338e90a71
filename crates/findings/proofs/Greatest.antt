-- Precedence in an order, by the greatest place so far.
use Rattle.std.proofs.Common.{ℕ, ◌≡◌, ◌<◌, ◌≤◌, ◌+◌, List, Some, slice_get, length, max, arith, ap, sym, subst, ⊎_elim}
use Rattle.std.proofs.lemmas.Bool.{cases_lt}
use Rattle.std.proofs.lemmas.Option.{slice_get_within}
use Rattle.events.specs.declared.event.Event.{Event}
use Rattle.events.specs.declared.event.Entry.{Entry}
use Rattle.events.specs.Explains.{KeepsPrecedence}
use Rattle.events.specs.History.{Precedes}
use Rattle.history.specs.Sweeps.{HasPlace}

-- the greatest place of the first n entries, or 0
pub record IsGreatestTo (order : List Entry) (n greatest : ℕ) : Type 0 where
  pub above : (k : ℕ) (entry : Entry) → k < n → slice_get order k ≡ Some entry → entry.place ≤ greatest
  pub one : 0 < greatest → HasPlace order n greatest

-- the first n entries stand behind none that they precede
pub record IsKeptTo (events : List Event) (order : List Entry) (n : ℕ) : Type 0 where
  pub kept : (i j : ℕ) (x y : Entry) → i < n → j ≤ i → slice_get order i ≡ Some x → slice_get order j ≡ Some y
      → Precedes events x.place y.place → ⊥

-- with one entry more
pub greatest_more : (order : List Entry) (n old new : ℕ) (entry : Entry) → slice_get order n ≡ Some entry
    → new ≡ max old entry.place → IsGreatestTo order n old → IsGreatestTo order (n + 1) new
greatest_more order n old new entry at is so_far = record {
  above = λ k other lt at_k.
      ⊎_elim
      (λ (before : k < n). let low : other.place ≤ old = so_far.above k other before at_k in omega arith)
      (λ (last : n ≤ k). let same : k ≡ n = omega arith in
      let entries : entry ≡ other = cc (at, at_k, ap (slice_get order) same) in
      omega (arith, ap (λ (e : Entry). e.place) entries))
      (cases_lt k n);
  one = λ some.
      ⊎_elim
      (λ (higher : old < entry.place).
      record { index = n; before = omega arith; entry = entry; at = at; same = omega arith })
      (λ (lower : entry.place ≤ old).
      let has : HasPlace order n old = so_far.one (omega arith) in
      record {
        index = has.index;
        before = omega (arith, has.before);
        entry = has.entry;
        at = has.at;
        same = omega (arith, has.same);
      })
      (cases_lt old entry.place);
}

precedes_later : (events : List Event) (a b c : ℕ) → b ≤ c → Precedes events a b → Precedes events a c
precedes_later events a b c le before = record {
  client = before.client;
  begins = before.begins;
  end = before.end;
  ends = before.ends;
  before = omega (arith, before.before, le);
}

pub kept_more : (events : List Event) (order : List Entry) (n greatest : ℕ) (entry : Entry)
    → slice_get order n ≡ Some entry → IsGreatestTo order (n + 1) greatest
    → (Precedes events entry.place greatest → ⊥) → IsKeptTo events order n → IsKeptTo events order (n + 1)
kept_more events order n greatest entry at is none so_far = record {
  kept = λ i j x y lt le at_i at_j before.
      ⊎_elim
      (λ (old : i < n). so_far.kept i j x y old le at_i at_j before)
      (λ (new : n ≤ i). let same : i ≡ n = omega arith in
      let entries : x ≡ entry = cc (at, at_i, ap (slice_get order) same) in
      none (precedes_later events entry.place y.place greatest (is.above j y (omega arith) at_j)
      (subst (λ (e : Entry). Precedes events e.place y.place) entries before)))
      (cases_lt i n);
}

pub keeps_all : (events : List Event) (order : List Entry) (n : ℕ) → length order ≤ n → IsKeptTo events order n
    → KeepsPrecedence events order
keeps_all events order n le kept i j x y at_i at_j before =
    ⊎_elim
    (λ (lt : i < j). lt)
    (λ (ge : j ≤ i). let within : i < length order = slice_get_within order i x at_i in
    absurd (kept.kept i j x y (omega arith) ge at_i at_j before))
    (cases_lt i j)

-- a call that precedes the one of the greatest place
pub not_kept : (events : List Event) (order : List Entry) (n greatest : ℕ) (entry : Entry)
    → slice_get order n ≡ Some entry → IsGreatestTo order (n + 1) greatest → Precedes events entry.place greatest
    → KeepsPrecedence events order → ⊥
not_kept events order n greatest entry at is before keeps =
    let has : HasPlace order (n + 1) greatest = is.one (omega (arith, before.before)) in
    let later : n < has.index = keeps n has.index entry has.entry at has.at
    (subst (Precedes events entry.place) (sym has.same) before) in
    omega (arith, has.before)

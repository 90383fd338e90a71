-- The greatest place of an order's first entries, and precedence.
use Rattle.std.proofs.Common.{ℕ, ◌≡◌, ◌<◌, ◌≤◌, ◌+◌, ◌⊎◌, List, slice_get, get_or, length, refl, ap, arith, subst, sym}
use Rattle.std.proofs.Common.{◌∙◌, ⊎_elim}
use Rattle.std.specs.Prelude.{Bool, true, false, not, IsTrue}
use Rattle.std.proofs.lemmas.Bool.{cases_lt}
use Rattle.std.proofs.lemmas.Option.{slice_get-get_or, get_or_from_slice_get}
use Rattle.events.specs.declared.event.Event.{Event}
use Rattle.events.specs.declared.event.Entry.{Entry}
use Rattle.events.specs.History.{Precedes}
use Rattle.history.specs.Plainly.{IsNotAfter}
use Rattle.history.specs.Sweeps.{HasPlace, IsGreatest}

-- a call that precedes what stands somewhere precedes what stands later
precedes_later : (events : List Event) (a b c : ℕ) → b ≤ c → Precedes events a b → Precedes events a c
precedes_later events a b c le before = record {
  client = before.client;
  begins = before.begins;
  end = before.end;
  ends = before.ends;
  before = omega (arith, before.before, le);
}

-- with one entry more
pub greatest_more : (order : List Entry) (i greatest more : ℕ) (d : Entry) → i < length order
    → IsGreatest order i greatest → greatest ≤ more → (get_or order i d).place ≤ more
    → (more ≡ greatest) ⊎ (more ≡ (get_or order i d).place) → IsGreatest order (i + 1) more
greatest_more order i greatest more d lt so_far above_old above_new one = record {
  above = λ k entry below at.
      ⊎_elim
      (λ old. let le : entry.place ≤ greatest = so_far.above k entry old at in omega arith)
      (λ new.
      let same : k ≡ i = omega arith in
      let is : get_or order i d ≡ entry = get_or_from_slice_get order i entry d
      (ap (slice_get order) (sym same) ∙ at) in
      omega (arith, above_new, ap (λ (e : Entry). e.place) is))
      (cases_lt k i);
  one = λ some.
      ⊎_elim
      (λ old. ⊎_elim
      (λ zero_before. let has : HasPlace order i greatest = so_far.one zero_before in
      record {
        index = has.index;
        before = omega (arith, has.before);
        entry = has.entry;
        at = has.at;
        same = has.same ∙ sym old;
      })
      (λ first.
      let none : i ≡ 0 = omega arith in
      record {
        index = i;
        before = omega arith;
        entry = get_or order i d;
        at = slice_get-get_or order i d lt;
        same = omega (arith, old, so_far.none none, above_new);
      })
      (cases_lt 0 i))
      (λ new. record {
        index = i;
        before = omega arith;
        entry = get_or order i d;
        at = slice_get-get_or order i d lt;
        same = sym new;
      })
      one;
  none = λ zero_length. absurd (omega (arith, zero_length));
}

-- a call that precedes none of the entries up to its own
pub none_from_greatest : (events : List Event) (order : List Entry) (i greatest : ℕ) (d : Entry)
    → i < length order → IsGreatest order (i + 1) greatest
    → (Precedes events (get_or order i d).place greatest → ⊥) → (j : ℕ) → j ≤ i → IsNotAfter events order i j
none_from_greatest events order i greatest d lt is none j le = record {
  none = λ x y at_i at_j before.
      let same : get_or order i d ≡ x = get_or_from_slice_get order i x d at_i in
      none (subst (λ (e : Entry). Precedes events e.place greatest) (sym same)
      (precedes_later events x.place y.place greatest (is.above j y (omega arith) at_j) before));
}

pub greatest_from_none : (events : List Event) (order : List Entry) (i greatest : ℕ) (d : Entry)
    → i < length order → IsGreatest order (i + 1) greatest → ((j : ℕ) → j ≤ i → IsNotAfter events order i j)
    → Precedes events (get_or order i d).place greatest → ⊥
greatest_from_none events order i greatest d lt is none before =
    let has : HasPlace order (i + 1) greatest = is.one (omega arith) in
    (none has.index (omega (arith, has.before))).none (get_or order i d) has.entry
    (slice_get-get_or order i d lt) has.at (subst (Precedes events (get_or order i d).place) (sym has.same) before)

-- a test that fails
pub holds_not : (b : Bool) → (IsTrue b → ⊥) → IsTrue (not b)
holds_not true none = absurd (none refl)
holds_not false none = refl

pub fails_not : (b : Bool) → IsTrue (not b) → IsTrue b → ⊥
fails_not true fails is = cc fails
fails_not false fails is = cc is

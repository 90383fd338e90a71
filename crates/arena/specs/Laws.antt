-- What follows of the words of a queue from their being laid out.
use Rattle.std.specs.Prelude.{◌≡◌, ℕ, ◌≤◌, Bool, true, false, List, length, ◌==◌, slice_index, slice_set, if◌then◌else◌, refl, ◌≢◌}
use Rattle.std.proofs.Common.{arith, inl, inr, sym, ap, get_or-set_other}
use Rattle.std.proofs.lemmas.Bool.Decides.{eqb_tells}
use Rattle.std.proofs.lemmas.Grind.{get_or-set_at}
use Rattle.arena.specs.Shape.{Shape}
use Rattle.arena.specs.Layout.{word_at, size_of, laid_out}
use Rattle.arena.specs.Place.{IsPlace, is_same, is_same-true, is_same-from}
use Rattle.arena.specs.declared.place.Place.{Place}

not_true : (b : Bool) → b ≢ true → b ≡ false
not_true true h = absurd (h refl)
not_true false h = refl

-- two places have one word exactly where they are one
pub word_at-same : (s : Shape) (p q : Place) → IsPlace s p → IsPlace s q → (word_at s p == word_at s q) ≡ is_same p q
word_at-same s p q hp hq =
    let own_p = (laid_out s).own p hp in
    let own_q = (laid_out s).own q hq in
    elim (eqb_tells (word_at s p) (word_at s q)) [
      | inl e ↦ let same : p ≡ q = cc in rw e.0 (sym (is_same-from p q same))
      | inr e ↦ rw e.0 (sym (not_true (is_same p q) (λ h. e.1 (ap (word_at s) (is_same-true p q h)))))
    ]

-- a write at a place changes what that place has, and nothing else
pub at-written : (s : Shape) (p q : Place) → IsPlace s p → IsPlace s q → (ws : List ℕ) (v : ℕ) → size_of s ≤ length ws
    → slice_index (slice_set ws (word_at s p) v) (word_at s q)
    ≡ (if is_same p q then v else slice_index ws (word_at s q))
at-written s p q hp hq ws v long =
    let here = (laid_out s).below p hp in
    let same = word_at-same s p q hp hq in
    rw (← same) (elim (eqb_tells (word_at s p) (word_at s q)) [
      | inl e ↦ rw e.0 (get_or-set_at ws (word_at s p) (word_at s q) v 0 (sym e.1) (omega (arith, here)))
      | inr e ↦ rw e.0 (get_or-set_other ws (word_at s p) (word_at s q) v 0 (λ h. e.1 (sym h)))
    ])

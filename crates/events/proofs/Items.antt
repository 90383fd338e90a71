-- When two items are the same.
use Rattle.std.proofs.Common.{◌≡◌, ℕ, ◌-◌, Bool, true, false, List, length, take, IsTrue, refl, sym, ◌∙◌, ap}
use Rattle.std.specs.Prelude.{◌==◌, ◌&&◌, ◌↔◌, nat_eq, replicate}
use Rattle.std.specs.Cmp.Lexicographic.{pointwise, same_text, other_text}
use Rattle.std.proofs.lemmas.Bool.{eqb-true}
use Rattle.std.proofs.lemmas.Bool.Decides.{nat_tests}
use Rattle.std.proofs.Common.{arith}
use Rattle.std.proofs.Math.Seq.{take-append_seam}
use Rattle.words.specs.Item.{item_row}

-- two items are equal exactly where their rows and their lengths are
equal_rows : (xs ys : List ℕ) → xs ≡ ys → pointwise nat_eq xs ys ≡ true
equal_rows xs ys same = go (pointwise nat_eq xs ys) refl
  where
    go : (b : Bool) → pointwise nat_eq xs ys ≡ b → pointwise nat_eq xs ys ≡ true
    go true e = e
    go false e = absurd (other_text xs ys (sym e) same)

pub items_equal : (a b : List ℕ) (r : Bool) → r ≡ (pointwise nat_eq (item_row a) (item_row b) && (length a == length b)) → IsTrue r ↔ (a ≡ b)
items_equal a b r is = (equal, same)
  where
    rows_of : (p q : Bool) → (p && q) ≡ true → (p ≡ true) × (q ≡ true)
    rows_of true true h = (refl, refl)
    rows_of true false h = (refl, h)
    rows_of false q h = (h, absurd (cc))

    equal : IsTrue r → a ≡ b
    equal h =
        let both = rows_of (pointwise nat_eq (item_row a) (item_row b)) (length a == length b) (sym is ∙ h) in
        let rows : item_row a ≡ item_row b = same_text (item_row a) (item_row b) (sym both.0) in
        let long : length a ≡ length b = eqb-true (length a) (length b) both.1 in
        sym (take-append_seam a (replicate (24 - length a) 0))
        ∙ (ap (λ (n : ℕ). take n (item_row a)) long ∙ (ap (λ (row : List ℕ). take (length b) row) rows ∙ take-append_seam b (replicate (24 - length b) 0)))

    same : a ≡ b → IsTrue r
    same e =
        let rows : pointwise nat_eq (item_row a) (item_row b) ≡ true = equal_rows (item_row a) (item_row b) (ap item_row e) in
        let long : length a ≡ length b = ap length e in
        is ∙ rw rows (grind (arith, nat_tests))

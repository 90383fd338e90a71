-- Numbers without the first ones, and the first of some.
use Rattle.std.proofs.Common.{◌≡◌, ap, ◌∙◌, arith, ℕ, zero, suc, ◌+◌, ◌-◌, min, ◌∷◌, take, drop}
use Rattle.std.specs.List.{range_with_len}

pub drop_range : (k a n : ℕ) → drop k (range_with_len a n) ≡ range_with_len (a + min k n) (n - min k n)
drop_range zero a n =
    let here : a ≡ a + min 0 n = omega arith in
    let all : n ≡ n - min 0 n = omega arith in
    ap (λ x. range_with_len x n) here ∙ ap (range_with_len (a + min 0 n)) all
drop_range (suc k) a zero =
    let none : 0 ≡ 0 - min (suc k) 0 = omega arith in ap (range_with_len (a + min (suc k) 0)) none
drop_range (suc k) a (suc n) =
    let here : a + 1 + min k n ≡ a + min (suc k) (suc n) = omega arith in
    let all : n - min k n ≡ suc n - min (suc k) (suc n) = omega arith in
    drop_range k (a + 1) n ∙ ap (λ x. range_with_len x (n - min k n)) here
    ∙ ap (range_with_len (a + min (suc k) (suc n))) all

pub take_range : (k a n : ℕ) → take k (range_with_len a n) ≡ range_with_len a (min k n)
take_range zero a n = let none : 0 ≡ min 0 n = omega arith in ap (range_with_len a) none
take_range (suc k) a zero = let none : 0 ≡ min (suc k) 0 = omega arith in ap (range_with_len a) none
take_range (suc k) a (suc n) =
    let all : suc (min k n) ≡ min (suc k) (suc n) = omega arith in
    ap (λ l. a ∷ l) (take_range k (a + 1) n) ∙ ap (range_with_len a) all

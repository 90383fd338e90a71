-- The front of a list, as its items change.
use Rattle.std.proofs.Common.{◌≡◌, ℕ, ◌<◌, List, Some, length, min, take, slice_get, slice_index_or, slice_set, sym, ap, ◌∙◌, arith}
use Rattle.std.proofs.lemmas.List.{get_or-take, length-take}
use Rattle.std.proofs.lemmas.Option.{slice_get_within, slice_get-get_or, get_or_from_slice_get}
use Rattle.std.proofs.Math.Seq.{take-set-lt}

-- an item of the front that changes is changed in the whole
pub set_in_front : {X : Type 0} (n i : ℕ) (xs ys : List X) (x : X) → take n xs ≡ ys → i < length ys
    → take n (slice_set xs i x) ≡ slice_set ys i x
set_in_front n i xs ys x is within =
    let long : length ys ≡ min n (length xs) = ap length (sym is) ∙ length-take n xs in
    take-set-lt n xs i x (omega (arith, within, long)) ∙ ap (λ zs. slice_set zs i x) is

-- an item of the front is that of the whole
pub get_in_front : {X : Type 0} (n i : ℕ) (xs ys : List X) (x : X) → take n xs ≡ ys → slice_get ys i ≡ Some x
    → slice_get xs i ≡ Some x
get_in_front n i xs ys x is at =
    let within : i < length ys = slice_get_within ys i x at in
    let long : length ys ≡ min n (length xs) = ap length (sym is) ∙ length-take n xs in
    slice_get-get_or xs i x (omega (arith, within, long))
    ∙ ap (λ y. Some y) (sym (get_or-take n xs i x (omega (arith, within, long))) ∙ ap (λ zs. slice_index_or zs i x) is
    ∙ get_or_from_slice_get ys i x x at)

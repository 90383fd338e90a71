-- Lines that are left of a script: the one that was put off stands in place of the `again` after it.
use Rattle.std.proofs.Common.{◌≡◌, refl, sym, ap, ◌∙◌, ℕ, suc, ◌+◌, ◌<◌, ◌≤◌, Bool, true, false, List, [], ◌∷◌, ◌++◌, drop, get_or, length, take, arith, if◌then◌else◌}
use Rattle.std.proofs.Math.Seq.{drop-cons}
use Rattle.std.proofs.lemmas.List.{drop_all}
use Rattle.std.proofs.lemmas.Option.{slice_get_within, slice_get-get_or}
use Rattle.std.specs.Prelude.{Some, slice_get}

abbrev pub pending : {A : Type 0} → Bool → ℕ → ℕ → List A → List A
pending false made at all = drop at all
pending true made at all = take 1 (drop made all) ++ drop (at + 1) all

-- the line at a place, and those after it
pub from_here : {A : Type 0} (all : List A) (at : ℕ) (line : A) → at < length all → line ≡ get_or all at line
    → drop at all ≡ line ∷ drop (at + 1) all
from_here all at line within is =
    let next : suc at ≡ at + 1 = omega arith in
    drop-cons all at line within
    ∙ ap (λ n. get_or all at line ∷ drop n all) next
    ∙ ap (λ x. x ∷ drop (at + 1) all) (sym is)

-- the first line that is left is the one that is made
pub made_first : {A : Type 0} (all : List A) (put_off : Bool) (made at m : ℕ) (line : A)
    → m ≡ (if put_off then made else at) → m < length all → line ≡ get_or all m line
    → pending put_off made at all ≡ line ∷ drop (at + 1) all
made_first all true made at m line is within value =
    let first : drop made all ≡ line ∷ drop (m + 1) all = ap (λ n. drop n all) (sym is) ∙ from_here all m line within value in
    ap (λ l. take 1 l ++ drop (at + 1) all) first
made_first all false made at m line is within value =
    let first : drop m all ≡ line ∷ drop (m + 1) all = from_here all m line within value in
    ap (λ n. drop n all) (sym is) ∙ first ∙ ap (λ n. line ∷ drop (n + 1) all) is

-- it is one of them
pub made_within : (put_off : Bool) (made at m end : ℕ) → m ≡ (if put_off then made else at) → made ≤ at → at < end
    → (m < end) × (m ≤ at)
made_within true made at m end is before here = (omega (arith, is, before, here), omega (arith, is, before))
made_within false made at m end is before here = (omega (arith, is, here), omega (arith, is))

-- a line that is known to come next
pub comes_next : {A : Type 0} (all : List A) (at : ℕ) (line : A) → slice_get all at ≡ Some line
    → drop at all ≡ line ∷ drop (at + 1) all
comes_next all at line is =
    let within : at < length all = slice_get_within all at line is in
    let there : slice_get all at ≡ Some (get_or all at line) = slice_get-get_or all at line within in
    from_here all at line within (cc)

-- the one that was put off is left before what comes after the `again`
pub put_off_first : {A : Type 0} (all : List A) (m at : ℕ) (line : A) → m < length all → line ≡ get_or all m line
    → pending true m at all ≡ line ∷ drop (at + 1) all
put_off_first all m at line within value =
    ap (λ l. take 1 l ++ drop (at + 1) all) (from_here all m line within value)

-- past the last line nothing is left
pub nothing_pending : {A : Type 0} (all : List A) (put_off : Bool) (made at : ℕ)
    → (put_off ≡ true → at < length all) → length all ≤ at → pending put_off made at all ≡ []
nothing_pending all true made at again out =
    let within : at < length all = again refl in absurd (omega arith)
nothing_pending all false made at again out = drop_all at all (omega arith)

-- What one request makes of the engine: the tests of a tail, and the pieces.
use Rattle.std.proofs.Common.{◌≡◌, ◌≢◌, ◌≤◌, ◌<◌, ◌⊎◌, inl, inr, ℕ, zero, suc, ◌∷◌, [], ◌++◌, Bool, true, false, List, Option, Some, None, refl, sym, ap, ◌∙◌, subst, arith}
use Rattle.std.specs.Prelude.{◌==◌, ◌&&◌, bytes_eq, if◌then◌else◌, nat_lt}
use Rattle.std.proofs.lemmas.Bool.{cases_eq, eq-eqb, eqb-true, ltb-true, le-ltb, ne_eqb}
use Rattle.std.proofs.lemmas.Slice.Eq.{bytes_eq-Decides}
use Rattle.fenced.specs.Engine.{Engine, Tail, bytes_of, joined, same_state, same_tail, text_by, with_piece}
use Rattle.fenced.specs.Requests.{from_generation, is_as}

-- ---- tests

left_true : (a b : Bool) → (a && b) ≡ true → a ≡ true
left_true true b is = refl
left_true false b is = is

right_true : (a b : Bool) → (a && b) ≡ true → b ≡ true
right_true true b is = is
right_true false b is = cc

both : (a b : Bool) → a ≡ true → b ≡ true → (a && b) ≡ true
both a b one two = ap (λ (x : Bool). x && b) one ∙ two

left_false : (a b : Bool) → a ≡ false → (a && b) ≡ false
left_false a b is = ap (λ (x : Bool). x && b) is

right_false : (a b : Bool) → b ≡ false → (a && b) ≡ false
right_false true b is = is
right_false false b is = refl

make : ℕ → ℕ → List ℕ → Tail
make generation count owner = record { generation = generation; count = count; owner = owner }

pub same_fields : (a b : Tail) → a.generation ≡ b.generation → a.count ≡ b.count → a.owner ≡ b.owner → a ≡ b
unfolding make
same_fields a b one two three =
    ap (λ (g : ℕ). make g a.count a.owner) one ∙ ap (λ (n : ℕ). make b.generation n a.owner) two
    ∙ ap (λ (o : List ℕ). make b.generation b.count o) three

pub same_tail_is : (a b : Tail) → same_tail a b ≡ true → a ≡ b
same_tail_is a b is =
    let rest : ((a.count == b.count) && bytes_eq a.owner b.owner) ≡ true = right_true (a.generation == b.generation) ((a.count == b.count) && bytes_eq a.owner b.owner) is in
    same_fields a b (eqb-true a.generation b.generation (left_true (a.generation == b.generation) ((a.count == b.count) && bytes_eq a.owner b.owner) is))
    (eqb-true a.count b.count (left_true (a.count == b.count) (bytes_eq a.owner b.owner) rest))
    ((bytes_eq-Decides a.owner b.owner).0 (right_true (a.count == b.count) (bytes_eq a.owner b.owner) rest))

same_tail_itself : (a : Tail) → same_tail a a ≡ true
same_tail_itself a =
    both (a.generation == a.generation) ((a.count == a.count) && bytes_eq a.owner a.owner) (eq-eqb a.generation a.generation refl)
    (both (a.count == a.count) (bytes_eq a.owner a.owner) (eq-eqb a.count a.count refl) ((bytes_eq-Decides a.owner a.owner).1 refl))

pub same_state_is : (a b : Option Tail) → same_state a b ≡ true → a ≡ b
same_state_is None None is = refl
same_state_is None (Some b) is = cc
same_state_is (Some a) None is = cc
same_state_is (Some a) (Some b) is = ap (λ (t : Tail). Some t) (same_tail_is a b is)

same_state_itself : (a : Option Tail) → same_state a a ≡ true
same_state_itself None = refl
same_state_itself (Some a) = same_tail_itself a

pub as_named : (tail : Option Tail) (named : Option (Option Tail)) → is_as tail named ≡ true → named ≡ Some tail
as_named tail None is = cc
as_named tail (Some seen) is = ap (λ (t : Option Tail). Some t) (sym (same_state_is tail seen is))

pub is_named : (tail : Option Tail) (named : Option (Option Tail)) → named ≡ Some tail → is_as tail named ≡ true
is_named tail named same = subst (λ (n : Option (Option Tail)). is_as tail n ≡ true) (sym same) (same_state_itself tail)

-- ---- pieces

-- a piece that is put is there
pub with_it : (generation number : ℕ) (bytes : List ℕ) (piece : ℕ → ℕ → Option (List ℕ)) → with_piece generation number bytes piece generation number ≡ Some bytes
with_it generation number bytes piece =
    ap (λ (b : Bool). if b then Some bytes else piece generation number)
    (both (generation == generation) (number == number) (eq-eqb generation generation refl) (eq-eqb number number refl))

-- and no other one changes
pub with_other : (generation number : ℕ) (bytes : List ℕ) (piece : ℕ → ℕ → Option (List ℕ)) (g n : ℕ) → (g ≢ generation) ⊎ (n ≢ number) → with_piece generation number bytes piece g n ≡ piece g n
with_other generation number bytes piece g n (inl apart) =
    ap (λ (b : Bool). if b then Some bytes else piece g n) (left_false (g == generation) (n == number) (ne_eqb g generation apart))
with_other generation number bytes piece g n (inr apart) =
    ap (λ (b : Bool). if b then Some bytes else piece g n) (right_false (g == generation) (n == number) (ne_eqb n number apart))

-- pieces of a generation in use stay where those of lower ones go
pub from_it : (generation : ℕ) (piece : ℕ → ℕ → Option (List ℕ)) (g n : ℕ) → generation ≤ g → from_generation generation piece g n ≡ piece g n
from_it generation piece g n above = ap (λ (b : Bool). if b then None else piece g n) (le-ltb g generation above)

-- and others stay or go
pub from_any : (generation : ℕ) (piece : ℕ → ℕ → Option (List ℕ)) (g n : ℕ) → (from_generation generation piece g n ≡ piece g n) ⊎ (from_generation generation piece g n ≡ None)
from_any generation piece g n = elim (nat_lt g generation) as (λ (b : Bool). ((if b then None else piece g n) ≡ piece g n) ⊎ ((if b then None else piece g n) ≡ None)) [ true ↦ inr refl | false ↦ inl refl ]

-- ---- text

pub joined_same : (one other : ℕ → List ℕ) (count : ℕ) → ((n : ℕ) → n < count → one n ≡ other n) → joined one count ≡ joined other count
joined_same one other zero same = refl
joined_same one other (suc n) same =
    let before : joined one n ≡ joined other n = joined_same one other n (λ m few. same m (omega (arith, few))) in
    let last : one n ≡ other n = same n (omega arith) in
    ap (λ (xs : List ℕ). xs ++ one n) before ∙ ap (λ (xs : List ℕ). joined other n ++ xs) last

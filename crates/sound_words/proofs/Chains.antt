-- Further laws of chains of nodes: their first parts, and walks.
use Rattle.std.proofs.Common.{◌≡◌, ◌≢◌, ℕ, zero, suc, ◌⊎◌, inl, inr, List, [], ◌∷◌, ◌++◌, refl}
use Rattle.std.proofs.lemmas.Bool.{cases_eq, eq-eqb, ne_eqb}
use Rattle.arena.specs.Chain.{IsChain, IsAmong, walk}
use Rattle.arena.proofs.Facts.{distinct, parts_apart}

-- no node of a chain's first part comes again
pub not_twice : (link : ℕ → ℕ) (from : ℕ) (xs ys : List ℕ) (x : ℕ) → IsChain link from (xs ++ ys) → IsAmong x xs → IsAmong x ys → ⊥
not_twice link from xs ys x c = parts_apart xs ys x (distinct link from (xs ++ ys) c)

-- what a walk finds from a node without a next one, and from one with
pub walk_end : (link : ℕ → ℕ) (fuel n : ℕ) → link n ≡ 0 → walk fuel link n ≡ []
walk_end link zero n h = refl
walk_end link (suc fuel) n h = rw (eq-eqb (link n) 0 h) refl

pub walk_next : (link : ℕ → ℕ) (fuel left n m : ℕ) → fuel ≡ suc left → link n ≡ m → m ≢ 0 → walk fuel link n ≡ m ∷ walk left link m
walk_next link fuel left n m e at ne = rw (e, at, ne_eqb m 0 ne) refl

pub is_among_or_not : (x : ℕ) (xs : List ℕ) → IsAmong x xs ⊎ (IsAmong x xs → ⊥)
is_among_or_not x [] = inr (λ h. h)
is_among_or_not x (y ∷ ys) =
    elim (cases_eq x y) [
      | inl e ↦ inl (inl e)
      | inr ne ↦ elim (is_among_or_not x ys) [ inl h ↦ inl (inr h) | inr not ↦ inr (λ h. elim h [ inl e ↦ ne e | inr t ↦ not t ]) ]
    ]

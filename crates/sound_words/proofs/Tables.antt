-- Tables with a number for each node.
use Rattle.std.proofs.Common.{◌≡◌, ◌≢◌, ◌<◌, ◌⊎◌, ℕ, zero, suc, List, length, get_or, set, replicate, refl, inl, inr, get_or-set_other}
use Rattle.std.proofs.lemmas.Bool.{cases_eq}
use Rattle.std.proofs.lemmas.Grind.{get_or-set_at}
use Rattle.sound_words.proofs.Followed.{IsPlaced}

-- a new table is all 0
pub zeros : (n k : ℕ) → get_or {A = ℕ} (replicate n 0) k 0 ≡ 0
zeros zero k = refl
zeros (suc n) zero = refl
zeros (suc n) (suc k) = zeros n k

-- a table with another entry at one place
pub set_cases : {A : Type 0} (table : List A) (i : ℕ) (v d : A) → i < length table → (n : ℕ) → ((n ≡ i) × (get_or (set table i v) n d ≡ v)) ⊎ ((n ≢ i) × (get_or (set table i v) n d ≡ get_or table n d))
set_cases table i v d within n =
    elim (cases_eq n i) [
      | inl e ↦ inl (e, get_or-set_at table i n v d e within)
      | inr ne ↦ inr (ne, get_or-set_other table i n v d ne)
    ]

-- a table with another number for one node
pub placed : (table : List ℕ) (next v : ℕ) → next < length table → IsPlaced (λ n. get_or table n 0) next v (λ n. get_or (set table next v) n 0)
placed table next v = set_cases table next v 0

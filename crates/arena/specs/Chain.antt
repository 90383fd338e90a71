-- Chains of numbered nodes, by the link that each has.
use Rattle.std.specs.Prelude.{◌≡◌, ◌≢◌, ℕ, zero, suc, ◌⊎◌, List, [], ◌∷◌, if◌then◌else◌, ◌==◌}

-- these nodes follow `from`, each by the link of the one before it, and the last has none
abbrev pub IsChain : (ℕ → ℕ) → ℕ → List ℕ → Type 0
IsChain link from [] = link from ≡ 0
IsChain link from (n ∷ ns) = (link from ≡ n) × (n ≢ 0) × IsChain link n ns

-- x is one of these
abbrev pub IsAmong : ℕ → List ℕ → Type 0
IsAmong x [] = ⊥
IsAmong x (y ∷ ys) = (x ≡ y) ⊎ IsAmong x ys

-- n is the first of these
abbrev pub IsFirst : ℕ → List ℕ → Type 0
IsFirst n [] = ⊥
IsFirst n (x ∷ xs) = n ≡ x

-- links lead to this node from the other, or it is the other
pub data LeadsTo (link : ℕ → ℕ) (to : ℕ) : ℕ → Type 0 where
  there : LeadsTo link to to
  on : (from : ℕ) → link from ≢ 0 → LeadsTo link to (link from) → LeadsTo link to from

-- the nodes that links reach from n, as many at most as there is fuel
abbrev pub walk : ℕ → (ℕ → ℕ) → ℕ → List ℕ
walk zero link n = []
walk (suc fuel) link n = if link n == 0 then [] else link n ∷ walk fuel link (link n)

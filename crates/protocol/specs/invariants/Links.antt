-- Links and marks, cached and kept.
use Rattle.std.specs.Prelude.{◌≡◌, ◌≢◌, ◌∷◌, List, ℕ}
use Rattle.arena.specs.Chain.{IsAmong, IsChain, IsFirst}

-- The kept links are the chain of the order. A cached link is the kept one, or the only one that is ahead of it.
pub record Links (c k : ℕ → ℕ) (order : List ℕ) : Type 0 where
  pub chain : IsChain k 0 order
  pub kept : (n : ℕ) → k n ≢ 0 → c n ≡ k n
  pub on : (n : ℕ) → c n ≢ 0 → IsAmong n (0 ∷ order)
  pub ahead : (n : ℕ) → c n ≢ 0 → k n ≡ 0 → c (c n) ≡ 0

-- The kept marks are those of the claimed nodes. A cached mark is the kept one, or that of the first waiting node.
pub record Marks (c k : ℕ → ℕ) (claimed waiting : List ℕ) : Type 0 where
  pub kept : (n : ℕ) → k n ≢ 0 → c n ≡ k n
  pub back : (n : ℕ) → k n ≢ 0 → IsAmong n claimed
  pub on : (n : ℕ) → IsAmong n claimed → k n ≢ 0
  pub ahead : (n : ℕ) → c n ≢ 0 → k n ≡ 0 → IsFirst n waiting

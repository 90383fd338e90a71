-- One access at most.
use Rattle.std.specs.Prelude.{◌≡◌, ◌≢◌, ℕ, ◌+◌, ◌≤◌, ◌⊎◌, slice_index}
use Rattle.persist.specs.Memory.{Words}

-- at most one access was made, and no word but this one has another value, cached or kept
pub record MakesOneAccess (old new : Words) : Type 0 where
  pub accesses : new.accesses ≤ old.accesses + 1
  pub word : ℕ
  pub cached : (u : ℕ) → u ≢ word → slice_index new.cached u ≡ slice_index old.cached u
  pub kept : (u : ℕ) → u ≢ word → slice_index new.kept u ≡ slice_index old.kept u
  pub one_value : (new.cached ≡ old.cached) ⊎ (new.kept ≡ old.kept)

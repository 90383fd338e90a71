-- Effects in sequence, and what a look leaves of them.
use Rattle.std.specs.Prelude.{◌≡◌, ◌≢◌, ℕ, ◌<◌, ◌≤◌, Bool, true, List, length, slice_get, slice_set, remove, Some, if◌then◌else◌}
use Rattle.events.specs.Effects.{with_pending, without_pending, with_settled}
use Rattle.events.specs.declared.event.Effect.{Effect}

-- what the call at the place found before counts no more, and it may find the queue empty anew
abbrev pub effects_with_look : ℕ → Bool → ℕ → List Effect → List Effect
effects_with_look place empty moment effects =
    if empty then with_pending place moment (without_pending place effects) else without_pending place effects

-- each effect comes after its Call, no call has two, and they stand in the sequence of their moments
pub record AreInSequence (effects : List Effect) : Type 0 where
  pub after : (k : ℕ) (e : Effect) → slice_get effects k ≡ Some e → e.place < e.moment
  pub ascending : (j k : ℕ) (x y : Effect) → j < k → slice_get effects j ≡ Some x → slice_get effects k ≡ Some y
      → x.moment ≤ y.moment
  pub once : (j k : ℕ) (x y : Effect) → j < k → slice_get effects j ≡ Some x → slice_get effects k ≡ Some y
      → x.place ≢ y.place

-- no effect of the call at the place waits to count
pub record HasNoneUnsettled (place : ℕ) (effects : List Effect) : Type 0 where
  pub without_pending : without_pending place effects ≡ effects
  pub settled : with_settled place effects ≡ effects

-- the effect at i does, and no other
pub record IsUnsettledAt (place : ℕ) (effects : List Effect) (i : ℕ) : Type 0 where
  pub within : i < length effects
  pub without_pending : without_pending place effects ≡ remove effects i
  pub settled : (e : Effect) → slice_get effects i ≡ Some e
      → with_settled place effects ≡ slice_set effects i (record e { settled = true })

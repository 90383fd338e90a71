-- What came of a shared broker, and how often everything stopped meanwhile.
use Rattle.std.specs.Prelude.{◌≡◌, ◌++◌, ◌∷◌, [], ℕ, Bool, false, List, Some, slice_get}
use Rattle.events.specs.History.{CrashAt}
use Rattle.named.specs.Brokers.{Brokered, is_down}
use Rattle.named.specs.GoingOn.{BrokerGoesOn}
use Rattle.named.specs.Promises.{KeepsPromises}
use Rattle.named.specs.Renewing.{IsRenewedAt}
use Rattle.named.specs.Rotating.{IsRotated}
use Rattle.named.specs.Stopping.{IsStopped}
use Rattle.workers.specs.declared.deeds.Deed.{Deed}
use Rattle.workers.specs.declared.deeds.Deed.TheVariants.{Crash}
use Rattle.workers.specs.Lists.{events_at}

-- no crash came: a broker that was ready is so still, and a crash that stands in a history stood there before
pub record IsUnstopped (old new : Brokered) : Type 0 where
  pub up : is_down old ≡ false → is_down new ≡ false
  pub crashes : (slot place : ℕ) → CrashAt (events_at new slot) place → CrashAt (events_at old slot) place

-- The one broker came of the other, and meanwhile everything stopped so often: there is one row, the operator's, with a
-- Crash for each time. Between these moments the queues and their histories go on, by acts of any kind but crashes; or
-- the histories ended and others began, of all queues (rotation), or of the queue of a slot in fresh records, while
-- nobody called, and recovery began (renewal)
pub data CameBy (first : Brokered) : List (List Deed) → Brokered → Type 0 where
  nothing : CameBy first ([] ∷ []) first
  act : {deeds : List (List Deed)} {old new : Brokered} (before : CameBy first deeds old)
      (goes_on : BrokerGoesOn old new) (unstopped : IsUnstopped old new) → CameBy first deeds new
  crash : {stops : List Deed} {deeds : List (List Deed)} {old new : Brokered}
      (before : CameBy first (stops ∷ deeds) old) (stopped : IsStopped old new)
      → CameBy first ((stops ++ Crash ∷ []) ∷ deeds) new
  rotation : {deeds : List (List Deed)} {old new : Brokered} (before : CameBy first deeds old)
      (explained : KeepsPromises old) (rotated : IsRotated old new) → CameBy first deeds new
  renewal : {deeds : List (List Deed)} {old new : Brokered} {slot : ℕ} (before : CameBy first deeds old)
      (explained : KeepsPromises old) (renewed : IsRenewedAt old new slot) → CameBy first deeds new

-- the broker came of the first one, and everything stopped as often as the operator says
pub record IsHeard (first : Brokered) (stops : List Deed) (last : Brokered) : Type 0 where
  pub deeds : List (List Deed)
  pub came : CameBy first deeds last
  pub stopped : slice_get deeds 0 ≡ Some stops

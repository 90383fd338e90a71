-- A renewal, and the recovery that goes on from it.
use Rattle.std.specs.Prelude.{◌≡◌, ◌≤◌, ℕ, IsSome, None, Some}
use Rattle.interleave.specs.State.{State}
use Rattle.named.specs.Brokers.{Brokered, room_at, world_at}
use Rattle.named.specs.GoingOn.{BrokerGoesOn}
use Rattle.named.specs.Renewing.{IsRenewedAt}

-- the queue of the slot began in fresh records, and the broker went on from there
pub record IsRenewedOn (old new : Brokered) (slot : ℕ) : Type 0 where
  pub begun : Brokered
  pub renewal : IsRenewedAt old begun slot
  pub goes_on : BrokerGoesOn begun new

-- recovery is not refused memory: no creation is kept in mind, and each queue that is to recover has room for the event
-- that this adds to its history
pub record HasRoomToRecover (b : Brokered) : Type 0 where
  pub creation : b.creation ≡ None
  pub room : (at : ℕ) (w : State) → world_at b at ≡ Some w → IsSome w.recovery → 1 ≤ room_at b at

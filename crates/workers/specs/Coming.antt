-- What came of a broker by any acts, renewals among them.
use Rattle.std.specs.Prelude.{ℕ, Bool, true}
use Rattle.named.specs.Brokers.{Brokered}
use Rattle.named.specs.GoingOn.{CameOf}
use Rattle.named.specs.Promises.{KeepsPromises}
use Rattle.named.specs.Renewing.{IsRenewedAt}

-- The one broker came of the other by any acts. Either a queue was never renewed among them; or renewals were, and
-- since the last one it came by other acts of the broker that this one began, on what the one before it kept. The `Bool`
-- says whether histories have ended, by a rotation or a renewal
pub data CameThrough (first : Brokered) : Bool → Brokered → Type 0 where
  unrenewed : {ended : Bool} {now : Brokered} (came : CameOf first ended now) → CameThrough first ended now
  renewed : {was ended : Bool} {old begun now : Brokered} {slot : ℕ} (before : CameThrough first was old)
      (explained : KeepsPromises old) (renewal : IsRenewedAt old begun slot) (came : CameOf begun ended now)
      → CameThrough first true now

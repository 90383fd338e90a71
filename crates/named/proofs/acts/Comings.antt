-- What came of a broker by any acts, rotations among them.
use Rattle.std.proofs.Common.{ℕ, Bool, true, false, ap, ◌∙◌, slice_get}
use Rattle.directory.specs.Directory.{HasQueue}
use Rattle.directory.specs.declared.queue.Queue.{Queue}
use Rattle.named.specs.Brokers.{Brokered}
use Rattle.named.specs.GoingOn.{BrokerGoesOn, CameOf}
use Rattle.named.specs.GoingOn.CameOf.{rotated, unrotated}
use Rattle.named.specs.Promises.{KeepsPromises}
use Rattle.named.specs.Rotating.{IsRotated}
use Rattle.named.proofs.acts.Continuity.{broker_goes_further, broker_stays}

pub came_of_itself : (b : Brokered) → CameOf b false b
came_of_itself b = unrotated (broker_stays b)

pub came_further : (first : Brokered) (was : Bool) (now new : Brokered) → CameOf first was now → BrokerGoesOn now new
    → CameOf first was new
came_further first false now new (unrotated goes_on) on = unrotated (broker_goes_further first now new goes_on on)
came_further first true now new (rotated {was = w} {ended = ended} {begun = begun} before explained rotation goes_on) on =
    rotated before explained rotation (broker_goes_further begun now new goes_on on)

pub came_over_rotation : (first : Brokered) (was : Bool) (now new : Brokered) → CameOf first was now → KeepsPromises now
    → IsRotated now new → CameOf first true new
came_over_rotation first was now new before explained rotation = rotated before explained rotation (broker_stays new)

pub came_unrotated : (first now : Brokered) → CameOf first false now → BrokerGoesOn first now
came_unrotated first now (unrotated goes_on) = goes_on

-- its queues are there still
pub queues_came : (first : Brokered) (was : Bool) (now : Brokered) → CameOf first was now → (slot : ℕ) (queue : Queue)
    → HasQueue first.directory slot queue → HasQueue now.directory slot queue
queues_came first false now (unrotated goes_on) slot queue has = goes_on.directory slot queue has
queues_came first true now (rotated {was = w} {ended = ended} {begun = begun} before explained rotation goes_on) slot queue has =
    goes_on.directory slot queue
    (ap (λ (b : Brokered). slice_get b.directory slot) rotation.same ∙ queues_came first w ended before slot queue has)

-- What came of a broker by any acts, renewals among them.
use Rattle.std.proofs.Common.{◌≡◌, ◌∙◌, ℕ, Bool, true, false, ap, slice_get}
use Rattle.directory.specs.Directory.{Directory, HasQueue}
use Rattle.directory.specs.declared.queue.Queue.{Queue}
use Rattle.named.specs.Brokers.{Brokered}
use Rattle.named.specs.GoingOn.{BrokerGoesOn, CameOf}
use Rattle.named.specs.GoingOn.CameOf.{rotated, unrotated}
use Rattle.named.specs.Promises.{KeepsPromises}
use Rattle.named.specs.Renewing.{IsRenewedAt}
use Rattle.named.specs.Rotating.{IsRotated}
use Rattle.named.proofs.Facts.{came_further, came_of_itself, came_over_rotation, came_unrotated, queues_came}
use Rattle.workers.specs.Coming.{CameThrough}
use Rattle.workers.specs.Coming.CameThrough.{renewed, unrenewed}

pub through_itself : (b : Brokered) → CameThrough b false b
through_itself b = unrenewed (came_of_itself b)

pub through_further : (first : Brokered) (was : Bool) (now new : Brokered) → CameThrough first was now
    → BrokerGoesOn now new → CameThrough first was new
through_further first was now new (unrenewed came) on = unrenewed (came_further first was now new came on)
through_further first true now new (renewed {ended = e} {begun = b} before explained renewal came) on =
    renewed before explained renewal (came_further b e now new came on)

pub through_rotation : (first : Brokered) (was : Bool) (now new : Brokered) → CameThrough first was now
    → KeepsPromises now → IsRotated now new → CameThrough first true new
through_rotation first was now new (unrenewed came) explained rotation =
    unrenewed (came_over_rotation first was now new came explained rotation)
through_rotation first true now new (renewed {ended = e} {begun = b} before promises renewal came) explained rotation =
    renewed before promises renewal (came_over_rotation b e now new came explained rotation)

pub through_renewal : (first : Brokered) (was : Bool) (now new : Brokered) (slot : ℕ) → CameThrough first was now
    → KeepsPromises now → IsRenewedAt now new slot → CameThrough first true new
through_renewal first was now new slot before explained renewal =
    renewed before explained renewal (came_of_itself new)

pub through_unrotated : (first now : Brokered) → CameThrough first false now → BrokerGoesOn first now
through_unrotated first now (unrenewed came) = came_unrotated first now came

-- its queues are there still
pub queues_through : (first : Brokered) (was : Bool) (now : Brokered) → CameThrough first was now → (slot : ℕ)
    (queue : Queue) → HasQueue first.directory slot queue → HasQueue now.directory slot queue
queues_through first was now (unrenewed came) slot queue has = queues_came first was now came slot queue has
queues_through first true now (renewed {was = w} {ended = e} {old = o} {begun = b} before explained renewal came) slot queue has =
    queues_came b e now came slot queue
    (ap (λ (d : Directory). slice_get d slot) renewal.directory ∙ queues_through first w o before slot queue has)

-- and there are as many clients
counts_came : (first now : Brokered) (was : Bool) → CameOf first was now → now.counts ≡ first.counts
counts_came first now false (unrotated goes_on) = goes_on.counts
counts_came first now true (rotated {was = w} {ended = ended} {begun = begun} before explained rotation goes_on) =
    goes_on.counts ∙ ap (λ (b : Brokered). b.counts) rotation.same ∙ counts_came first ended w before

pub counts_through : (first now : Brokered) (was : Bool) → CameThrough first was now → now.counts ≡ first.counts
counts_through first now was (unrenewed came) = counts_came first now was came
counts_through first now true (renewed {was = w} {ended = e} {old = o} {begun = b} before explained renewal came) =
    counts_came b now e came ∙ renewal.counts ∙ counts_through first o w before

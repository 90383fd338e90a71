use Rattle.std.proofs.Common.{◌≡◌, true}
use Rattle.named.specs.Brokers.{is_down}
use Rattle.named.specs.Lasting.{steps_left}
use Rattle.opening.proofs.Recoveries.{IsRecovering}
use Rattle.opening.proofs.opening.recovered.Given as goal

-- the broker that began recovers
abbrev pub invariant-loop-broker : goal.invariant-loop-broker
invariant-loop-broker l = record { so_far : IsRecovering l.initial.broker l.broker; down : is_down l.broker ≡ true }

abbrev pub decreases-loop-broker : goal.decreases-loop-broker
decreases-loop-broker l = steps_left l.broker

use Rattle.std.proofs.Common.{◌≡◌, true}
use Rattle.workers.specs.Moments.{GoesOnLater}
use Rattle.workers.specs.Seen.{WasDown}
use Rattle.workers.proofs.shared.Shared.recover.Given as goal

-- once a step was made, the broker was down
abbrev pub invariant-loop : goal.invariant-loop
invariant-loop g l = record {
  later : GoesOnLater l.initial.marked l.marked;
  down : l.begun ≡ true → WasDown l.initial.marked l.marked;
}

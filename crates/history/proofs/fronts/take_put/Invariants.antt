use Rattle.std.proofs.Common.{◌≡◌}
use Rattle.history.specs.Fronts.{values_between}
use Rattle.history.proofs.fronts.take_put.Given as goal

-- the entries before it put nothing
abbrev pub invariant-loop-k : goal.invariant-loop-k
invariant-loop-k l =
    values_between l.events.items l.entries l.k l.to ≡ values_between l.events.items l.entries l.from l.to

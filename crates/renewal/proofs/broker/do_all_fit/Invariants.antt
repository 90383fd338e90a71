use Rattle.std.proofs.Common.{◌<◌, ℕ}
use Rattle.renewal.specs.Broker.{BlockFits}
use Rattle.renewal.proofs.broker.do_all_fit.Given as goal

-- those so far do
abbrev pub invariant-loop-slot : goal.invariant-loop-slot
invariant-loop-slot l = (slot : ℕ) → slot < l.slot → BlockFits l.to l.memory.words.kept slot

use Rattle.std.proofs.Common.{take}
use Rattle.prefixes.specs.Fates.{AreFatesOf}
use Rattle.prefixes.proofs.facts.fates.Given as goal

abbrev pub invariant-loop-i : goal.invariant-loop-i
invariant-loop-i l = AreFatesOf l.recording (take l.i l.steps) l.fates.items

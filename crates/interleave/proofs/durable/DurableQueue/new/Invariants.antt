use Rattle.std.proofs.Common.{◌≡◌, ◌-◌, ◌++◌, replicate}
use Rattle.words.specs.declared.told.Row.TheVariants.{NoCall}
use Rattle.words.specs.declared.told.Told.TheVariants.{None as told_none, Row as told_row}
use Rattle.interleave.proofs.durable.DurableQueue.new.Given as goal

abbrev pub invariant-loop-client : goal.invariant-loop-client
invariant-loop-client l = l.told ≡ replicate l.client (told_row NoCall) ++ replicate (16 - l.client) told_none

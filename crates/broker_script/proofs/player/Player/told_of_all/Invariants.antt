use Rattle.std.proofs.Common.{◌≡◌}
use Rattle.broker_script.specs.Recovering.{told_below}
use Rattle.broker_script.proofs.player.Player.told_of_all.Given as goal

-- those of the slots so far are told
abbrev pub invariant-loop-slot : goal.invariant-loop-slot
invariant-loop-slot l = l.lines.items ≡ told_below l.fn.self l.slot

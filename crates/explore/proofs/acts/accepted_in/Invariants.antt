use Rattle.std.proofs.Common.{◌≡◌, ◌++◌, drop}
use Rattle.explore.proofs.InOrder.{acts_along}
use Rattle.explore.proofs.acts.accepted_in.Given as goal

-- the acts so far, and those of the commands that are left, are all
abbrev pub invariant-loop-command : goal.invariant-loop-command
invariant-loop-command l =
    l.acts.items ++ acts_along l.world.now (drop l.command-index l.commands)
    ≡ acts_along l.fn.world.now l.commands

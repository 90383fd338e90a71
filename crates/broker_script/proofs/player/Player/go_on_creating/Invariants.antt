use Rattle.std.proofs.Common.{◌-◌}
use Rattle.broker_script.proofs.Going.{Leads}
use Rattle.broker_script.proofs.player.Player.go_on_creating.Given as goal

-- what is left of the steps comes to what all of them do
abbrev pub invariant-loop : goal.invariant-loop
invariant-loop l = Leads l.most (l.most - l.counter) l.fn.self l.self

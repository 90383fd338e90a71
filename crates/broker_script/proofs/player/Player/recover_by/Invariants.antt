use Rattle.std.proofs.Common.{◌≡◌, ◌-◌}
use Rattle.broker_script.proofs.Going.{StepsLead}
use Rattle.broker_script.proofs.player.Player.recover_by.Given as goal

-- what is left of the steps comes to what all of them do; before the first one nothing was made
abbrev pub invariant-loop-made : goal.invariant-loop-made
invariant-loop-made l =
    record {
      leads : StepsLead l.most (l.most - l.made) l.fn.self l.self;
      first : l.made ≡ 0 → l.self ≡ l.fn.self;
    }

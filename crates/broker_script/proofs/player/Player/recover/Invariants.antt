use Rattle.std.proofs.Common.{◌≡◌, false}
use Rattle.named.specs.Lasting.{steps_left}
use Rattle.broker_script.proofs.Going.{RecoveryLeads}
use Rattle.broker_script.proofs.player.Player.recover.Given as goal

-- what is left of the recovery comes to what all of it does; before the first step nothing was made
abbrev pub invariant-loop-refusal : goal.invariant-loop-refusal
invariant-loop-refusal l =
    record {
      leads : RecoveryLeads l.fn.self l.self;
      first : l.begun ≡ false → l.self ≡ l.fn.self;
    }

abbrev pub decreases-loop-refusal : goal.decreases-loop-refusal
decreases-loop-refusal l = steps_left l.self.broker

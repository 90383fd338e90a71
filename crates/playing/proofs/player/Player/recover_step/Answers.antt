use Rattle.std.proofs.Common.{rules, ◌≤◌, refl, subst}
use Rattle.interleave.specs.State.{steps_to_ready}
use Rattle.playing.specs.Play.{Play, most_recovery}
use Rattle.playing.proofs.player.Player.recover_step.Goals as goal

pub returns-else-ready-clause-going : goal.returns-else-ready-clause-going
unfolding most_recovery
returns-else-ready-clause-going c is =
    record {
      goes_on = search rules;
      same_lines = refl;
      next = search rules;
      few = subst (λ (p : Play). steps_to_ready p.world ≤ most_recovery p.world) c.self.view_is c.recover_step.ensures.few;
      falls = search rules;
      needs = search rules;
    }

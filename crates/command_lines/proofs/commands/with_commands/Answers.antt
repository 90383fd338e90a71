use Rattle.std.proofs.Common.{◌∙◌}
use Rattle.command_lines.proofs.Fold.{apps_step}
use Rattle.command_lines.proofs.commands.with_commands.Goals as goal

pub loop-subcommand-preserved : goal.loop-subcommand-preserved
loop-subcommand-preserved c = apps_step _ _ _ _ _ _ c.loop-subcommand-test.true c.in_ok-command.ensures.app
    (c.in_ok-command-2.ensures.shape c.in_ok-command.ensures.local) ∙ c.loop-subcommand.invariant

use Rattle.std.proofs.Common.{◌∙◌, rules}
use Rattle.command_lines.proofs.Fold.{rules_step}
use Rattle.command_lines.proofs.commands.with_taken.Goals as goal

pub loop-described-preserved : goal.loop-described-preserved
loop-described-preserved c = record {
  app = rules_step _ _ _ _ _ _ c.loop-described-test.true c.arg.ensures.rule (c.in_ok-command.ensures.shape c.arg.ensures.local)
      ∙ c.loop-described.invariant.app;
  local = search rules;
}

use Rattle.interleave.specs.Calls.{is_no_memory}
use Rattle.script_reports.proofs.Held.{held_after_start}
use Rattle.script_reports.proofs.stage.start.Goals as goal

pub returns-clause-holds : goal.returns-clause-holds
returns-clause-holds c =
    held_after_start (is_no_memory c.start.result) c.args.core.now c.start.new.self c.args.memory.now c.start.new.memory
    c.args.client c.args.number c.args.call c.requires c.start.ensures.lent c.start.ensures.holds c.start.ensures.by_rule.leaves

pub returns-in_err-start-clause-holds : goal.returns-in_err-start-clause-holds
returns-in_err-start-clause-holds c =
    held_after_start (is_no_memory c.start.result) c.args.core.now c.start.new.self c.args.memory.now c.start.new.memory
    c.args.client c.args.number c.args.call c.requires c.start.ensures.lent c.start.ensures.holds c.start.ensures.by_rule.leaves

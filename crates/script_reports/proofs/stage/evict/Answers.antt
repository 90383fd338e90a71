use Rattle.script_reports.proofs.Held.{held_after_evict}
use Rattle.script_reports.proofs.stage.evict.Goals as goal

pub returns-clause-holds : goal.returns-clause-holds
returns-clause-holds c =
    held_after_evict c.args.core.now c.evict.new.self c.args.memory.now c.evict.new.memory c.args.word c.requires
    c.evict.ensures.lent c.evict.ensures.holds c.evict.ensures.by_rule.leaves

pub returns-in_err-evict-clause-holds : goal.returns-in_err-evict-clause-holds
returns-in_err-evict-clause-holds c =
    held_after_evict c.args.core.now c.evict.new.self c.args.memory.now c.evict.new.memory c.args.word c.requires
    c.evict.ensures.lent c.evict.ensures.holds c.evict.ensures.by_rule.leaves

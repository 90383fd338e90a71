use Rattle.std.proofs.Common.{rules, arith, ◌-◌}
use Rattle.workers.proofs.lists.LastCalls.{last_is_open, with_end_written}
use Rattle.workers.proofs.entry.end_last.Goals as goal

pub returns : goal.returns
returns c =
    let last = last_is_open c.args.list.now.items c.requires in
    let list = c.args.list.now.items in
    let at = c.len-last.result - 1 in
    with_end_written c.args.end list at c.index-entry.result.now (omega (arith, last.length_is, c.len-last.ensures))
    (search rules)

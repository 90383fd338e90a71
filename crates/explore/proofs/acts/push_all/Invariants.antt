use Rattle.std.proofs.Common.{◌≡◌, ◌-◌, ◌++◌, replicate}
use Rattle.explore.proofs.acts.push_all.Given as goal

-- the times that are left make up all of them
abbrev pub invariant-loop : goal.invariant-loop
invariant-loop l = l.acts.items ++ replicate (l.times - l.counter) l.act ≡ l.fn.acts.items ++ replicate l.times l.act

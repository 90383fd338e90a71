use Rattle.std.proofs.Common.{◌≡◌, ◌++◌, map}
use Rattle.std.specs.List.{range_with_len}
use Rattle.renewal.specs.Roles.{item_record}
use Rattle.renewal.proofs.renewal.Renewal.add_waiting.Given as goal

abbrev pub invariant-loop-at : goal.invariant-loop-at
invariant-loop-at l = l.nodes.items ≡ l.fn.nodes.items ++ map (item_record l.self.shape) (range_with_len 0 l.at)

use Rattle.std.proofs.Common.{◌≡◌, ◌++◌, map, filter}
use Rattle.std.specs.List.{range_with_len}
use Rattle.renewal.specs.Renewed.{has_node}
use Rattle.renewal.specs.Roles.{first_record}
use Rattle.renewal.proofs.renewal.Renewal.add_removed.Given as goal

abbrev pub invariant-loop-client : goal.invariant-loop-client
invariant-loop-client l =
    l.nodes.items ≡ l.fn.nodes.items ++ map (first_record l.self.shape) (filter (has_node l.self) (range_with_len 0 l.client))

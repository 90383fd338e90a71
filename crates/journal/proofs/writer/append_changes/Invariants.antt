use Rattle.std.proofs.Common.{◌≡◌, ◌^◌, ◌<◌, ◌++◌, take}
use Rattle.std.specs.Prelude.{All}
use Rattle.std.specs.List.{flat_map}
use Rattle.journal.specs.Frame.{change_bytes}
use Rattle.journal.proofs.writer.append_changes.Given as goal

-- the changes so far
abbrev pub invariant-loop-change : goal.invariant-loop-change
invariant-loop-change l = record {
  bytes : l.out.items ≡ l.fn.out.items ++ flat_map change_bytes (take l.change-index l.changes);
  values : All (λ change. change.new < 2 ^ 64) (take l.change-index l.changes);
}

-- A dequeue that looks for a node to take.
use Rattle.std.specs.Prelude.{Bool, true, false, ◌==◌}
use Rattle.helping.specs.declared.op.Op.{Op}
use Rattle.helping.specs.declared.op.Op.TheVariants.{DequeueLoadNext, DequeueCheckHead}

-- whether its next step loads the link of the head
abbrev pub is_look : Op → Bool
is_look (DequeueLoadNext p) = true
is_look _ = false

-- whether that was 0
abbrev pub found_no_node : Op → Bool
found_no_node (DequeueCheckHead p) = p.next.0 == 0
found_no_node _ = false

use Rattle.std.proofs.Common.{◌≡◌, ◌≤◌, length, take}
use Rattle.grammar.specs.Lines.{lines_of}
use Rattle.broker_lines.specs.Script.{Says}
use Rattle.grammar.specs.declared.limits.TheConstants.{MAX_LINES}
use Rattle.broker_script.proofs.parser.parse_script.Given as goal

-- the lines so far say the script so far
abbrev pub invariant-loop-line : goal.invariant-loop-line
invariant-loop-line l = record {
  can_next : (goal.iterator-loop-line).can_next l.line-iterator;
  is_finite : (goal.iterator-loop-line).is_finite l.line-iterator;
  count : l.number ≡ length l.yielded;
  few : l.number ≤ MAX_LINES;
  says : Says (take (length l.yielded) (lines_of l.text)) l.broker l.statements.items;
}

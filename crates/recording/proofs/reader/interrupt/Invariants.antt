use Rattle.std.proofs.Common.{◌≡◌, ◌++◌, map, take, drop}
use Rattle.recording.specs.Reading.{crashed}
use Rattle.recording.proofs.reader.interrupt.Given as goal

abbrev pub invariant-loop-state : goal.invariant-loop-state
invariant-loop-state l =
    l.states ≡ map crashed (take l.state-index l.initial.states) ++ drop l.state-index l.initial.states

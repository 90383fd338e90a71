use Rattle.std.proofs.Common.{◌≡◌, length}
use Rattle.journal.specs.Reading.{replay}
use Rattle.journal.proofs.replay.replay_frames.Given as goal

-- what is left gives what the whole gives
abbrev pub invariant-loop-frame : goal.invariant-loop-frame
invariant-loop-frame l = replay l.key l.before l.words l.rest ≡ replay l.fn.key l.fn.sum l.fn.words l.fn.bytes

abbrev pub decreases-loop-frame : goal.decreases-loop-frame
decreases-loop-frame l = length l.rest

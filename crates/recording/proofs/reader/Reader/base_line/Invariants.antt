use Rattle.std.proofs.Common.{◌≡◌, take}
use Rattle.recording.specs.Reading.{with_base}
use Rattle.recording.specs.Reader.{read_of}
use Rattle.recording.proofs.reader.Reader.base_line.Given as goal

abbrev pub invariant-loop-value : goal.invariant-loop-value
invariant-loop-value l = read_of l.self ≡ with_base (read_of l.fn.self) (take l.value-index l.values) l.at

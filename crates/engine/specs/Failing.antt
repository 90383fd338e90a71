-- Replies that are not sent, and the input of which they are.
use Rattle.engine.specs.declared.output.Unsent.{Unsent}
use Rattle.engine.specs.declared.output.Unsent.TheVariants as unsent
use Rattle.engine.specs.declared.failure.Failure.{Failure}
use Rattle.engine.specs.declared.failure.Failure.TheVariants as failure

-- the input is not served to its end for the same reason
abbrev pub failure_of : Unsent → Failure
failure_of unsent.NotKept = failure.NotKept
failure_of unsent.WriteFailed = failure.WriteFailed

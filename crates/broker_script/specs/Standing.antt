-- What stays of a broker that follows a script.
use Rattle.std.specs.Prelude.{ℕ, Bool, true, false}
use Rattle.directory.specs.Directory.{Directory, HasQueue}
use Rattle.directory.specs.declared.queue.Queue.{Queue}
use Rattle.broker_lines.specs.declared.statements.Statement.{Statement}
use Rattle.broker_lines.specs.declared.statements.Statement.TheVariants.{Boot}

-- each queue that there was is there: in its slot, under its name, and of its kind
abbrev pub QueuesStay : Directory → Directory → Type 0
QueuesStay old new = (slot : ℕ) (queue : Queue) → HasQueue old slot queue → HasQueue new slot queue

-- whether they do over a line, whatever comes of it: where a broker begins on an image it has the image's queues
abbrev pub keeps_queues : Statement → Bool
keeps_queues Boot = false
keeps_queues _ = true

use Rattle.std.proofs.Common.{ap}
use Rattle.chronicle.specs.Chronicled.{entries}
use Rattle.serving.proofs.lasting_desk.LastingDeskDesk.settle.Goals as goal

pub returns-in-Err-clause-served : goal.returns-in-Err-clause-served
returns-in-Err-clause-served g c = ap entries c.mark-marked.ensures.served

use Rattle.protocol.proofs.runs.RunsTold.{still_tells}
use Rattle.protocol.proofs.laws.recovery_changes_nothing_told.Goals as goal

pub returns : goal.returns
returns c = still_tells

use Rattle.protocol.proofs.runs.RunsTold.{still_holds}
use Rattle.protocol.proofs.laws.recovery_changes_nothing_held.Goals as goal

pub returns : goal.returns
returns c = still_holds

use Rattle.protocol.proofs.runs.RunsEnd.{no_node_twice}
use Rattle.protocol.proofs.laws.no_node_stands_twice.Goals as goal

pub returns : goal.returns
returns c = no_node_twice

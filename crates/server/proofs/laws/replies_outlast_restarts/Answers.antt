use Rattle.server.proofs.Held.{replies_held}
use Rattle.server.proofs.laws.replies_outlast_restarts.Goals as goal

pub returns : goal.returns
returns c = replies_held

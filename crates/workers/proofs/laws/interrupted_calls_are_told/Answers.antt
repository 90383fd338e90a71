use Rattle.workers.proofs.lists.Tellings.{answered_taken, interrupted_told, plain_fits}
use Rattle.workers.proofs.laws.interrupted_calls_are_told.Goals as goal

pub returns-clause-interrupted : goal.returns-clause-interrupted
returns-clause-interrupted c = λ since s client list keeps recorded w place call log.
    interrupted_told since s client list call.slot place w keeps recorded call.here call.has log call.ended

pub returns-clause-answered : goal.returns-clause-answered
returns-clause-answered c = λ since s client list keeps recorded w place reply call.
    answered_taken since s client list call.slot place w keeps recorded call.here call.has reply call.ended

pub returns-clause-plain : goal.returns-clause-plain
returns-clause-plain c = λ since s client list keeps recorded.
    plain_fits since s client list keeps recorded

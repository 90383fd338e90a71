use Rattle.interleave.proofs.runs.AloneEnds.{answers_soon}
use Rattle.interleave.proofs.runs.AloneReplies.{served_alone}
use Rattle.interleave.proofs.laws.calls_alone_are_served.Goals as goal

pub returns-clause-answered : goal.returns-clause-answered
returns-clause-answered c = answers_soon

pub returns-clause-served : goal.returns-clause-served
returns-clause-served c =
    λ w client steps reply holds answered call turn. served_alone w client holds steps reply answered call turn

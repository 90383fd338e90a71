use Rattle.std.proofs.Common.{ap, sym}
use Rattle.playing.specs.Play.{most_alone}
use Rattle.broker_points.specs.Acts.{steps_of}
use Rattle.broker_points.proofs.acts.steps_of.Goals as goal

pub returns-in-Request : goal.returns-in-Request
unfolding most_alone
returns-in-Request c = sym (ap steps_of c.in-Request.is)

pub returns-in-Plain : goal.returns-in-Plain
unfolding most_alone
returns-in-Plain c = sym (ap steps_of c.in-Plain.is)

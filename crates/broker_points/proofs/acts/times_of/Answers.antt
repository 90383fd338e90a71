use Rattle.std.proofs.Common.{ap, sym}
use Rattle.playing.specs.Play.{most_alone}
use Rattle.broker_points.specs.Acts.{most_recovery, times_of}
use Rattle.broker_points.proofs.acts.times_of.Goals as goal

pub returns-in-End : goal.returns-in-End
unfolding most_alone
returns-in-End c = sym (ap times_of c.in-End.is)

pub returns-in-Recover : goal.returns-in-Recover
unfolding most_recovery
returns-in-Recover c = sym (ap times_of c.in-Recover.is)

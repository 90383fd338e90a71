use Rattle.session.proofs.downtime.Uncalled.{uncalled_alike, uncalled_booted, uncalled_created, uncalled_durable}
use Rattle.session.proofs.downtime.Uncalled.{uncalled_evicted, uncalled_new, uncalled_recovered, uncalled_rotated}
use Rattle.session.proofs.downtime.Uncalled.{uncalled_stopped}
use Rattle.session.proofs.laws.uncalled_brokers.Goals as goal

pub returns-clause-new : goal.returns-clause-new
returns-clause-new c = uncalled_new

pub returns-clause-booted : goal.returns-clause-booted
returns-clause-booted c = uncalled_booted

pub returns-clause-stopped : goal.returns-clause-stopped
returns-clause-stopped c = uncalled_stopped

pub returns-clause-recovered : goal.returns-clause-recovered
returns-clause-recovered c = λ old new result well is step. uncalled_recovered old new well is result step

pub returns-clause-rotated : goal.returns-clause-rotated
returns-clause-rotated c = uncalled_rotated

pub returns-clause-created : goal.returns-clause-created
returns-clause-created c = uncalled_created

pub returns-clause-evicted : goal.returns-clause-evicted
returns-clause-evicted c = uncalled_evicted

pub returns-clause-durable : goal.returns-clause-durable
returns-clause-durable c = uncalled_durable

pub returns-clause-alike : goal.returns-clause-alike
returns-clause-alike c = uncalled_alike

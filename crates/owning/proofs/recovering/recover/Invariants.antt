use Rattle.named.specs.Lasting.{steps_left}
use Rattle.owning.specs.Serving.{GoesOnRight}
use Rattle.owning.proofs.Recoveries.{HasCome}
use Rattle.owning.proofs.recovering.recover.Given as goal

abbrev pub invariant-loop : goal.invariant-loop
invariant-loop l = record {
  come : HasCome l.initial.session l.session;
  on : GoesOnRight l.initial.session l.session;
}

abbrev pub decreases-loop : goal.decreases-loop
decreases-loop l = steps_left l.session.broker

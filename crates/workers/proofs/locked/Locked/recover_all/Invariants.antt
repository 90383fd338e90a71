use Rattle.std.proofs.Common.{◌≡◌, ◌+◌, None, true}
use Rattle.named.specs.GoingOn.{BrokerGoesOn}
use Rattle.named.specs.Lasting.{steps_left}
use Rattle.workers.specs.Noting.{HasPromised}
use Rattle.workers.specs.Renewing.{HasRoomToRecover}
use Rattle.workers.proofs.locked.Locked.recover_all.Given as goal

abbrev pub invariant-loop-ready : goal.invariant-loop-ready
invariant-loop-ready g l = record {
  goes_on : BrokerGoesOn l.initial.self.session.broker l.self.session.broker;
  room : HasRoomToRecover l.self.session.broker;
  promised : HasPromised (steps_left l.self.session.broker + 1) l.self.promised;
  over : l.ready ≡ true → l.self.session.broker.recovery ≡ None;
}

abbrev pub decreases-loop-ready : goal.decreases-loop-ready
decreases-loop-ready g l = steps_left l.self.session.broker

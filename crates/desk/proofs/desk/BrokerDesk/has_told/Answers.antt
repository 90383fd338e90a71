use Rattle.std.proofs.Common.{subst}
use Rattle.desk.specs.Serving.{IsServed, Served}
use Rattle.desk.proofs.desk.BrokerDesk.has_told.Goals as goal

pub returns : goal.returns
returns g c = record {
  turn = (subst (λ (d : Served). IsServed g.J.Naming.clients g.J.Naming.first d) c.self.view_is c.self.invariant).turn;
}

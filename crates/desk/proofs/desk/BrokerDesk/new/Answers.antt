use Rattle.std.proofs.Common.{sym, ap}
use Rattle.desk.proofs.Turns.{turn_begun}
use Rattle.desk.specs.Serving.{has_stopped}
use Rattle.desk.proofs.desk.BrokerDesk.new.Goals as goal

pub invariant_of-result : goal.invariant_of-result
invariant_of-result g c = record {
  turn = turn_begun g.J.Naming.clients g.J.Naming.first c.mark_now-marked.result _ c.new.result.marked
      c.mark_now-marked.ensures.moment.goes_on c.in_ok-served.ensures c.new.ensures;
  stops = sym (ap has_stopped c.in_ok-served.ensures);
}

use Rattle.std.proofs.lemmas.Result.{on_ok_weaker}
use Rattle.gauges.proofs.Pieces.{four}
use Rattle.gauges.proofs.samples.append_broker.Goals as goal

pub returns : goal.returns
returns c =
    let ready = rw c.flag.ensures at c.in_ok-append_gauge.ensures in
    on_ok_weaker c.append_queues-3.result
    (λ h. four _ _ _ _ _ _ _ _ _ ready c.in_ok-append_queues.ensures c.in_ok-append_queues-2.ensures h) c.append_queues-3.ensures

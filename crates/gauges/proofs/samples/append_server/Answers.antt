use Rattle.std.proofs.lemmas.Result.{on_ok_weaker}
use Rattle.gauges.proofs.Pieces.{four}
use Rattle.gauges.proofs.samples.append_server.Goals as goal

pub returns : goal.returns
returns c = on_ok_weaker c.append_counter.result
    (λ h. four _ _ _ _ _ _ _ _ _ c.in_ok-append_gauge.ensures c.in_ok-append_gauge-2.ensures c.in_ok-append_gauge-3.ensures h) c.append_counter.ensures

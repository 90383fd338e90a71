use Rattle.std.proofs.lemmas.Result.{on_ok_weaker}
use Rattle.gauges.specs.Samples.{counts_samples}
use Rattle.gauges.proofs.Pieces.{four}
use Rattle.gauges.proofs.samples.append_counts.Goals as goal

pub returns : goal.returns
unfolding counts_samples
returns c = on_ok_weaker c.append_counter-2.result
    (λ h. four _ _ _ _ _ _ _ _ _ c.in_ok-append_gauge.ensures c.in_ok-append_gauge-2.ensures c.in_ok-append_counter.ensures h) c.append_counter-2.ensures

use Rattle.std.proofs.Common.{length, ap, ◌∙◌}
use Rattle.std.proofs.lemmas.List.{length-replicate}
use Rattle.persist.specs.Memory.{Words}
use Rattle.explore.proofs.stop.Probe.new.Goals as goal

pub returns-clause-size : goal.returns-clause-size
returns-clause-size c =
    ap (λ (m : Words). length m.kept) c.in_ok-copy.ensures.made ∙ length-replicate c.size.result 0 ∙ c.size.ensures.value

use Rattle.std.proofs.Common.{ap, ◌∙◌}
use Rattle.interleave.specs.Core.{CoreState, state_of}
use Rattle.interleave.specs.State.{after_stop}
use Rattle.interleave.proofs.lent.Core.crash.Goals as goal

pub returns-clause-stopped : goal.returns-clause-stopped
returns-clause-stopped c = λ made ws.
    c.stop.ensures.stopped ws ∙ ap (λ (k : CoreState). after_stop (state_of k ws)) c.reserve.ensures.same

use Rattle.std.proofs.Common.{None, slice_set, ap, ◌∙◌}
use Rattle.persist.specs.Memory.{MemoryState}
use Rattle.persist.proofs.Requests.{others_left}
use Rattle.persist.proofs.memory.Memory.complete.Goals as goal

pub returns-clause-others : goal.returns-clause-others
returns-clause-others c =
    ap (λ (m : MemoryState). slice_set m.asked c.args.port None) c.keep.ensures.kept
    ∙ others_left c.self.inside.requests c.args.port None
    ∙ ap (λ (m : MemoryState). slice_set m.asked c.args.port None) c.self.view_is

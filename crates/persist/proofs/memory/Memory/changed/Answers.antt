use Rattle.std.proofs.Common.{length, ap, ◌∙◌}
use Rattle.persist.specs.Memory.{MemoryState}
use Rattle.persist.specs.Changes.{differences}
use Rattle.persist.proofs.Sound.{listed_differences}
use Rattle.persist.proofs.memory.Memory.changed.Goals as goal

pub returns : goal.returns
returns c = c.len.ensures ∙ ap length (listed_differences c.self.inside.kept.items c.self.inside.changes c.self.invariant.words)
    ∙ ap (λ (m : MemoryState). length (differences m.words.cached m.words.kept)) c.self.view_is

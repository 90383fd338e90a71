use Rattle.std.proofs.Common.{ap, ◌∙◌}
use Rattle.persist.specs.Memory.{MemoryState}
use Rattle.persist.specs.Changes.{differences}
use Rattle.persist.proofs.Sound.{listed_differences}
use Rattle.persist.proofs.memory.Memory.changes.Goals as goal

pub returns : goal.returns
returns c = c.entries.ensures ∙ listed_differences c.self.inside.kept.items c.self.inside.changes c.self.invariant.words
    ∙ ap (λ (m : MemoryState). differences m.words.cached m.words.kept) c.self.view_is

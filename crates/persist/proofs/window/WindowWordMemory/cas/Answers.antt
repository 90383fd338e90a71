use Rattle.std.proofs.Common.{arith}
use Rattle.persist.specs.Memory.{Cas}
use Rattle.persist.proofs.Parts.{part_after}
use Rattle.persist.proofs.window.WindowWordMemory.cas.Goals as goal

pub returns-clause-done : goal.returns-clause-done
returns-clause-done c = λ h. rw (c.cas.ensures.done (omega (arith, c.args.self.now.inside))) (part_after c.args.self.now.from c.args.self.now.len (Cas c.args.word c.args.old c.args.new) c.args.self.now.memory.now.words c.if-word-self.false)

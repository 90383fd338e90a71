use Rattle.std.proofs.Common.{arith}
use Rattle.persist.specs.Memory.{Store}
use Rattle.persist.proofs.Parts.{part_after}
use Rattle.persist.proofs.window.WindowWordMemory.store.Goals as goal

pub returns-clause-done : goal.returns-clause-done
returns-clause-done c = λ h. rw (c.store.ensures.done (omega (arith, c.args.self.now.inside))) (part_after c.args.self.now.from c.args.self.now.len (Store c.args.word c.args.value) c.args.self.now.memory.now.words c.if-word-self.false)

use Rattle.persist.specs.Memory.{words_in}
use Rattle.named.proofs.block.Block.new.Goals as goal

pub returns-clause-state : goal.returns-clause-state
returns-clause-state c = λ ws. c.new.ensures.world (words_in c.args.from c.args.len ws)

pub returns-clause-well : goal.returns-clause-well
returns-clause-well c = λ ws some inside ports unused.
    record { some = some; inside = inside; ports = ports; holds = c.new.ensures.holds (words_in c.args.from c.args.len ws) unused }

use Rattle.std.proofs.Common.{subst}
use Rattle.named.specs.Rotating.{IsQuietIn}
use Rattle.named.proofs.histories.Rotations.{for_memory}
use Rattle.named.proofs.slot.Slot.prepare_rotation.Goals as goal

pub returns-in-Open-clause-errors : goal.returns-in-Open-clause-errors
returns-in-Open-clause-errors c =
    let quiet = subst IsQuietIn c.in-Open.is c.requires.quiet in
    for_memory c.prepare_rotation.result c.args.memory.now.words c.in-Open.block quiet.0 quiet.1 (c.prepare_rotation.ensures.errors c.args.memory.now.words)

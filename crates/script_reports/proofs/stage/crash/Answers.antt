use Rattle.std.proofs.Common.{refl, ap, ◌∙◌}
use Rattle.persist.specs.Memory.{Words}
use Rattle.interleave.specs.Core.{state_of}
use Rattle.interleave.proofs.Facts.{room_held}
use Rattle.script_reports.proofs.Held.{held_after_crash}
use Rattle.script_reports.proofs.stage.crash.Goals as goal

pub crash-requires : goal.crash-requires
crash-requires c = room_held c.requires.world

pub returns-clause-left : goal.returns-clause-left
returns-clause-left c =
    ap (λ (m : Words). state_of c.crash.new.self m) c.crash-2.ensures.words
    ∙ c.in_ok-crash.ensures.stopped refl c.args.memory.now.words

pub returns-clause-holds : goal.returns-clause-holds
returns-clause-holds c =
    held_after_crash c.args.core.now c.crash.new.self c.args.memory.now c.crash-2.new.self c.requires (returns-clause-left c)

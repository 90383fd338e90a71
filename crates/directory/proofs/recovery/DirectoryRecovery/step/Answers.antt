use Rattle.std.proofs.Common.{◌∙◌}
use Rattle.directory.proofs.Recoveries.{kind_step}
use Rattle.directory.proofs.recovery.DirectoryRecovery.step.Goals as goal

pub returns-in-LoadKind-clause-next : goal.returns-in-LoadKind-clause-next
returns-in-LoadKind-clause-next g c =
    c.past_kind.ensures
    ∙ kind_step c.args.layout.now (g.M.WordMemory.words c.args.memory.now) c.args.self c.in-LoadKind.slot c.in-LoadKind.first
    c.in-LoadKind.second c.load_at-kind.result c.in-LoadKind.is c.load_at-kind.ensures.value

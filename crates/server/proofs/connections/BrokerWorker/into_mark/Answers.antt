use Rattle.std.proofs.Common.{◌∙◌, sym}
use Rattle.chronicle.specs.Chronicled.{entries}
use Rattle.server.proofs.Endings.{not_unmarked}
use Rattle.server.proofs.connections.BrokerWorker.into_mark.Goals as goal

pub unreachable-requires : goal.unreachable-requires
unreachable-requires g c =
    let desk = c.into_desk-desk.result in
    not_unmarked g.J.Naming.clients g.J.Naming.first (entries desk.served) desk.marked c.has_told.ensures.turn
    (sym c.into_mark.ensures ∙ c.in-None.is)

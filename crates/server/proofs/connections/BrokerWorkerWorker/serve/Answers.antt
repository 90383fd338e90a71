use Rattle.server.specs.Worked.{socket_reader, socket_writer}
use Rattle.server.specs.Worked.AreTurns.{one_more}
use Rattle.server.proofs.Pipes.{tells_by}
use Rattle.server.proofs.connections.BrokerWorkerWorker.serve.Goals as goal

pub invariant_of-self : goal.invariant_of-self
invariant_of-self g c =
    let served = c.connection in
    let e = served.ensures in
    let old = c.self.inside.desk.desk.served in
    let new = served.new.desk.desk.served in
    one_more c.self.invariant served.result
    (tells_by socket_reader socket_writer old new served.result tt tt tt tt e.served e.flushed e.read_failed
    e.write_failed (λ is. absurd (e.kept is)))

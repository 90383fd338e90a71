use Rattle.std.proofs.Common.{sym, subst}
use Rattle.directory.specs.Directory.{IsDirectory}
use Rattle.named.specs.Brokers.{Brokered}
use Rattle.workers.specs.Coming.{CameThrough}
use Rattle.workers.proofs.seats.QueuesSeen.{listed_still}
use Rattle.workers.proofs.locked.Locked.places.Goals as goal

pub returns-clause-queues : goal.returns-clause-queues
returns-clause-queues g c =
    let first = g.J.Naming.first.broker in
    let well = c.self.invariant.1 in
    let same = sym c.broker.ensures.broker in
    let came = subst (λ (b : Brokered). CameThrough first c.self.inside.rotated b) same well.came in
    let listed = subst (λ (b : Brokered). IsDirectory b.directory) same well.promises.broker.well.listed in
    rw c.copy_of.ensures
    (rw c.in_ok-list.ensures.places
    (listed_still first c.broker.result.now c.self.inside.rotated came well.beginning.promises.broker.well.listed listed))

use Rattle.std.proofs.Common.{sym, subst}
use Rattle.directory.specs.Directory.{IsDirectory}
use Rattle.named.specs.Brokers.{Brokered}
use Rattle.workers.specs.Coming.{CameThrough}
use Rattle.workers.proofs.seats.QueuesSeen.{found_in}
use Rattle.workers.proofs.locked.Locked.find.Goals as goal

pub returns-clause-found : goal.returns-clause-found
returns-clause-found g c =
    let first = g.J.Naming.first.broker in
    let well = c.self.invariant.1 in
    let same = sym c.broker.ensures.broker in
    let came = subst (λ (b : Brokered). CameThrough first c.self.inside.rotated b) same well.came in
    let listed = subst (λ (b : Brokered). IsDirectory b.directory) same well.promises.broker.well.listed in
    found_in first c.broker.result.now c.self.inside.rotated came well.beginning.promises.broker.well.listed listed
    c.args.name.now c.find.result c.find.ensures.found c.find.ensures.none

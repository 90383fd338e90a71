use Rattle.std.proofs.Common.{List, Option, subst, sym, ℕ}
use Rattle.workers.proofs.Facts.{later_itself}
use Rattle.desk.specs.Answering.{IsTellingIn}
use Rattle.desk.proofs.Calling.{below, told_of}
use Rattle.desk.proofs.counter.Counter.told.Goals as goal

pub returns-in_default-clause-later : goal.returns-in_default-clause-later
returns-in_default-clause-later g c = later_itself c.args.before

pub returns-clause-is : goal.returns-clause-is
returns-clause-is g c =
    let client = c.in-Some.client in
    let now = c.told.result.0.broker in
    told_of g.J.Naming.clients c.args.number client c.in-Some.ensures.number
    (below g.J.Naming.clients c.args.number c.client.result client c.in-Some.is c.client.ensures.none)
    now c.args.queue c.told.result.1
    (subst (λ (q : Option (List ℕ)). IsTellingIn now client q c.told.result.1) (sym c.in-Some-queue.is)
    c.told.ensures.telling)

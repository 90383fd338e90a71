use Rattle.std.proofs.Common.{subst}
use Rattle.lasting.specs.Lasting.{Assures, Kept}
use Rattle.workers.specs.Moments.{GoesOnLater}
use Rattle.lasting.proofs.Moments.{kept_assures, kept_heard}
use Rattle.lasting.proofs.journaled.Journaled.hears.Goals as goal

pub returns-clause-sure : goal.returns-clause-sure
returns-clause-sure g c =
    let old : Kept = record {
      policy = c.self.inside.policy;
      handed = c.self.inside.handed.changes;
      last = c.self.inside.handed.last;
      pending = c.self.inside.pending.items;
      journal = c.self.inside.journal;
      assured = c.self.inside.handed.assured;
    } in
    subst (λ (k : Kept). Assures g.J.Naming.first k.policy c.args.assured k.journal) c.self.view_is
    (kept_assures g.J.Naming.first old c.args.assured c.self.invariant c.hears-handed.ensures.heard)

pub returns-clause-last : goal.returns-clause-last
returns-clause-last g c =
    let old : Kept = record {
      policy = c.self.inside.policy;
      handed = c.self.inside.handed.changes;
      last = c.self.inside.handed.last;
      pending = c.self.inside.pending.items;
      journal = c.self.inside.journal;
      assured = c.self.inside.handed.assured;
    } in
    subst (λ (k : Kept). GoesOnLater c.args.assured k.last) c.self.view_is
    (kept_heard g.J.Naming.first old c.args.assured c.self.invariant c.hears-handed.ensures.heard)

use Rattle.lasting.specs.Lasting.{Kept}
use Rattle.lasting.proofs.Moments.{kept_confirmed}
use Rattle.lasting.proofs.journaled.Journaled.confirm.Goals as goal

pub invariant_of-self : goal.invariant_of-self
invariant_of-self g c =
    let old : Kept = record {
      policy = c.self.inside.policy;
      handed = c.self.inside.handed.changes;
      last = c.self.inside.handed.last;
      pending = c.self.inside.pending.items;
      journal = c.self.inside.journal;
      assured = c.self.inside.handed.assured;
    } in
    kept_confirmed g.J.Naming.first old c.confirm.new.self c.confirm.result c.self.invariant c.confirm.ensures.same
    c.confirm.ensures.no_more c.confirm.ensures.words

use Rattle.lasting.specs.Lasting.{Kept}
use Rattle.lasting.proofs.Moments.{kept_keeping}
use Rattle.lasting.proofs.journaled.Journaled.keep.Goals as goal

pub invariant_of-self : goal.invariant_of-self
invariant_of-self g c =
    let old : Kept = record {
      policy = c.self.inside.policy;
      handed = c.self.inside.handed.changes;
      last = c.self.inside.handed.last;
      pending = c.self.inside.pending.items;
      journal = c.self.inside.journal;
      assured = c.self.inside.handed.assured;
    } in
    kept_keeping g.J.Naming.first old c.keep.new.self c.keep.result c.self.invariant c.keep.ensures.journal
    c.keep.ensures.no_more c.keep.ensures.words

use Rattle.lasting.specs.Lasting.{Kept}
use Rattle.lasting.proofs.Moments.{kept_compacting}
use Rattle.lasting.proofs.journaled.Journaled.compact.Goals as goal

pub invariant_of-self : goal.invariant_of-self
invariant_of-self g c =
    let old : Kept = record {
      policy = c.self.inside.policy;
      handed = c.self.inside.handed.changes;
      last = c.self.inside.handed.last;
      pending = c.self.inside.pending.items;
      journal = c.self.inside.journal;
      assured = c.self.inside.handed.assured;
    } in
    kept_compacting g.J.Naming.first old c.args.key.now c.compact.new.self c.compact.result c.self.invariant
    c.compact.ensures.journal c.compact.ensures.no_more c.compact.ensures.words

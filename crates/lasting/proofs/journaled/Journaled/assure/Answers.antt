use Rattle.std.proofs.Common.{sym, subst, ap, ◌∙◌}
use Rattle.workers.specs.Moments.{GoesOnLater, HandedOn}
use Rattle.lasting.specs.Lasting.{IsKept, IsKeptBy, Kept}
use Rattle.lasting.proofs.Moments.{kept_assured}
use Rattle.lasting.proofs.journaled.Journaled.assure.Goals as goal

pub invariant_of-journaled : goal.invariant_of-journaled
invariant_of-journaled g c =
    let old : Kept = record {
      policy = c.self.inside.policy;
      handed = c.self.inside.handed.changes;
      last = c.self.inside.handed.last;
      pending = c.self.inside.pending.items;
      journal = c.self.inside.journal;
      assured = c.self.inside.handed.assured;
    } in
    let is = sym c.self.view_is in
    subst (λ (h : HandedOn). IsKept g.J.Naming.first (record {
      policy = c.self.inside.policy;
      handed = h.changes;
      last = h.last;
      pending = c.self.inside.pending.items;
      journal = c.self.inside.journal;
      assured = h.assured;
    })) (sym c.assure-handed.ensures.handed)
    (kept_assured g.J.Naming.first old c.args.marked.now c.self.invariant
    (ap (λ (k : Kept). k.pending) c.self.view_is ∙ c.requires.all)
    (subst (λ (k : Kept). IsKeptBy k.policy k.journal) is c.requires.kept)
    (subst (λ (k : Kept). GoesOnLater c.args.marked.now k.last) is c.requires.later))

use Rattle.lasting.specs.Lasting.{Kept}
use Rattle.lasting.proofs.Moments.{kept_appended, kept_no_more}
use Rattle.lasting.proofs.journaled.Journaled.append_pending.Goals as goal

pub invariant_of-self : goal.invariant_of-self
invariant_of-self g c =
    let old : Kept = record {
      policy = c.self.inside.policy;
      handed = c.self.inside.handed.changes;
      last = c.self.inside.handed.last;
      pending = c.self.inside.pending.items;
      journal = c.self.inside.journal;
      assured = c.self.inside.handed.assured;
    } in
    kept_no_more g.J.Naming.first old c.append.new.self c.self.invariant c.in_err-append.ensures.no_more
    c.in_err-append.ensures.same

pub invariant_of-self-2 : goal.invariant_of-self-2
invariant_of-self-2 g c =
    let old : Kept = record {
      policy = c.self.inside.policy;
      handed = c.self.inside.handed.changes;
      last = c.self.inside.handed.last;
      pending = c.self.inside.pending.items;
      journal = c.self.inside.journal;
      assured = c.self.inside.handed.assured;
    } in
    kept_appended g.J.Naming.first old c.append.new.self c.clear.new.self.items c.deref.result.now c.self.invariant
    c.clear.ensures.items c.deref.ensures.value c.in_ok-append.ensures.journal c.in_ok-append.ensures.words

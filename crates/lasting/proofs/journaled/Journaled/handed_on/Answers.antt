use Rattle.std.proofs.Common.{◌≡◌, [], ap, ◌∙◌}
use Rattle.lasting.specs.Lasting.{Kept}
use Rattle.lasting.proofs.Moments.{kept_more}
use Rattle.lasting.proofs.journaled.Journaled.handed_on.Goals as goal

pub invariant_of-result : goal.invariant_of-result
invariant_of-result g c =
    let old : Kept = record {
      policy = c.self.inside.policy;
      handed = c.self.inside.handed.changes;
      last = c.self.inside.handed.last;
      pending = c.self.inside.pending.items;
      journal = c.self.inside.journal;
      assured = c.self.inside.handed.assured;
    } in
    let none : old.pending ≡ [] = ap (λ (k : Kept). k.pending) c.self.view_is ∙ c.requires in
    let e = c.hand_on_to-handed.ensures in
    let is = c.in-Ok-Some.is in
    let some = c.in-Ok-Some.field-0-is in
    kept_more g.J.Naming.first old c.hand_on_to-handed.result.0.last c.hand_on_to-handed.result.0.changes c.in-Ok-Some.batch.items
    c.hand_on_to-handed.result.0.assured c.self.invariant none (rw some at (rw is at e.row)) (rw some at (rw is at e.moment))
    (rw is at e.later) e.assured

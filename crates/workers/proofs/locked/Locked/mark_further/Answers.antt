use Rattle.std.proofs.Common.{[], ap, sym, subst, ◌∙◌}
use Rattle.roll.specs.Rule.{keeper, rows_of}
use Rattle.workers.specs.Marks.{IsMarkedBy}
use Rattle.workers.proofs.guard.Guarded.{with_mark, with_rows}
use Rattle.workers.proofs.guard.Moments.{marked_of}
use Rattle.workers.proofs.locked.Locked.mark_further.Goals as goal

pub invariant_of-self : goal.invariant_of-self
invariant_of-self g c =
    let k = c.known-seat.ensures.keeper in (
      (k.0, k.1 ∙ sym (ap (λ m. (keeper m.0.rows, [])) k.1)),
      with_mark g.J.Naming.clients g.J.Naming.first _ c.mark_further.new.self c.mark_further.ensures.marks
          (with_rows g.J.Naming.clients g.J.Naming.first _ (rows_of c.known-seat.new.keeper) (ap (λ m. m.0.rows) k.1)
          c.self.invariant.1),
      c.self.invariant.2,
      c.self.invariant.3,
    )

pub returns-clause-marked : goal.returns-clause-marked
returns-clause-marked g c =
    let seat = c.args.seat in
    subst (IsMarkedBy g.J.Naming.first seat.client seat.list.items) (sym c.mark_further.ensures.mark)
    (marked_of g.J.Naming.clients g.J.Naming.first _ seat.client seat.list.items c.self.invariant.1 c.tells_settled.ensures
    c.known-seat.ensures.known)

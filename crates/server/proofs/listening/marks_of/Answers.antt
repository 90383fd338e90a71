use Rattle.std.proofs.Common.{◌++◌, ◌∙◌, ◌∷◌, [], Some, ap, append_assoc, append-nil, arith, length, subst, sym}
use Rattle.std.specs.Prelude.{All}
use Rattle.std.proofs.lemmas.List.Elements.{All-nil, All-pop, All-push}
use Rattle.session.specs.Sessions.{Sessioned}
use Rattle.workers.specs.Moments.{GoesOnLater}
use Rattle.server.specs.Worked.{all_told, HasWorked}
use Rattle.server.proofs.Endings.{worked_to}
use Rattle.server.proofs.listening.marks_of.Goals as goal

pub loop-worker-preserved : goal.loop-worker-preserved
loop-worker-preserved g c =
    let i = c.loop-worker.invariant in
    let s = c.in-Some.ensures.steps in
    let pushed = c.push_reserved.ensures in
    let n = g.J.Naming.clients in
    let first = g.J.Naming.first in
    let worker = c.in-Some.worker in
    let done = c.loop-worker.yielded in
    let mark = c.into_mark.result in
    record {
      parts = i.parts ∙ (ap (λ l. done ++ l) s.0 ∙ sym (append_assoc done (worker ∷ []) _));
      counted = omega (arith, i.counted, s.1, ap (λ l. length l) s.0);
      room = omega (arith, i.room, s.1, pushed.len, pushed.capacity);
      worked = λ last later.
          let both = All-pop (λ m. GoesOnLater m last) _ c.loop-worker.marks.items (Some mark) pushed.items later in
          All-push (HasWorked all_told n first last) done worker (i.worked last both.0)
          (worked_to n first last mark worker c.into_mark.ensures.turns c.into_mark.ensures.turn both.1);
    }

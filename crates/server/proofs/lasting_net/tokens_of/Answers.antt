use Rattle.std.proofs.Common.{◌++◌, ◌∙◌, ◌∷◌, [], Some, ap, append_assoc, arith, length, sym}
use Rattle.std.specs.Prelude.{All}
use Rattle.std.proofs.lemmas.List.Elements.{All-pop, All-push}
use Rattle.workers.specs.Moments.{GoesOnLater}
use Rattle.server.specs.Worked.{HasWorked, settled_told}
use Rattle.server.proofs.Endings.{settled_to, unsettled_to}
use Rattle.server.proofs.lasting_net.tokens_of.Goals as goal

pub loop-worker-preserved : goal.loop-worker-preserved
loop-worker-preserved g c =
    let i = c.loop-worker.invariant in
    let s = c.in-Some.ensures.steps in
    let n = g.J.Naming.clients in
    let first = g.J.Naming.first in
    let worker = c.in-Some.worker in
    let done = c.loop-worker.yielded in
    record {
      parts = i.parts ∙ (ap (λ l. done ++ l) s.0 ∙ sym (append_assoc done (worker ∷ []) _));
      counted = omega (arith, i.counted, s.1, ap (λ l. length l) s.0);
      room = omega (arith, i.room, s.1);
      worked = λ last on later.
          All-push (HasWorked settled_told n first last) done worker (i.worked last on later)
          (unsettled_to n first last worker c.into_token.ensures.turns c.in_default.ensures.settled on);
    }

pub loop-worker-preserved-in-Some-into_token : goal.loop-worker-preserved-in-Some-into_token
loop-worker-preserved-in-Some-into_token g c =
    let i = c.loop-worker.invariant in
    let s = c.in-Some.ensures.steps in
    let pushed = c.push_reserved.ensures in
    let n = g.J.Naming.clients in
    let first = g.J.Naming.first in
    let worker = c.in-Some.worker in
    let done = c.loop-worker.yielded in
    let token = c.in-Some-into_token.token in
    record {
      parts = i.parts ∙ (ap (λ l. done ++ l) s.0 ∙ sym (append_assoc done (worker ∷ []) _));
      counted = omega (arith, i.counted, s.1, ap (λ l. length l) s.0);
      room = omega (arith, i.room, s.1, pushed.len, pushed.capacity);
      worked = λ last on later.
          let both = All-pop (λ m. GoesOnLater m last) _ c.loop-worker.tokens.items (Some token) pushed.items later in
          All-push (HasWorked settled_told n first last) done worker (i.worked last on both.0)
          (settled_to n first last token worker c.into_token.ensures.turns c.in-Some-into_token.ensures.settled both.1);
    }

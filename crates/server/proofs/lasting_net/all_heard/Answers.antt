use Rattle.std.proofs.Common.{◌++◌, ◌∙◌, ◌∷◌, [], List, arith, ap, append_assoc, length, subst, sym}
use Rattle.std.proofs.lemmas.List.Elements.{All-push}
use Rattle.lasting.specs.Settling.{Settled}
use Rattle.session.specs.Sessions.{Sessioned}
use Rattle.workers.specs.Moments.{GoesOnLater}
use Rattle.server.proofs.lasting_net.all_heard.Goals as goal

pub loop-token-preserved : goal.loop-token-preserved
loop-token-preserved g c =
    let i = c.loop-token.invariant in
    let s = c.in-Some.ensures.steps in
    let heard = c.loop-token.yielded in
    record {
      parts = i.parts ∙ (ap (λ (l : List Sessioned). heard ++ l) s.0 ∙ sym (append_assoc heard (c.in-Some.token ∷ []) _));
      counted = omega (arith, i.counted, s.1, ap (λ l. length l) s.0);
      same = c.hears.ensures.settler ∙ i.same;
      heard = All-push (λ sure. GoesOnLater sure c.args.settler.kept.last) heard c.in-Some.token i.heard
          (subst (λ (v : Settled). GoesOnLater c.in-Some.token v.kept.last) i.same c.hears.ensures.last);
    }

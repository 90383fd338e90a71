use Rattle.std.proofs.Common.{◌++◌, List, arith, ap, append_assoc, length, subst, sym, ◌∙◌, ◌∷◌, []}
use Rattle.std.specs.Prelude.{All}
use Rattle.std.proofs.lemmas.List.Elements.{All-push}
use Rattle.session.specs.Sessions.{Sessioned}
use Rattle.workers.specs.Following.{Held}
use Rattle.workers.specs.Moments.{GoesOnLater}
use Rattle.workers.proofs.locked.Locked.hear_all.Goals as goal

pub loop-marked-preserved : goal.loop-marked-preserved
loop-marked-preserved g c =
    let i = c.loop-marked.invariant in
    let s = c.in-Some.ensures.steps in
    let heard = c.loop-marked.yielded in
    let now = c.hear.new.self.session in
    record {
      parts = i.parts
          ∙ (ap (λ (l : List Sessioned). heard ++ l) s.0 ∙ sym (append_assoc heard (c.in-Some.marked ∷ []) _));
      counted = omega (arith, i.counted, s.1, ap (λ l. length l) s.0);
      same = c.hear.ensures.same ∙ i.same;
      later = All-push (λ marked. GoesOnLater marked now) heard c.in-Some.marked
          (subst (λ (v : Held). All (λ marked. GoesOnLater marked v.session) heard) (sym c.hear.ensures.same) i.later)
          c.hear.ensures.later;
    }

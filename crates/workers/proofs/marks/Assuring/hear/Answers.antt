use Rattle.std.proofs.Common.{List, arith, subst}
use Rattle.std.proofs.lemmas.List.{length-map}
use Rattle.std.specs.Prelude.{Contains}
use Rattle.witness.specs.Accounts.{Known}
use Rattle.session.specs.Sessions.{Sessioned}
use Rattle.workers.specs.Moments.{latest, marked_in}
use Rattle.workers.proofs.guard.Laters.{latest_begins, marked_begins}
use Rattle.workers.proofs.marks.Assuring.hear.Goals as goal

pub returns-clause-heard : goal.returns-clause-heard
returns-clause-heard g c =
    let some = c.assured.inside.mark.entries in
    let all = c.self.inside.teller.entries in
    subst (λ (xs : List Sessioned). Contains xs c.args.assured) c.self.view_is
    (subst (Contains (marked_in all)) c.assured.view_is
    (latest_begins (marked_in some) (marked_in all)
    (omega (arith, c.assured.invariant.1, length-map some (λ (mark : Known Sessioned). latest mark.entries)))
    (marked_begins some all c.hear-mark.ensures.begins)))

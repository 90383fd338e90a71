use Rattle.std.proofs.Common.{◌≡◌, sym, subst}
use Rattle.session.specs.Sessions.{Sessioned}
use Rattle.owning.specs.Serving.{GoesOnRight}
use Rattle.owning.proofs.Going.{stays_right}
use Rattle.owning.proofs.answering.done.Goals.{in-Create+in_ok-create-in-Create, in-List+in_ok-list-in-List, in-Put+in_ok-call-in-Put, in-Take+in_ok-call-in-Take, in-Told+in_ok-told-in-Told, in-Crash+in_ok-crash-in-Crash, in-Recover+in_ok-recover-in-Recover, in-Stop}
use Rattle.owning.proofs.answering.done.Goals as goal

pub returns-in_err-list-in-List-clause-goes_on : goal.returns-in_err-list-in-List-clause-goes_on
returns-in_err-list-in-List-clause-goes_on c = stays_right c.args.session.now c.requires.promises

pub returns-in_err-told-in-Told-clause-goes_on : goal.returns-in_err-told-in-Told-clause-goes_on
returns-in_err-told-in-Told-clause-goes_on c = stays_right c.args.session.now c.requires.promises

pub returns-clause-goes_on : goal.returns-clause-goes_on
returns-clause-goes_on c =
    let old = c.args.session.now in
    let on : (s : Sessioned) → c.match-request.session ≡ s → GoesOnRight old s → GoesOnRight old c.match-request.session =
    λ s is right. subst (λ (x : Sessioned). GoesOnRight old x) (sym is) right in
    let stays = stays_right old c.requires.promises in
    elim c.match-request.branch [
      | in-Create+in_ok-create-in-Create w ↦ on _ w.session-is w.create.ensures.goes_on
      | in-List+in_ok-list-in-List w ↦ on _ w.session-is stays
      | in-Put+in_ok-call-in-Put w ↦ on _ w.session-is w.call.ensures.goes_on
      | in-Take+in_ok-call-in-Take w ↦ on _ w.session-is w.call-in-Take.ensures.goes_on
      | in-Told+in_ok-told-in-Told w ↦ on _ w.session-is stays
      | in-Crash+in_ok-crash-in-Crash w ↦ on _ w.session-is w.crash.ensures.goes_on
      | in-Recover+in_ok-recover-in-Recover w ↦ on _ w.session-is w.recover.ensures.goes_on
      | in-Stop w ↦ on _ w.session-is stays
    ]

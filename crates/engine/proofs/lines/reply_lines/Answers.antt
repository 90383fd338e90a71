use Rattle.engine.proofs.Replying.{on_err, change_as_far, until_fault}
use Rattle.engine.proofs.Telling.{told_all, told_still}
use Rattle.engine.proofs.lines.reply_lines.Goals as goal

pub returns-in_err-send_settled-clause-fault : goal.returns-in_err-send_settled-clause-fault
returns-in_err-send_settled-clause-fault g c =
    rw c.send_settled.ensures.served (on_err c.from_residual-in_err-send_settled.result
    (until_fault g.P.Reading.meaning c.in_ok-progress.progress c.args.bytes.now _ _ _ _
    (λ rs made held. told_still _ _ _ _ _ _ _ _ _ rs held c.in_err-send_settled.ensures.unsent made)
    c.in_ok-progress.ensures.put))

pub returns-clause-told : goal.returns-clause-told
returns-clause-told g c =
    rw c.send_settled.ensures.served (change_as_far g.P.Reading.meaning c.in_ok-progress.progress c.args.bytes.now _ _ _ _
    (λ rs made held.
    told_all _ _ _ _ _ _ _ _ _ rs held c.in_ok-send_settled.ensures.sent c.in_ok-send_settled.ensures.settled made)
    c.in_ok-progress.ensures.put)

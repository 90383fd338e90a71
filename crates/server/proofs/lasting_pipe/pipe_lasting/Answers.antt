use Rattle.std.proofs.lemmas.Result.{IfOk-weaker}
use Rattle.server.proofs.Pipes.{error_weaker, of_opened, of_opened_unleft}
use Rattle.server.proofs.lasting_pipe.pipe_lasting.Goals as goal

pub returns-clause-left : goal.returns-clause-left
returns-clause-left g c =
    let noted = c.in_ok-noted.noted in
    IfOk-weaker c.served.result _ _
    (λ left piped. of_opened c.args.broker noted.noting.session left.image.items left.journal _ c.in_ok-noted.ensures.opened
    piped) c.served.ensures.left

pub returns-clause-unleft : goal.returns-clause-unleft
returns-clause-unleft g c =
    let noted = c.in_ok-noted.noted in
    error_weaker _ _ _ c.served.result
    (λ piped. of_opened_unleft c.args.broker noted.noting.session _ c.in_ok-noted.ensures.opened piped)
    c.served.ensures.unleft

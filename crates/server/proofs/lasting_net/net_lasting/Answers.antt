use Rattle.std.proofs.lemmas.Result.{IfOk-weaker}
use Rattle.server.proofs.Endings.{left_of_opened}
use Rattle.server.proofs.lasting_net.net_lasting.Goals as goal

pub returns : goal.returns
returns g c =
    let first = c.in_ok-noted.noted.noting.session in
    IfOk-weaker c.served.result _ _
    (λ left served. left_of_opened c.args.broker first _ left.image.items left.journal c.in_ok-noted.ensures.opened served)
    c.served.ensures

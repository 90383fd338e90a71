use Rattle.std.proofs.lemmas.Result.{IfOk-weaker}
use Rattle.server.proofs.Endings.{image_of_opened}
use Rattle.server.proofs.listening.net.Goals as goal

pub returns-clause-image : goal.returns-clause-image
returns-clause-image g c =
    let opened = c.in_ok-opened.opened in
    IfOk-weaker c.served.result _ _
    (λ bytes served. image_of_opened c.args.broker opened.session _ bytes.items c.in_ok-opened.ensures.opened served)
    c.served.ensures.image

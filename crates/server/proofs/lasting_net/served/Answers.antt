use Rattle.std.proofs.Common.{ℕ, IfOk, subst, sym}
use Rattle.std.proofs.lemmas.Result.{IfOk-weaker}
use Rattle.std.specs.Prelude.{All}
use Rattle.lasting.specs.Settling.{Settled}
use Rattle.workers.specs.Moments.{GoesOnLater}
use Rattle.server.specs.Worked.{IsLeftServed}
use Rattle.server.proofs.Endings.{left_served}
use Rattle.server.proofs.Pipes.{clients_of}
use Rattle.server.proofs.lasting_net.served.Goals as goal

pub returns-in-Ok : goal.returns-in-Ok
returns-in-Ok g c =
    let first = g.J.Naming.first in
    let tokens = c.in-Ok.tokens.items in
    let heard = c.all_heard.result in
    subst (λ (n : ℕ). IfOk c.end.result (λ left. IsLeftServed first.broker n left.image.items left.journal))
    c.max-workers.ensures
    (IfOk-weaker c.end.result _ _
    (λ left since. left_served first heard.kept.last g.J.Naming.clients c.max-workers.result tokens left.image.items
    left.journal (clients_of c.args.noted.noting c.requires.name) c.requires.opened c.in-Ok.ensures.settled
    (subst (λ (s : Settled). All (λ sure. GoesOnLater sure s.kept.last) tokens) (sym c.all_heard.ensures.settler)
    c.all_heard.ensures.heard) since) c.end.ensures)

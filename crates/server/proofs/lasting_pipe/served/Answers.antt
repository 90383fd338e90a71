use Rattle.std.proofs.Common.{◌≡◌, Ok, Result, inr, rules, subst, sym}
use Rattle.std.specs.Prelude.{IfSome}
use Rattle.engine.specs.declared.failure.Failure.{Failure}
use Rattle.lasting.specs.Settling.{Settled}
use Rattle.workers.specs.Moments.{GoesOnLater}
use Rattle.serving.specs.Connections.{IsServedLastingly, TellsBy, unserved}
use Rattle.server.proofs.Pipes.{clients_of, error_so, piped_somehow, piped_to}
use Rattle.server.proofs.lasting_pipe.served.Goals as goal

pub returns-in_err-left-clause-unleft : goal.returns-in_err-left-clause-unleft
returns-in_err-left-clause-unleft g c =
    let how = c.in_ok-token.field-0 in
    let served = c.serve_beside-served in
    error_so c.from_residual-in_err-left.result
    (inr (piped_somehow g.R.Reader g.W.Writer g.J.Naming.first.broker g.J.Naming.clients
    (clients_of c.args.noted.noting c.requires.name) g.J.Naming.first how.token how.ended c.args.reader.now
    served.new.reader c.args.writer.now served.new.writer c.requires.opened
    c.in_ok-token.ensures.served))

pub returns-in_err-ended-clause-unleft : goal.returns-in_err-ended-clause-unleft
returns-in_err-ended-clause-unleft g c =
    let how = c.in_ok-token.field-0 in
    let served = c.serve_beside-served in
    error_so c.from_residual-in_err-ended.result
    (inr (piped_somehow g.R.Reader g.W.Writer g.J.Naming.first.broker g.J.Naming.clients
    (clients_of c.args.noted.noting c.requires.name) g.J.Naming.first how.token how.ended c.args.reader.now
    served.new.reader c.args.writer.now served.new.writer c.requires.opened
    c.in_ok-token.ensures.served))

pub returns-clause-left : goal.returns-clause-left
returns-clause-left g c =
    let how = c.in_ok-token.field-0 in
    let served = c.serve_beside-served in
    let done : how.ended ≡ (let e : Result Unit Failure = Ok tt in e) = search rules in
    piped_to g.J.Naming.first.broker g.J.Naming.clients (clients_of c.args.noted.noting c.requires.name)
    g.J.Naming.first _ c.requires.opened how.token c.heard.result.kept.last c.in_ok-left.left.image.items c.in_ok-left.left.journal
    (subst (λ (e : Result Unit Failure). IsServedLastingly g.J.Naming.clients g.J.Naming.first how.token
    (λ one. TellsBy g.R.Reader g.W.Writer unserved one e c.args.reader.now served.new.reader c.args.writer.now
    served.new.writer)) done c.in_ok-token.ensures.served)
    (subst (λ (s : Settled). IfSome how.token (λ sure. GoesOnLater sure s.kept.last)) (sym c.heard.ensures.settler)
    c.heard.ensures.heard) c.in_ok-left.ensures

use Rattle.std.proofs.Common.{◌≡◌, ◌∙◌, sym, rules}
use Rattle.lasting.specs.Lasting.{EndsAtMomentOf}
use Rattle.workers.specs.Moments.{GoesOnLater}
use Rattle.server.proofs.Lefts.{left_since, on_ok}
use Rattle.server.proofs.lasting_broker.left_of.Goals as goal

pub returns-in-Ok : goal.returns-in-Ok
returns-in-Ok g c =
    let closed = c.close-session.ensures in
    let image = c.in-Ok.ensures in
    let words : c.close-session.result.1.words ≡ c.close-session.result.0.broker.words.kept = search rules in
    let ends : EndsAtMomentOf g.J.Naming.first c.close-session.result.0 c.close-session.result.1 =
    on_ok (EndsAtMomentOf g.J.Naming.first c.close-session.result.0 c.close-session.result.1) c.close-session.result.2
    (sym c.is_err.ensures.value ∙ c.if-is_err.false) closed.ends in
    let kept : c.close-session.result.1.kept ≡ c.close-session.result.1.size = search rules in
    left_since _ _ g.J.Naming.first c.args.settler.kept.last c.close-session.result.0 c.broker.result.now c.in-Ok.image.items
    c.close-session.result.1 c.broker.ensures.broker closed.lists closed.goes_on closed.promises image.image image.read
    image.boots words kept ends
    (on_ok (GoesOnLater c.args.settler.kept.last c.close-session.result.0) c.close-session.result.2
    (sym c.is_err.ensures.value ∙ c.if-is_err.false) closed.later)

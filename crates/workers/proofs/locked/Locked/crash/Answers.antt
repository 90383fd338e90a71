use Rattle.std.proofs.Common.{ap, subst, sym, ◌∙◌}
use Rattle.named.specs.Stopping.{IsStopped}
use Rattle.session.specs.Sessions.{Sessioned}
use Rattle.workers.specs.Following.{Held}
use Rattle.workers.proofs.guard.Betweens.{between_at, between_further}
use Rattle.workers.proofs.guard.Downs.{done_so}
use Rattle.workers.proofs.guard.Laters.{later_still}
use Rattle.workers.proofs.locked.Locked.crash.Goals as goal

pub returns-clause-later : goal.returns-clause-later
returns-clause-later g c =
    later_still c.args.before c.mark_after-marked.result c.mark_after.result c.mark_after-marked.ensures.before
    c.mark_after.ensures.before

pub returns-clause-stopped : goal.returns-clause-stopped
returns-clause-stopped g c =
    let marked = c.mark_after-marked in
    let now = c.mark_after in
    done_so c.stop-operator.result.1
    (λ stopped. between_further c.args.before marked.result now.result
    (between_at c.args.before marked.result marked.ensures.before
    (subst (λ (s : Sessioned). IsStopped s.broker now.result.broker)
    (ap (λ (l : Held). l.session) marked.ensures.rest ∙ sym marked.ensures.now)
    (subst (λ (s : Sessioned). IsStopped marked.new.self.session.broker s.broker) (sym now.ensures.now) stopped)))
    now.ensures.before) c.stop-operator.ensures.stopped

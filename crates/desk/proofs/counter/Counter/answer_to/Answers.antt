use Rattle.std.proofs.Common.{refl, subst, sym}
use Rattle.wire.specs.declared.request.Request.{Request}
use Rattle.workers.proofs.Facts.{between_at, later_itself}
use Rattle.desk.specs.Answering.{IsAnsweredBetween}
use Rattle.desk.proofs.counter.Counter.answer_to.Goals as goal

pub returns-in-Create : goal.returns-in-Create
returns-in-Create g c =
    subst (λ (r : Request). IsAnsweredBetween g.J.Naming.clients g.J.Naming.first c.args.before c.create.result.0 r c.create.result.1)
    (sym c.in-Create.is) (between_at c.args.before c.create.result.0 c.create.ensures.later c.create.ensures.is)

pub returns-in-List : goal.returns-in-List
returns-in-List g c =
    subst (λ (r : Request). IsAnsweredBetween g.J.Naming.clients g.J.Naming.first c.args.before c.list.result.0 r c.list.result.1)
    (sym c.in-List.is) (between_at c.args.before c.list.result.0 c.list.ensures.later c.list.ensures.is)

pub returns-in-Told : goal.returns-in-Told
returns-in-Told g c =
    subst (λ (r : Request). IsAnsweredBetween g.J.Naming.clients g.J.Naming.first c.args.before c.tell.result.0 r c.tell.result.1)
    (sym c.in-Told.is) (between_at c.args.before c.tell.result.0 c.tell.ensures.later c.tell.ensures.is)

pub returns-in-Crash : goal.returns-in-Crash
returns-in-Crash g c =
    subst (λ (r : Request). IsAnsweredBetween g.J.Naming.clients g.J.Naming.first c.args.before c.crash.result.0 r c.crash.result.1)
    (sym c.in-Crash.is) (between_at c.args.before c.crash.result.0 c.crash.ensures.later c.crash.ensures.is)

pub returns-in-Recover : goal.returns-in-Recover
returns-in-Recover g c =
    subst (λ (r : Request). IsAnsweredBetween g.J.Naming.clients g.J.Naming.first c.args.before c.recover.result.0 r c.recover.result.1)
    (sym c.in-Recover.is) (between_at c.args.before c.recover.result.0 c.recover.ensures.later c.recover.ensures.is)

pub returns-in-Stop : goal.returns-in-Stop
returns-in-Stop g c =
    rw c.in-Stop.is (between_at c.args.before c.args.before (later_itself c.args.before) refl)

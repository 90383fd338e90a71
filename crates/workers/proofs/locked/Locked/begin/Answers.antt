use Rattle.std.proofs.Common.{◌∙◌, Option, Result, ap, subst, sym, Ok}
use Rattle.std.specs.Prelude.{IfErr}
use Rattle.words.specs.declared.call.Client.{Client}
use Rattle.words.specs.declared.call.Reply.{Reply}
use Rattle.words.specs.declared.refusal.Refusal.{Refusal}
use Rattle.session.specs.Sessions.{Sessioned}
use Rattle.workers.specs.Seen.{IsRefusedAt}
use Rattle.workers.proofs.guard.Betweens.{between_at, between_further}
use Rattle.workers.proofs.guard.Laters.{later_still}
use Rattle.workers.proofs.lists.Answers.{settled_refused, settled_replies, settled_runs_not}
use Rattle.workers.proofs.locked.Locked.begin.Goals as goal

pub returns-in-Ok-Some-clause-settled : goal.returns-in-Ok-Some-clause-settled
returns-in-Ok-Some-clause-settled g c = λ reply was.
    let same = settled_replies reply c.in-Ok-Some.reply _ (c.in-Ok-Some.is ∙ ap Ok c.in-Ok-Some.field-0-is)
    (c.begin_found-seat.ensures.settled reply (rw c.mark_further-seat.ensures.client was)) in
    cc (same)

pub returns-in-Ok-Some-clause-later : goal.returns-in-Ok-Some-clause-later
returns-in-Ok-Some-clause-later g c =
    later_still c.args.before c.mark_further-seat.result.1 c.mark_further-seat-in-Ok-Some.result.1 c.mark_further-seat.ensures.before
    c.mark_further-seat-in-Ok-Some.ensures.before

pub returns-in-Ok-Some-clause-since : goal.returns-in-Ok-Some-clause-since
returns-in-Ok-Some-clause-since g c =
    let marked = c.mark_further-seat in
    let kept = c.mark_further-seat-in-Ok-Some in
    between_further c.args.before marked.result.1 kept.result.1
    (between_at c.args.before marked.result.1 marked.ensures.before marked.ensures.marked) kept.ensures.before

pub returns-in-Ok-None-clause-settled : goal.returns-in-Ok-None-clause-settled
returns-in-Ok-None-clause-settled g c = λ reply was.
    absurd (settled_runs_not reply _ (c.in-Ok-None.is ∙ ap Ok c.in-Ok-None.field-0-is)
    (c.begin_found-seat.ensures.settled reply (rw c.mark_further-seat.ensures.client was)))

pub returns-in-Ok-None-clause-since : goal.returns-in-Ok-None-clause-since
returns-in-Ok-None-clause-since g c =
    let marked = c.mark_further-seat in
    between_at c.args.before marked.result.1 marked.ensures.before marked.ensures.marked

pub returns-in-Err-clause-since : goal.returns-in-Err-clause-since
returns-in-Err-clause-since g c =
    let marked = c.mark_further-seat in
    between_at c.args.before marked.result.1 marked.ensures.before marked.ensures.marked

pub returns-in-Err-clause-settled : goal.returns-in-Err-clause-settled
returns-in-Err-clause-settled g c = λ reply was.
    settled_refused reply c.in-Err.refusal _ c.in-Err.is (c.begin_found-seat.ensures.settled reply (rw c.mark_further-seat.ensures.client was))

pub returns-in-Err-clause-refused : goal.returns-in-Err-clause-refused
returns-in-Err-clause-refused g c =
    let marked = c.mark_further-seat in
    let client = c.args.seat.client in
    let r = c.args.request.now in
    let refusal = c.in-Err.refusal in
    subst (λ (s : Sessioned). IsRefusedAt s client r refusal) (marked.ensures.now.1 ∙ sym marked.ensures.now.0)
    (subst (λ (k : Client). IsRefusedAt marked.new.self.session k r refusal) marked.ensures.client
    (subst (λ (o : Result (Option Reply) Refusal). IfErr o (IsRefusedAt marked.new.self.session marked.result.0.client r))
    c.in-Err.is c.begin_found-seat.ensures.refused))

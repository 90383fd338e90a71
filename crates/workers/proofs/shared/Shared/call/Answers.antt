use Rattle.std.proofs.Common.{◌∙◌, ap, Ok}
use Rattle.workers.proofs.guard.Betweens.{between_further}
use Rattle.workers.proofs.guard.Laters.{later_itself, later_still}
use Rattle.workers.proofs.lists.Answers.{begun_open, remembers, settled_refused, settled_replies, settled_runs_not}
use Rattle.workers.proofs.lists.Answers.{if_made, under_way_begun}
use Rattle.workers.proofs.shared.Shared.call.Goals as goal

pub go_on_marked-requires : goal.go_on_marked-requires
go_on_marked-requires g c =
    let r = c.args.request in
    let old = c.with_room-seat.result.0.list.items in
    let way = under_way_begun old r _ _ (c.in-Ok-None.is ∙ ap Ok c.in-Ok-None.field-0-is) c.begin-seat.ensures.begun in
    begun_open old r _ way

pub returns-in-Ok-None-clause-entry : goal.returns-in-Ok-None-clause-entry
returns-in-Ok-None-clause-entry g c =
    let r = c.args.request in
    let old = c.with_room-seat.result.0.list.items in
    let way = under_way_begun old r _ _ (c.in-Ok-None.is ∙ ap Ok c.in-Ok-None.field-0-is) c.begin-seat.ensures.begun in
    rw (← c.with_room-seat.ensures.same.1) (remembers old r _ _ c.go_on_marked.result.2 way c.go_on_marked.ensures.finishes)

pub returns-in-Ok-None-clause-settled : goal.returns-in-Ok-None-clause-settled
returns-in-Ok-None-clause-settled g c = λ reply was.
    absurd (settled_runs_not reply _ (c.in-Ok-None.is ∙ ap Ok c.in-Ok-None.field-0-is)
    (c.begin-seat.ensures.settled reply (rw c.with_room-seat.ensures.same.0 was)))

pub returns-in-Ok-Some-clause-settled : goal.returns-in-Ok-Some-clause-settled
returns-in-Ok-Some-clause-settled g c = λ reply was.
    settled_replies reply c.in-Ok-Some.reply _ (c.in-Ok-Some.is ∙ ap Ok c.in-Ok-Some.field-0-is)
    (c.begin-seat.ensures.settled reply (rw c.with_room-seat.ensures.same.0 was))

pub returns-in-Err-clause-settled : goal.returns-in-Err-clause-settled
returns-in-Err-clause-settled g c = λ reply was.
    settled_refused reply c.in-Err.refusal _ c.in-Err.is
    (c.begin-seat.ensures.settled reply (rw c.with_room-seat.ensures.same.0 was))

pub returns-then-is_open-clause-later : goal.returns-then-is_open-clause-later
returns-then-is_open-clause-later g c = later_itself c.args.before

pub returns-then-not-room-clause-later : goal.returns-then-not-room-clause-later
returns-then-not-room-clause-later g c = later_itself c.args.before

pub returns-in-Ok-None-clause-later : goal.returns-in-Ok-None-clause-later
returns-in-Ok-None-clause-later g c =
    later_still c.args.before c.begin-seat.result.1 c.go_on_marked.result.1 c.begin-seat.ensures.later
    c.go_on_marked.ensures.later

pub returns-in-Ok-None-clause-since : goal.returns-in-Ok-None-clause-since
returns-in-Ok-None-clause-since g c =
    let begun = c.begin-seat in
    let on = c.go_on_marked in
    let same = c.with_room-seat.ensures.same in
    if_made on.result.2
    (rw (← same.0) (rw (← same.1)
    (between_further c.args.before begun.result.1 on.result.1 begun.ensures.since on.ensures.later)))

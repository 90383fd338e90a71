use Rattle.std.proofs.Common.{subst}
use Rattle.words.specs.declared.call.Client.{Client}
use Rattle.workers.proofs.Facts.{later_itself}
use Rattle.desk.specs.Answering.{IsCallAnswer}
use Rattle.desk.specs.Calls.{answer_on_wire}
use Rattle.desk.proofs.Settling.{call_answer, settled_for, settled_on_wire}
use Rattle.desk.proofs.calls.call_at_seat.Goals as goal

pub returns-in-Err-clause-later : goal.returns-in-Err-clause-later
returns-in-Err-clause-later g c = later_itself c.args.before

pub returns-clause-settled : goal.returns-clause-settled
returns-clause-settled g c = λ name reply is was.
    let there = c.settled-seat.ensures.client in
    rw c.on_wire.ensures (settled_on_wire reply c.call-seat.result.2 (c.call-seat.ensures.settled reply
    (settled_for g.J.Naming.first c.args.seat.client c.settled-seat.result.0.client c.args.asked name c.in-Some.name
    reply there is c.in-Some.is was)))

pub returns-clause-is : goal.returns-clause-is
returns-clause-is g c =
    let first = g.J.Naming.first in
    let seat = c.settled-seat.result.0 in
    let call = c.call-seat in
    rw c.on_wire.ensures
    (subst (λ (k : Client). IsCallAnswer first c.args.before call.result.1 k c.args.asked (answer_on_wire call.result.2))
    c.settled-seat.ensures.client
    (call_answer first c.args.before call.result.1 seat.client seat.list.items call.result.0.list.items c.args.asked
    c.in-Some.name c.in-Some.is call.result.2 call.ensures.entry call.ensures.marked call.ensures.since
    call.ensures.refused))

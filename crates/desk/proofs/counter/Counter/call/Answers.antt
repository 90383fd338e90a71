use Rattle.desk.specs.Calls.{asked_in}
use Rattle.desk.proofs.Calling.{above, below, called_at, called_between, called_of_none}
use Rattle.desk.proofs.counter.Counter.call.Goals as goal

pub returns-in_default : goal.returns-in_default
returns-in_default g c =
    called_of_none g.J.Naming.clients c.args.number g.J.Naming.first c.args.before (asked_in c.args.request)
    (above g.J.Naming.clients c.args.number c.client.result c.in_default.is c.client.ensures.none)

pub returns-then-not-is_no_room : goal.returns-then-not-is_no_room
returns-then-not-is_no_room g c =
    let client = c.in-Some.client in
    let work = c.call_at_work-marked in
    called_at g.J.Naming.clients c.args.number client c.in-Some.ensures.number
    (below g.J.Naming.clients c.args.number c.client.result client c.in-Some.is c.client.ensures.none) g.J.Naming.first
    c.args.before work.result.0 (asked_in c.args.request) work.result.1 work.ensures.is work.ensures.later

pub returns-in_default-at_rest : goal.returns-in_default-at_rest
returns-in_default-at_rest g c =
    let client = c.in-Some.client in
    let work = c.call_at_work-marked in
    called_at g.J.Naming.clients c.args.number client c.in-Some.ensures.number
    (below g.J.Naming.clients c.args.number c.client.result client c.in-Some.is c.client.ensures.none) g.J.Naming.first
    c.args.before work.result.0 (asked_in c.args.request) work.result.1 work.ensures.is work.ensures.later

pub returns : goal.returns
returns g c =
    let client = c.in-Some.client in
    let work = c.call_at_work-marked in
    called_between g.J.Naming.clients c.args.number client c.in-Some.ensures.number
    (below g.J.Naming.clients c.args.number c.client.result client c.in-Some.is c.client.ensures.none) g.J.Naming.first
    c.args.before work.result.0 c.call_at_rest.result.0 (asked_in c.args.request) c.call_at_rest.result.1
    work.ensures.later c.call_at_rest.ensures

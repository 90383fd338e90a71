use Rattle.deciding.proofs.Joined.{are, order_if, pattern_if, none_if}
use Rattle.deciding.proofs.judging.has_order.Goals as goal

pub have_order-requires-clause-calls : goal.have_order-requires-clause-calls
have_order-requires-clause-calls c = are c.args.findings.now.events c.args.findings.now.learnt c.in-Some.known.items
    c.in_ok-ends.ends.items (rw c.in-Some.is at c.in_ok-known.ensures.found) c.in_ok-ends.ensures

pub returns-in_ok-yes-in-Some-clause-order : goal.returns-in_ok-yes-in-Some-clause-order
returns-in_ok-yes-in-Some-clause-order c = λ yes. order_if c.args.findings.now.events c.args.findings.now.learnt
    c.in-Some.known.items c.in_ok-ends.ends.items (rw c.in-Some.is at c.in_ok-known.ensures.found) c.in_ok-ends.ensures
    c.requires (c.in_ok-yes-in-Some.ensures.order yes)

pub returns-in_ok-yes-in-Some-clause-none : goal.returns-in_ok-yes-in-Some-clause-none
returns-in_ok-yes-in-Some-clause-none c = λ fails. none_if c.args.findings.now.events c.args.findings.now.learnt
    c.requires (pattern_if c.args.findings.now.events c.args.findings.now.learnt c.in-Some.known.items
    c.in_ok-ends.ends.items (rw c.in-Some.is at c.in_ok-known.ensures.found) c.in_ok-ends.ensures c.requires
    (c.in_ok-yes-in-Some.ensures.pattern fails))

pub returns-in-None-clause-none : goal.returns-in-None-clause-none
returns-in-None-clause-none c = λ fails. none_if c.args.findings.now.events c.args.findings.now.learnt c.requires
    ((rw c.in-None.is at c.in_ok-known.ensures.none) c.requires)

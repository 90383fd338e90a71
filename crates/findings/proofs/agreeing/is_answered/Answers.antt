use Rattle.std.proofs.Common.{refl, subst}
use Rattle.events.specs.Orders.{IsTakenAs}
use Rattle.events.proofs.Facts.{one_reply, in_order_from_taken}
use Rattle.findings.proofs.Ended.{answered_from, answered_nothing, taken_if_answered}
use Rattle.findings.proofs.agreeing.is_answered.Goals as goal

pub returns-in_default : goal.returns-in_default
returns-in_default c = (
  λ _. answered_nothing c.args.findings.now.events c.args.entries.now c.args.p c.in_default.ensures.none,
  λ _. refl,
)

pub returns-in-Some-reply_at : goal.returns-in-Some-reply_at
returns-in-Some-reply_at c =
    let events = c.args.findings.now.events in
    let order = c.args.entries.now in (
      λ yes. answered_from events order c.args.p c.in-Some.returned c.in-Some.ensures.some
          (subst (IsTakenAs order c.args.p) (c.is_same_reply.ensures.0 yes) c.in-Some-reply_at.ensures.some),
      λ answered. c.is_same_reply.ensures.1 (one_reply order c.requires.once c.args.p _ _
          c.in-Some-reply_at.ensures.some
          (taken_if_answered events order c.args.p c.in-Some.returned c.in-Some.ensures.some answered)),
    )

pub returns-in-None : goal.returns-in-None
returns-in-None c = (
  λ yes. cc,
  λ answered. absurd (c.in-None.ensures.none (in_order_from_taken c.args.entries.now c.args.p _
      (taken_if_answered c.args.findings.now.events c.args.entries.now c.args.p c.in-Some.returned
      c.in-Some.ensures.some answered))),
)

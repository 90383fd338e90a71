use Rattle.std.proofs.Common.{sym, ap, ◌∙◌}
use Rattle.journal.specs.Reading.{are_within}
use Rattle.journal.proofs.Frames.{goes_on_not_whole, goes_on_elsewhere, goes_on_outside, goes_on_from, before_compared, within_each}
use Rattle.journal.proofs.frame.next_frame.Goals as goal

pub returns-in_default-clause-goes_on : goal.returns-in_default-clause-goes_on
returns-in_default-clause-goes_on c = sym (goes_on_not_whole c.args.key.now c.args.before.now c.args.size c.args.bytes.now (sym c.in_default.ensures.whole))

pub returns-then-not-follows-clause-goes_on : goal.returns-then-not-follows-clause-goes_on
returns-then-not-follows-clause-goes_on c =
    sym (goes_on_elsewhere c.args.key.now c.args.before.now c.args.size c.args.bytes.now
    (before_compared c.in-Some.frame.before.now c.args.before.now c.args.bytes.now c.eq-follows.result c.in-Some.ensures.before c.eq-follows.ensures ∙ c.if-not-follows.true))

pub returns-then-not-all_within-clause-goes_on : goal.returns-then-not-all_within-clause-goes_on
returns-then-not-all_within-clause-goes_on c =
    sym (goes_on_outside c.args.key.now c.args.before.now c.args.size c.args.bytes.now
    (ap (are_within c.args.size) (sym c.in-Some.ensures.changes) ∙ sym c.all_within.ensures ∙ c.if-not-all_within.true))

pub returns-clause-goes_on : goal.returns-clause-goes_on
returns-clause-goes_on c =
    sym (goes_on_from c.args.key.now c.args.before.now c.args.size c.args.bytes.now (sym c.in-Some.ensures.whole)
    (before_compared c.in-Some.frame.before.now c.args.before.now c.args.bytes.now c.eq-follows.result c.in-Some.ensures.before c.eq-follows.ensures ∙ c.if-not-follows.false)
    (ap (are_within c.args.size) (sym c.in-Some.ensures.changes) ∙ sym c.all_within.ensures ∙ c.if-not-all_within.false))

pub returns-clause-within : goal.returns-clause-within
returns-clause-within c = within_each c.args.size c.in-Some.frame.changes.now (sym c.all_within.ensures ∙ c.if-not-all_within.false)

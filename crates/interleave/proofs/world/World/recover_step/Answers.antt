use Rattle.std.proofs.Common.{◌≡◌, ◌≤◌, ◌<◌, sym, subst, ap, ◌∙◌}
use Rattle.std.specs.Prelude.{IfOk}
use Rattle.protocol.specs.declared.acts.Act.TheVariants.{Recover}
use Rattle.interleave.specs.Calls.{is_no_memory}
use Rattle.interleave.specs.Core.{roomy_over}
use Rattle.interleave.specs.Rules.{GoesOnExplained, IsByRule, recovering}
use Rattle.interleave.specs.State.{State, after_recover, kept_content, kept_tells, most_to_ready, order_in}
use Rattle.interleave.specs.State.{steps_to_ready}
use Rattle.interleave.specs.Trace.{Roomy}
use Rattle.interleave.specs.Telling.{IsToldAtReady}
use Rattle.interleave.proofs.machine.Outcomes.{told_at_ready}
use Rattle.interleave.proofs.machine.Rules.{goes_on_explained}
use Rattle.interleave.proofs.machine.Holding.{part_after_recover}
use Rattle.interleave.proofs.words.KeptWords.{falls_on, few_to_ready, tells_on}
use Rattle.interleave.proofs.world.World.recover_step.Goals as goal

pub returns-clause-by_rule : goal.returns-clause-by_rule
returns-clause-by_rule c =
    subst (λ (r : Roomy). IsByRule recovering r c.recover_step_in.result (roomy_over c.recover_step_in.new.self c.recover_step_in.new.memory.words)) c.self.view_is c.recover_step_in.ensures.by_rule

pub returns-clause-goes_on : goal.returns-clause-goes_on
returns-clause-goes_on c =
    let old : Roomy = roomy_over c.self.inside.core c.self.inside.memory.words in
    let new : Roomy = roomy_over c.recover_step_in.new.self c.recover_step_in.new.memory.words in
    subst (λ (r : Roomy). GoesOnExplained r.now new.now) c.self.view_is
    (goes_on_explained old.now new.now (is_no_memory c.recover_step_in.result) Recover c.self.invariant.world
    c.recover_step_in.ensures.holds.world c.recover_step_in.ensures.by_rule.leaves)

pub returns-clause-order : goal.returns-clause-order
returns-clause-order c =
    let old : State = (roomy_over c.self.inside.core c.self.inside.memory.words).now in
    let was : old ≡ c.args.self.now.now = ap (λ (r : Roomy). r.now) c.self.view_is in
    ap order_in c.recover_step_in.ensures.by_rule.leaves
    ∙ part_after_recover (is_no_memory c.recover_step_in.result) old ∙ ap order_in was

pub returns-clause-tells : goal.returns-clause-tells
returns-clause-tells c =
    let old : State = (roomy_over c.self.inside.core c.self.inside.memory.words).now in
    let was : old ≡ c.args.self.now.now = ap (λ (r : Roomy). r.now) c.self.view_is in
    ap kept_tells c.recover_step_in.ensures.by_rule.leaves
    ∙ (tells_on (is_no_memory c.recover_step_in.result) old c.self.invariant.world).0 ∙ ap kept_tells was

pub returns-clause-holds : goal.returns-clause-holds
returns-clause-holds c =
    let old : State = (roomy_over c.self.inside.core c.self.inside.memory.words).now in
    let was : old ≡ c.args.self.now.now = ap (λ (r : Roomy). r.now) c.self.view_is in
    ap kept_content c.recover_step_in.ensures.by_rule.leaves
    ∙ (tells_on (is_no_memory c.recover_step_in.result) old c.self.invariant.world).1 ∙ ap kept_content was

pub returns-clause-told : goal.returns-clause-told
returns-clause-told c = λ ready.
    let old : State = (roomy_over c.self.inside.core c.self.inside.memory.words).now in
    subst IsToldAtReady (sym c.recover_step_in.ensures.by_rule.leaves)
    (told_at_ready (is_no_memory c.recover_step_in.result) old c.self.invariant.world
    (sym c.recover_step_in.ensures.by_rule.answers ∙ ready))

pub returns-clause-few : goal.returns-clause-few
returns-clause-few c =
    let old : State = (roomy_over c.self.inside.core c.self.inside.memory.words).now in
    let was : old ≡ c.args.self.now.now = ap (λ (r : Roomy). r.now) c.self.view_is in
    subst (λ (w : State). steps_to_ready w ≤ most_to_ready w.shape) was (few_to_ready old c.self.invariant.world)

pub returns-clause-falls : goal.returns-clause-falls
returns-clause-falls c =
    let old : State = (roomy_over c.self.inside.core c.self.inside.memory.words).now in
    let was : old ≡ c.args.self.now.now = ap (λ (r : Roomy). r.now) c.self.view_is in
    let full = is_no_memory c.recover_step_in.result in
    let by_rule = c.recover_step_in.ensures.by_rule in
    let less = falls_on full old c.self.invariant.world c.recover_step_in.result by_rule.answers in
    subst (λ (w : State). IfOk c.recover_step_in.result (λ ready. steps_to_ready w < steps_to_ready c.args.self.now.now))
    (sym by_rule.leaves)
    (subst (λ (w : State). IfOk c.recover_step_in.result (λ ready. steps_to_ready (after_recover full old) < steps_to_ready w))
    was less)

use Rattle.std.proofs.Common.{◌≡◌, sym, ap, subst, ◌∙◌, rules}
use Rattle.std.specs.Prelude.{is_ok}
use Rattle.words.specs.PlainQueue.{Value, FitsValue}
use Rattle.words.specs.declared.call.Call.TheVariants.{Enq}
use Rattle.protocol.specs.Machine.{FitsCall}
use Rattle.interleave.specs.Calls.{is_no_memory}
use Rattle.interleave.specs.Holds.{Holds}
use Rattle.interleave.specs.State.{after_attempt, is_accepted_with}
use Rattle.interleave.specs.Trace.{Roomy}
use Rattle.interleave.proofs.machine.Holding.{call_fits, holds_after_start, holds_after_step, holds_after_evict}
use Rattle.interleave.proofs.machine.Holding.{holds_after_crash, holds_after_recover}
use Rattle.interleave.proofs.world.World.act.Goals as goal

pub returns-in-Start-clause-attempt : goal.returns-in-Start-clause-attempt
returns-in-Start-clause-attempt c =
    let full = is_no_memory c.start.result in
    record {
      full = full;
      short = c.start.ensures.by_rule.full;
      leaves = c.start.ensures.by_rule.leaves ∙ ap (after_attempt full c.args.self.now.now) (sym c.in-Start.is);
      accepts = c.is_ok.ensures.value ∙ ap is_ok c.start.ensures.by_rule.answers ∙ ap (is_accepted_with full c.args.self.now.now) (sym c.in-Start.is);
    }

pub returns-in-Step-clause-attempt : goal.returns-in-Step-clause-attempt
returns-in-Step-clause-attempt c =
    let full = is_no_memory c.step.result in
    record {
      full = full;
      short = c.step.ensures.by_rule.full;
      leaves = c.step.ensures.by_rule.leaves ∙ ap (after_attempt full c.args.self.now.now) (sym c.in-Step.is);
      accepts = c.is_ok-in-Step.ensures.value ∙ ap is_ok c.step.ensures.by_rule.answers ∙ ap (is_accepted_with full c.args.self.now.now) (sym c.in-Step.is);
    }

pub returns-in-Recover-clause-attempt : goal.returns-in-Recover-clause-attempt
returns-in-Recover-clause-attempt c =
    let full = is_no_memory c.recover_step.result in
    record {
      full = full;
      short = c.recover_step.ensures.by_rule.full;
      leaves = c.recover_step.ensures.by_rule.leaves ∙ ap (after_attempt full c.args.self.now.now) (sym c.in-Recover.is);
      accepts = c.is_ok-in-Recover.ensures.value ∙ ap is_ok c.recover_step.ensures.by_rule.answers ∙ ap (is_accepted_with full c.args.self.now.now) (sym c.in-Recover.is);
    }

pub returns-in-Start-clause-holds : goal.returns-in-Start-clause-holds
returns-in-Start-clause-holds c =
    let holds : Holds c.args.self.now.now = subst Holds (ap (λ (r : Roomy). r.now) c.self.view_is) c.self.invariant.world in
    let value : (v : Value) → c.in-Start.call ≡ Enq v → FitsValue v = search rules in
    let fits : FitsCall c.in-Start.call = call_fits c.in-Start.call value in
    subst Holds (sym c.start.ensures.by_rule.leaves)
    (holds_after_start (is_no_memory c.start.result) c.args.self.now.now c.in-Start.client c.in-Start.number c.in-Start.call holds fits)

pub returns-in-Step-clause-holds : goal.returns-in-Step-clause-holds
returns-in-Step-clause-holds c =
    let holds : Holds c.args.self.now.now = subst Holds (ap (λ (r : Roomy). r.now) c.self.view_is) c.self.invariant.world in
    subst Holds (sym c.step.ensures.by_rule.leaves) (holds_after_step (is_no_memory c.step.result) c.args.self.now.now c.in-Step.client holds)

pub returns-in-Evict-clause-holds : goal.returns-in-Evict-clause-holds
returns-in-Evict-clause-holds c =
    let holds : Holds c.args.self.now.now = subst Holds (ap (λ (r : Roomy). r.now) c.self.view_is) c.self.invariant.world in
    subst Holds (sym c.evict.ensures.by_rule.leaves) (holds_after_evict c.args.self.now.now c.in-Evict.at holds)

pub returns-in-Crash-clause-holds : goal.returns-in-Crash-clause-holds
returns-in-Crash-clause-holds c =
    let holds : Holds c.args.self.now.now = subst Holds (ap (λ (r : Roomy). r.now) c.self.view_is) c.self.invariant.world in
    subst Holds (sym c.crash.ensures.by_rule.leaves) (holds_after_crash (is_no_memory c.crash.result) c.args.self.now.now holds)

pub returns-in-Recover-clause-holds : goal.returns-in-Recover-clause-holds
returns-in-Recover-clause-holds c =
    let holds : Holds c.args.self.now.now = subst Holds (ap (λ (r : Roomy). r.now) c.self.view_is) c.self.invariant.world in
    subst Holds (sym c.recover_step.ensures.by_rule.leaves) (holds_after_recover (is_no_memory c.recover_step.result) c.args.self.now.now holds)

use Rattle.std.proofs.Common.{subst}
use Rattle.protocol.specs.declared.acts.Act.TheVariants.{Step}
use Rattle.interleave.specs.Calls.{is_no_memory}
use Rattle.interleave.specs.Core.{roomy_over}
use Rattle.interleave.specs.Rules.{GoesOnExplained, IsByRule, stepping}
use Rattle.interleave.specs.Trace.{Roomy}
use Rattle.interleave.proofs.machine.Rules.{goes_on_explained}
use Rattle.interleave.proofs.world.World.step.Goals as goal

pub returns-clause-by_rule : goal.returns-clause-by_rule
returns-clause-by_rule c =
    subst (λ (r : Roomy). IsByRule (stepping c.args.client) r c.step_in.result (roomy_over c.step_in.new.self c.step_in.new.memory.words)) c.self.view_is c.step_in.ensures.by_rule

pub returns-clause-goes_on : goal.returns-clause-goes_on
returns-clause-goes_on c =
    let old : Roomy = roomy_over c.self.inside.core c.self.inside.memory.words in
    let new : Roomy = roomy_over c.step_in.new.self c.step_in.new.memory.words in
    subst (λ (r : Roomy). GoesOnExplained r.now new.now) c.self.view_is
    (goes_on_explained old.now new.now (is_no_memory c.step_in.result) (Step c.args.client) c.self.invariant.world
    c.step_in.ensures.holds.world c.step_in.ensures.by_rule.leaves)

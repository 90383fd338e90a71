use Rattle.std.proofs.Common.{◌≡◌, subst, ap, ◌∙◌}
use Rattle.protocol.specs.declared.acts.Act.TheVariants.{Evict}
use Rattle.interleave.specs.Calls.{is_no_memory}
use Rattle.interleave.specs.Core.{roomy_over}
use Rattle.interleave.specs.Rules.{GoesOnExplained, IsByRule, evicting}
use Rattle.interleave.specs.State.{State, is_down, kept_content, kept_tells, steps_to_ready}
use Rattle.interleave.specs.Trace.{Roomy}
use Rattle.interleave.proofs.machine.Rules.{goes_on_explained}
use Rattle.interleave.proofs.words.KeptWords.{left_evicted, tells_evicted}
use Rattle.interleave.proofs.world.World.evict.Goals as goal

pub returns-clause-by_rule : goal.returns-clause-by_rule
returns-clause-by_rule c =
    subst (λ (r : Roomy). IsByRule (evicting c.args.word) r c.evict_in.result (roomy_over c.evict_in.new.self c.evict_in.new.memory.words)) c.self.view_is c.evict_in.ensures.by_rule

pub returns-clause-goes_on : goal.returns-clause-goes_on
returns-clause-goes_on c =
    let old : Roomy = roomy_over c.self.inside.core c.self.inside.memory.words in
    let new : Roomy = roomy_over c.evict_in.new.self c.evict_in.new.memory.words in
    subst (λ (r : Roomy). GoesOnExplained r.now new.now) c.self.view_is
    (goes_on_explained old.now new.now (is_no_memory c.evict_in.result) (Evict c.args.word) c.self.invariant.world
    c.evict_in.ensures.holds.world c.evict_in.ensures.by_rule.leaves)

pub returns-clause-tells : goal.returns-clause-tells
returns-clause-tells c = λ down.
    let old : State = (roomy_over c.self.inside.core c.self.inside.memory.words).now in
    let was : old ≡ c.args.self.now.now = ap (λ (r : Roomy). r.now) c.self.view_is in
    ap kept_tells c.evict_in.ensures.by_rule.leaves
    ∙ (tells_evicted old c.args.word c.self.invariant.world (ap is_down was ∙ down)).0 ∙ ap kept_tells was

pub returns-clause-holds : goal.returns-clause-holds
returns-clause-holds c = λ down.
    let old : State = (roomy_over c.self.inside.core c.self.inside.memory.words).now in
    let was : old ≡ c.args.self.now.now = ap (λ (r : Roomy). r.now) c.self.view_is in
    ap kept_content c.evict_in.ensures.by_rule.leaves
    ∙ (tells_evicted old c.args.word c.self.invariant.world (ap is_down was ∙ down)).1 ∙ ap kept_content was

pub returns-clause-left : goal.returns-clause-left
returns-clause-left c =
    let old : State = (roomy_over c.self.inside.core c.self.inside.memory.words).now in
    let was : old ≡ c.args.self.now.now = ap (λ (r : Roomy). r.now) c.self.view_is in
    ap steps_to_ready c.evict_in.ensures.by_rule.leaves ∙ left_evicted old c.args.word ∙ ap steps_to_ready was

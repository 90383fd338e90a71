use Rattle.std.proofs.Common.{◌≡◌, sym, subst, ap, ◌∙◌, rules}
use Rattle.words.specs.PlainQueue.{Value, FitsValue}
use Rattle.words.specs.declared.call.Call.TheVariants.{Enq}
use Rattle.protocol.specs.Machine.{FitsCall}
use Rattle.protocol.specs.declared.acts.Act.TheVariants.{Start}
use Rattle.interleave.specs.Calls.{is_no_memory}
use Rattle.interleave.specs.Core.{roomy_over}
use Rattle.interleave.specs.Rules.{GoesOnExplained, IsByRule, starting}
use Rattle.interleave.specs.State.{State, order_in}
use Rattle.interleave.specs.Trace.{Roomy}
use Rattle.interleave.specs.Reuse.{EarlierLeftNothing}
use Rattle.interleave.specs.Turn.{IsInTurn, NobodyCalls}
use Rattle.interleave.proofs.machine.Rules.{goes_on_explained}
use Rattle.interleave.proofs.machine.Holding.{call_fits, explained_world, part_after_start}
use Rattle.interleave.proofs.records.Reuse.{reused_left_nothing}
use Rattle.interleave.proofs.order.TurnReplies.{started_in_turn}
use Rattle.interleave.proofs.world.World.start.Goals as goal

pub returns-clause-by_rule : goal.returns-clause-by_rule
returns-clause-by_rule c =
    subst (λ (r : Roomy). IsByRule (starting c.args.client c.args.number c.args.call) r c.start_in.result (roomy_over c.start_in.new.self c.start_in.new.memory.words)) c.self.view_is c.start_in.ensures.by_rule

pub returns-clause-goes_on : goal.returns-clause-goes_on
returns-clause-goes_on c =
    let old : Roomy = roomy_over c.self.inside.core c.self.inside.memory.words in
    let new : Roomy = roomy_over c.start_in.new.self c.start_in.new.memory.words in
    subst (λ (r : Roomy). GoesOnExplained r.now new.now) c.self.view_is
    (goes_on_explained old.now new.now (is_no_memory c.start_in.result) (Start c.args.client c.args.number c.args.call) c.self.invariant.world
    c.start_in.ensures.holds.world c.start_in.ensures.by_rule.leaves)

pub returns-clause-order : goal.returns-clause-order
returns-clause-order c =
    let old : State = (roomy_over c.self.inside.core c.self.inside.memory.words).now in
    let was : old ≡ c.args.self.now.now = ap (λ (r : Roomy). r.now) c.self.view_is in
    ap order_in c.start_in.ensures.by_rule.leaves
    ∙ part_after_start (is_no_memory c.start_in.result) old c.args.client c.args.number c.args.call ∙ ap order_in was

pub returns-clause-reused : goal.returns-clause-reused
returns-clause-reused c = λ accepted.
    let old : State = (roomy_over c.self.inside.core c.self.inside.memory.words).now in
    let was : old ≡ c.args.self.now.now = ap (λ (r : Roomy). r.now) c.self.view_is in
    let value : (v : Value) → c.args.call ≡ Enq v → FitsValue v = search rules in
    let fits : FitsCall c.args.call = call_fits c.args.call value in
    subst (λ (w : State). EarlierLeftNothing w c.args.client) was
    (reused_left_nothing (is_no_memory c.start_in.result) old c.args.client c.args.number c.args.call
    c.self.invariant.world fits (sym c.start_in.ensures.by_rule.answers ∙ accepted))

pub returns-clause-turn : goal.returns-clause-turn
returns-clause-turn c = λ accepted nobody.
    let old : State = (roomy_over c.self.inside.core c.self.inside.memory.words).now in
    let was : old ≡ c.args.self.now.now = ap (λ (r : Roomy). r.now) c.self.view_is in
    subst (λ (w : State). IsInTurn w c.args.client c.args.call) (sym c.start_in.ensures.by_rule.leaves)
    (started_in_turn (is_no_memory c.start_in.result) old c.args.client c.args.number c.args.call
    (explained_world old c.self.invariant.world) (sym c.start_in.ensures.by_rule.answers ∙ accepted)
    (subst (λ (w : State). NobodyCalls w) (sym was) nobody))

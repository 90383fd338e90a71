use Rattle.std.proofs.Common.{◌++◌, ◌∷◌, [], false, List, length, sym, ap, subst, ◌∙◌}
use Rattle.std.specs.Prelude.{Bool}
use Rattle.words.specs.declared.told.Told.{Told}
use Rattle.persist.specs.Memory.{lent_whole}
use Rattle.arena.specs.Shape.{Shape}
use Rattle.stepper.specs.Step.{IsReadInRange, value_found}
use Rattle.events.specs.declared.event.Event.TheVariants.{Crash as crash_event, Ready as ready_event}
use Rattle.recover.specs.Table.{IsPoint, access_of}
use Rattle.recover.specs.declared.recovery.Recovery.{Recovery}
use Rattle.interleave.specs.State.{State, after_stop, most_to_ready}
use Rattle.explore.proofs.Copied.{Runs, ends, is_point, no_steps, one_step, reads, runs_size}
use Rattle.explore.proofs.copy.recover.Goals as goal

pub loop-steps-init : goal.loop-steps-init
loop-steps-init c =
    let w : State = c.args.world.now.now in
    let many = c.most_to_ready-most.ensures ∙ ap most_to_ready c.layout-layout.ensures in
    subst (λ (r : Recovery). Runs (after_stop w) c.most_to_ready-most.result 0 false r c.args.copy.now.words (lent_whole 0 0 c.args.copy.now))
    (sym c.boot-recovery.ensures)
    (no_steps w c.most_to_ready-most.result c.args.copy.now.words (lent_whole 0 0 c.args.copy.now) c.requires.holds
    c.requires.cached c.requires.kept many)

pub returns-then-ready-clause-steps : goal.returns-then-ready-clause-steps
returns-then-ready-clause-steps c =
    let many = c.most_to_ready-most.ensures ∙ ap most_to_ready c.layout-layout.ensures in
    (ends c.args.world.now.now c.most_to_ready-most.result c.loop-steps.steps c.loop-steps.ready c.loop-steps.recovery c.loop-steps.copy.words
    (lent_whole 0 0 c.loop-steps.copy) many c.loop-steps.invariant c.if-ready.true).steps

pub returns-then-ready-clause-told : goal.returns-then-ready-clause-told
returns-then-ready-clause-told c =
    let many = c.most_to_ready-most.ensures ∙ ap most_to_ready c.layout-layout.ensures in
    c.copied.ensures ∙ c.told.ensures ∙ (ends c.args.world.now.now c.most_to_ready-most.result c.loop-steps.steps c.loop-steps.ready c.loop-steps.recovery c.loop-steps.copy.words
    (lent_whole 0 0 c.loop-steps.copy) many c.loop-steps.invariant c.if-ready.true).told

pub returns-then-ready-clause-kept : goal.returns-then-ready-clause-kept
returns-then-ready-clause-kept c =
    let many = c.most_to_ready-most.ensures ∙ ap most_to_ready c.layout-layout.ensures in
    (ends c.args.world.now.now c.most_to_ready-most.result c.loop-steps.steps c.loop-steps.ready c.loop-steps.recovery c.loop-steps.copy.words
    (lent_whole 0 0 c.loop-steps.copy) many c.loop-steps.invariant c.if-ready.true).kept

pub returns-then-ready-clause-events : goal.returns-then-ready-clause-events
returns-then-ready-clause-events c =
    let w : State = c.args.world.now.now in
    let many = c.most_to_ready-most.ensures ∙ ap most_to_ready c.layout-layout.ensures in
    (ends c.args.world.now.now c.most_to_ready-most.result c.loop-steps.steps c.loop-steps.ready c.loop-steps.recovery c.loop-steps.copy.words
    (lent_whole 0 0 c.loop-steps.copy) many c.loop-steps.invariant c.if-ready.true).events
    ∙ ap (λ (told : List Told). w.log.events ++ crash_event ∷ ready_event told ∷ []) (sym (c.copied.ensures ∙ c.told.ensures))

pub returns-then-ready-clause-size : goal.returns-then-ready-clause-size
returns-then-ready-clause-size c =
    runs_size (after_stop c.args.world.now.now) c.most_to_ready-most.result c.loop-steps.steps c.loop-steps.ready c.loop-steps.recovery
    c.loop-steps.copy.words (lent_whole 0 0 c.loop-steps.copy) c.loop-steps.invariant
    ∙ sym (ap length c.requires.kept)

pub returns-clause-size : goal.returns-clause-size
returns-clause-size c =
    runs_size (after_stop c.args.world.now.now) c.most_to_ready-most.result c.loop-steps.steps c.loop-steps.ready c.loop-steps.recovery
    c.loop-steps.copy.words (lent_whole 0 0 c.loop-steps.copy) c.loop-steps.invariant
    ∙ sym (ap length c.requires.kept)

pub step-ready-requires-clause-point : goal.step-ready-requires-clause-point
step-ready-requires-clause-point c =
    let w : State = c.args.world.now.now in
    let r : Recovery = c.loop-steps.recovery in
    let runs = subst (λ (b : Bool). Runs (after_stop w) c.most_to_ready-most.result c.loop-steps.steps b r c.loop-steps.copy.words (lent_whole 0 0 c.loop-steps.copy)) c.if-ready.false c.loop-steps.invariant in
    subst (λ (s : Shape). IsPoint s r.at) (runs.shape ∙ sym c.layout-layout.ensures) (is_point runs.v r _ _ runs.follows)

pub step-ready-requires-clause-read : goal.step-ready-requires-clause-read
step-ready-requires-clause-read c =
    let w : State = c.args.world.now.now in
    let r : Recovery = c.loop-steps.recovery in
    let runs = subst (λ (b : Bool). Runs (after_stop w) c.most_to_ready-most.result c.loop-steps.steps b r c.loop-steps.copy.words (lent_whole 0 0 c.loop-steps.copy)) c.if-ready.false c.loop-steps.invariant in
    subst (λ (s : Shape). IsReadInRange s (access_of s.kind r.at) (value_found s (access_of s.kind r.at) c.loop-steps.copy.words))
    (runs.shape ∙ sym c.layout-layout.ensures) (reads runs.v r _ _ runs.follows)

pub loop-steps-preserved : goal.loop-steps-preserved
loop-steps-preserved c =
    let w : State = c.args.world.now.now in
    let r : Recovery = c.loop-steps.recovery in
    let runs = subst (λ (b : Bool). Runs (after_stop w) c.most_to_ready-most.result c.loop-steps.steps b r c.loop-steps.copy.words (lent_whole 0 0 c.loop-steps.copy)) c.if-ready.false c.loop-steps.invariant in
    one_step (after_stop w) c.most_to_ready-most.result c.loop-steps.steps r c.step-ready.new.self c.step-ready.result.answer
    c.loop-steps.copy.words c.step-ready.new.memory.words (lent_whole 0 0 c.loop-steps.copy)
    (lent_whole 0 0 c.step-ready.new.memory) c.layout-layout.result.now runs c.loop-steps-test.true c.layout-layout.ensures
    c.step-ready.ensures.one_access c.step-ready.ensures.lent c.step-ready.ensures.next

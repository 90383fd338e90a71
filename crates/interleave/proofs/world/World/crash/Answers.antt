use Rattle.std.proofs.Common.{◌≡◌, true, false, Ok, length, refl, sym, subst, ap, ◌∙◌, arith}
use Rattle.persist.specs.Memory.{Words}
use Rattle.protocol.specs.declared.acts.Act.TheVariants.{Crash}
use Rattle.interleave.specs.Asked.{AreAsked, requests_of}
use Rattle.interleave.specs.Core.{CoreState, roomy_over, state_of}
use Rattle.interleave.specs.Holds.{Holds}
use Rattle.interleave.specs.Rules.{GoesOnExplained, IsByRule, crashing}
use Rattle.interleave.specs.State.{State, after_stop, kept_content, kept_tells, order_in}
use Rattle.interleave.specs.Trace.{Roomy}
use Rattle.interleave.proofs.words.Requests.{asked_at_boot}
use Rattle.interleave.proofs.machine.Rules.{goes_on_explained}
use Rattle.interleave.proofs.machine.Holding.{holds_after_crash, part_after_crash}
use Rattle.interleave.proofs.words.KeptWords.{tells_crashed}
use Rattle.interleave.proofs.machine.Invariants.{room_held}
use Rattle.interleave.proofs.world.World.crash.Goals as goal

pub crash-requires : goal.crash-requires
crash-requires c = room_held c.self.invariant.world

pub invariant_of-self-2 : goal.invariant_of-self-2
invariant_of-self-2 c =
    let old : State = state_of c.self.inside.core c.self.inside.memory.words in
    let left : state_of c.crash.new.self c.crash-2.new.self.words ≡ after_stop old =
    ap (λ (m : Words). state_of c.crash.new.self m) c.crash-2.ensures.words ∙ c.in_ok-crash.ensures.stopped refl c.self.inside.memory.words in
    record {
      world = subst Holds (sym left) (holds_after_crash false old c.self.invariant.world);
      asked = subst (λ (w : State). AreAsked w.shape w.calls w.recovery (requests_of c.crash-2.new.self)) (sym left)
          (asked_at_boot old.shape (length old.calls) (requests_of c.crash-2.new.self));
    }

pub returns-in_err-crash-clause-goes_on : goal.returns-in_err-crash-clause-goes_on
returns-in_err-crash-clause-goes_on c =
    let old : State = state_of c.self.inside.core c.self.inside.memory.words in
    let new : State = state_of c.crash.new.self c.self.inside.memory.words in
    let same : new ≡ old = ap (λ (k : CoreState). state_of k c.self.inside.memory.words) c.in_err-crash.ensures.same in
    subst (λ (r : Roomy). GoesOnExplained r.now new) c.self.view_is
    (goes_on_explained old new true Crash c.self.invariant.world (subst Holds (sym same) c.self.invariant.world) same)

pub returns-clause-by_rule : goal.returns-clause-by_rule
returns-clause-by_rule c =
    let old : State = state_of c.self.inside.core c.self.inside.memory.words in
    let new : Roomy = roomy_over c.crash.new.self c.crash-2.new.self.words in
    let left : new.now ≡ after_stop old =
    ap (λ (m : Words). state_of c.crash.new.self m) c.crash-2.ensures.words ∙ c.in_ok-crash.ensures.stopped refl c.self.inside.memory.words in
    subst (λ (r : Roomy). IsByRule crashing r (Ok tt) new) c.self.view_is
    (record { leaves = left; answers = refl; full = λ full. absurd (cc (full)); room = omega (arith, c.crash.ensures.room); spare = tt })

pub returns-clause-goes_on : goal.returns-clause-goes_on
returns-clause-goes_on c =
    let old : State = state_of c.self.inside.core c.self.inside.memory.words in
    let new : State = state_of c.crash.new.self c.crash-2.new.self.words in
    let left : new ≡ after_stop old =
    ap (λ (m : Words). state_of c.crash.new.self m) c.crash-2.ensures.words ∙ c.in_ok-crash.ensures.stopped refl c.self.inside.memory.words in
    subst (λ (r : Roomy). GoesOnExplained r.now new) c.self.view_is
    (goes_on_explained old new false Crash c.self.invariant.world (invariant_of-self-2 c).world left)

pub returns-clause-order : goal.returns-clause-order
returns-clause-order c =
    ap order_in (returns-clause-by_rule c).leaves ∙ part_after_crash false c.args.self.now.now

pub returns-clause-tells : goal.returns-clause-tells
returns-clause-tells c = ap kept_tells (returns-clause-by_rule c).leaves ∙ (tells_crashed false c.args.self.now.now).0

pub returns-clause-holds : goal.returns-clause-holds
returns-clause-holds c = ap kept_content (returns-clause-by_rule c).leaves ∙ (tells_crashed false c.args.self.now.now).1

use Rattle.std.proofs.Common.{◌≡◌, refl, sym, subst, ap, ◌∙◌, arith}
use Rattle.interleave.specs.Calls.{is_no_memory}
use Rattle.interleave.specs.Core.{state_of}
use Rattle.interleave.specs.Asked.{AreAsked, requests_of}
use Rattle.interleave.specs.Holds.{Holds, IsExplained}
use Rattle.interleave.specs.Rotation.{after_rotate, rotate_result, IsHandedOn}
use Rattle.interleave.specs.State.{IsKeptSound, State, kept_content, kept_tells}
use Rattle.interleave.specs.Trace.{Roomy}
use Rattle.interleave.proofs.words.Requests.{asked_rotated}
use Rattle.interleave.proofs.machine.Holding.{explained_world}
use Rattle.interleave.proofs.words.KeptWords.{kept_sound}
use Rattle.interleave.proofs.machine.Outcomes.{rotated}
use Rattle.interleave.proofs.order.Rotations.{holds_after_rotate, tells_rotated}
use Rattle.interleave.proofs.world.World.rotate.Goals as goal

pub rotate-requires-clause-fit : goal.rotate-requires-clause-fit
rotate-requires-clause-fit c =
    let words = c.self.invariant.world.safe.words in
    record { room = omega (arith, words.room, words.same); fits = words.kept }

pub rotate-requires-clause-sound : goal.rotate-requires-clause-sound
rotate-requires-clause-sound c = kept_sound _ c.self.invariant.world

pub invariant_of-self : goal.invariant_of-self
invariant_of-self c =
    let old : State = state_of c.self.inside.core c.self.inside.memory.words in
    let was : old ≡ c.args.self.now.now = ap (λ (r : Roomy). r.now) c.self.view_is in
    let left : state_of c.rotate.new.self c.self.inside.memory.words ≡ after_rotate (is_no_memory c.rotate.result) old = c.rotate.ensures.world c.self.inside.memory.words refl in
    let answer : rotate_result (is_no_memory c.rotate.result) old ≡ c.rotate.result = sym (c.rotate.ensures.result c.self.inside.memory.words) in
    record {
      world = subst Holds (sym left) (holds_after_rotate (is_no_memory c.rotate.result) old c.self.invariant.world);
      asked = subst (λ (w : State). AreAsked w.shape w.calls w.recovery (requests_of c.self.inside.memory)) (sym left)
          (asked_rotated (is_no_memory c.rotate.result) old (requests_of c.self.inside.memory) c.self.invariant.asked);
    }

pub returns-clause-world : goal.returns-clause-world
returns-clause-world c =
    let old : State = state_of c.self.inside.core c.self.inside.memory.words in
    let was : old ≡ c.args.self.now.now = ap (λ (r : Roomy). r.now) c.self.view_is in
    let left : state_of c.rotate.new.self c.self.inside.memory.words ≡ after_rotate (is_no_memory c.rotate.result) old = c.rotate.ensures.world c.self.inside.memory.words refl in
    let answer : rotate_result (is_no_memory c.rotate.result) old ≡ c.rotate.result = sym (c.rotate.ensures.result c.self.inside.memory.words) in
    left ∙ ap (after_rotate (is_no_memory c.rotate.result)) was

pub returns-clause-result : goal.returns-clause-result
returns-clause-result c =
    let old : State = state_of c.self.inside.core c.self.inside.memory.words in
    let was : old ≡ c.args.self.now.now = ap (λ (r : Roomy). r.now) c.self.view_is in
    let left : state_of c.rotate.new.self c.self.inside.memory.words ≡ after_rotate (is_no_memory c.rotate.result) old = c.rotate.ensures.world c.self.inside.memory.words refl in
    let answer : rotate_result (is_no_memory c.rotate.result) old ≡ c.rotate.result = sym (c.rotate.ensures.result c.self.inside.memory.words) in
    sym answer ∙ ap (rotate_result (is_no_memory c.rotate.result)) was

pub returns-clause-explained : goal.returns-clause-explained
returns-clause-explained c =
    let old : State = state_of c.self.inside.core c.self.inside.memory.words in
    let was : old ≡ c.args.self.now.now = ap (λ (r : Roomy). r.now) c.self.view_is in
    let left : state_of c.rotate.new.self c.self.inside.memory.words ≡ after_rotate (is_no_memory c.rotate.result) old = c.rotate.ensures.world c.self.inside.memory.words refl in
    let answer : rotate_result (is_no_memory c.rotate.result) old ≡ c.rotate.result = sym (c.rotate.ensures.result c.self.inside.memory.words) in
    subst IsExplained (sym left) (explained_world _ (holds_after_rotate (is_no_memory c.rotate.result) old c.self.invariant.world))

pub returns-clause-sound : goal.returns-clause-sound
returns-clause-sound c =
    let old : State = state_of c.self.inside.core c.self.inside.memory.words in
    let was : old ≡ c.args.self.now.now = ap (λ (r : Roomy). r.now) c.self.view_is in
    let left : state_of c.rotate.new.self c.self.inside.memory.words ≡ after_rotate (is_no_memory c.rotate.result) old = c.rotate.ensures.world c.self.inside.memory.words refl in
    let answer : rotate_result (is_no_memory c.rotate.result) old ≡ c.rotate.result = sym (c.rotate.ensures.result c.self.inside.memory.words) in
    subst IsKeptSound (sym left) (kept_sound _ (holds_after_rotate (is_no_memory c.rotate.result) old c.self.invariant.world))

pub returns-clause-tells : goal.returns-clause-tells
returns-clause-tells c =
    let old : State = state_of c.self.inside.core c.self.inside.memory.words in
    let was : old ≡ c.args.self.now.now = ap (λ (r : Roomy). r.now) c.self.view_is in
    let left : state_of c.rotate.new.self c.self.inside.memory.words ≡ after_rotate (is_no_memory c.rotate.result) old = c.rotate.ensures.world c.self.inside.memory.words refl in
    let answer : rotate_result (is_no_memory c.rotate.result) old ≡ c.rotate.result = sym (c.rotate.ensures.result c.self.inside.memory.words) in
    ap kept_tells left ∙ (tells_rotated (is_no_memory c.rotate.result) old).0 ∙ ap kept_tells was

pub returns-clause-holds : goal.returns-clause-holds
returns-clause-holds c =
    let old : State = state_of c.self.inside.core c.self.inside.memory.words in
    let was : old ≡ c.args.self.now.now = ap (λ (r : Roomy). r.now) c.self.view_is in
    let left : state_of c.rotate.new.self c.self.inside.memory.words ≡ after_rotate (is_no_memory c.rotate.result) old = c.rotate.ensures.world c.self.inside.memory.words refl in
    let answer : rotate_result (is_no_memory c.rotate.result) old ≡ c.rotate.result = sym (c.rotate.ensures.result c.self.inside.memory.words) in
    ap kept_content left ∙ (tells_rotated (is_no_memory c.rotate.result) old).1 ∙ ap kept_content was

pub returns-clause-handed_on : goal.returns-clause-handed_on
returns-clause-handed_on c = λ ok.
    let old : State = state_of c.self.inside.core c.self.inside.memory.words in
    let new : State = state_of c.rotate.new.self c.self.inside.memory.words in
    let full = is_no_memory c.rotate.result in
    let left : new ≡ after_rotate full old = c.rotate.ensures.world c.self.inside.memory.words refl in
    subst (λ (r : Roomy). IsHandedOn r.now new) c.self.view_is
    (subst (IsHandedOn old) (sym left) (rotated full old c.self.invariant.world (sym (c.rotate.ensures.result c.self.inside.memory.words) ∙ ok)))

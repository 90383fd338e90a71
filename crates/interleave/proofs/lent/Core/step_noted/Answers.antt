use Rattle.std.proofs.Common.{Ok, Err, Option, Result, Bool, ap, refl, true, false, length, ◌≤◌, ◌<◌, ◌+◌, ℕ, subst, ◌≡◌, None, Some, is_some, slice_get, slice_index_or, sym, ◌∙◌, arith}
use Rattle.std.proofs.lemmas.Bool.{false≢true}
use Rattle.std.specs.Prelude.{IsSome, IsErr, IsErrAnd}
use Rattle.persist.specs.Memory.{Words}
use Rattle.stepper.specs.Step.{lent_after_one}
use Rattle.words.specs.declared.call.Reply.{Reply}
use Rattle.words.specs.declared.call.Client.{Client}
use Rattle.words.specs.declared.refusal.Refusal.{Refusal}
use Rattle.words.specs.declared.refusal.Refusal.TheVariants.{Idle, NoClient, NotReady}
use Rattle.persist.specs.Noted.{answer_in}
use Rattle.persist.specs.declared.access.Noted.{Noted}
use Rattle.helping.specs.Table.{access_of}
use Rattle.protocol.specs.Machine.{effects_after, next_of}
use Rattle.protocol.specs.declared.UnderWay.{UnderWay}
use Rattle.protocol.proofs.Facts.{step_room}
use Rattle.interleave.specs.Asked.{lent_with}
use Rattle.interleave.specs.Calls.{answer_of, is_no_memory, waiting_result}
use Rattle.interleave.specs.Core.{CoreState, machine_over, roomy_over, state_of}
use Rattle.interleave.specs.Effects.{AreInSequence}
use Rattle.interleave.specs.Holds.{Holds, from_invariant}
use Rattle.interleave.specs.Queue.{after_return}
use Rattle.interleave.specs.Rules.{IsByRule, stepping, waiting_in}
use Rattle.interleave.specs.State.{State, after_step, is_down, machine, queue_left, step_result_with, step_with}
use Rattle.interleave.specs.Stepped.{IsSteppedBy}
use Rattle.interleave.specs.Trace.{Roomy, state_with}
use Rattle.interleave.specs.declared.queue.Queue.{Queue}
use Rattle.interleave.proofs.machine.Calls.{call_there, of_call, the_call}
use Rattle.interleave.proofs.machine.Holding.{holds_after_step, may_step, waiting_is}
use Rattle.interleave.proofs.machine.Invariants.{room_held, sequence_held}
use Rattle.interleave.proofs.machine.Changes.{act_noted}
use Rattle.interleave.proofs.words.Ranges.{call_fits}
use Rattle.interleave.proofs.machine.Steps.{queue_answered, queue_still, stepped_rest}
use Rattle.interleave.proofs.lent.Core.step_noted.Goals as goal

-- a step that is refused, for this reason
abbrev stopped : Refusal → Result (Option Reply) Refusal
stopped e = Err e

answered_so : (r : Result (Noted (Option Reply)) Refusal) (e : Refusal) → IsErr r × IsErrAnd r (λ y. y ≡ e) → answer_in r ≡ stopped e
answered_so (Ok x) e is = absurd (cc (is.0))
answered_so (Err y) e is = ap stopped is.1

-- where the call cannot go on, nothing is done
not_stepped : (old : Roomy) (client : Client) (e : Refusal) → waiting_in old.now client ≡ Err e → IsByRule (stepping client) old (stopped e) old
not_stepped old client e why = record {
  leaves = sym (ap (step_with (is_no_memory (stopped e)) old.now client) why);
  answers = sym (ap (step_result_with (is_no_memory (stopped e)) old.now) why);
  full = λ full. absurd (false≢true (sym (not_for_memory (is_down old.now) (slice_get old.now.calls client.0) why) ∙ full));
  room = omega arith;
  spare = omega arith;
}
  where
    not_for_memory : (down : Bool) (o : Option (Option UnderWay)) → waiting_result down o ≡ Err e → is_no_memory (stopped e) ≡ false
    not_for_memory down None is = let same : NoClient ≡ e = cc (is) in subst (λ (x : Refusal). is_no_memory (stopped x) ≡ false) same refl
    not_for_memory true (Some call) is = let same : NotReady ≡ e = cc (is) in subst (λ (x : Refusal). is_no_memory (stopped x) ≡ false) same refl
    not_for_memory false (Some None) is = let same : Idle ≡ e = cc (is) in subst (λ (x : Refusal). is_no_memory (stopped x) ≡ false) same refl
    not_for_memory false (Some (Some u)) is = absurd (cc (is))

none_there : (o : Option Reply) → is_some o ≡ false → None ≡ o
none_there None none = refl
none_there (Some reply) none = absurd (false≢true (sym none))

one_less : (old now new : ℕ) → old ≤ now → now ≤ new + 1 → old ≤ new + 1
one_less old now new kept room = omega arith

up_to_one : (old new : ℕ) → old ≤ new → old ≤ new + 1
up_to_one old new kept = omega arith

no_more : (room : ℕ) → room < 1 → room ≡ 0
no_more room full = omega arith

pub reserve-requires : goal.reserve-requires
reserve-requires g c = room_held c.requires.holds

pub advance-noted-requires-clause-waits : goal.advance-noted-requires-clause-waits
advance-noted-requires-clause-waits g c =
    let old : CoreState = c.args.self.now in
    let now : CoreState = c.reserve.new.self in
    let ws : Words = g.M.WordMemory.words c.args.memory.now in
    let u : UnderWay = c.in_ok-begun.field-0.now in
    let waits : slice_get old.calls c.args.client.0 ≡ Some (Some u) = waiting_is _ (slice_get old.calls c.args.client.0) u c.in_ok-begun.ensures.ok in
    let there : slice_index_or now.calls c.args.client.0 None ≡ Some u =
    ap (λ (k : CoreState). slice_index_or k.calls c.args.client.0 None) c.reserve.ensures.same ∙ call_there old.calls c.args.client.0 u waits in
    subst (λ o. IsSome o) (sym there) refl

pub advance-noted-requires-clause-sequence : goal.advance-noted-requires-clause-sequence
advance-noted-requires-clause-sequence g c =
    subst (λ (k : CoreState). AreInSequence k.trace.log.effects) (sym c.reserve.ensures.same) (sequence_held c.requires.holds)

pub advance-noted-requires-clause-effects : goal.advance-noted-requires-clause-effects
advance-noted-requires-clause-effects g c =
    let old : CoreState = c.args.self.now in
    let now : CoreState = c.reserve.new.self in
    let ws : Words = g.M.WordMemory.words c.args.memory.now in
    let u : UnderWay = c.in_ok-begun.field-0.now in
    let waits : slice_get old.calls c.args.client.0 ≡ Some (Some u) = waiting_is _ (slice_get old.calls c.args.client.0) u c.in_ok-begun.ensures.ok in
    let there : slice_index_or now.calls c.args.client.0 None ≡ Some u =
    ap (λ (k : CoreState). slice_index_or k.calls c.args.client.0 None) c.reserve.ensures.same ∙ call_there old.calls c.args.client.0 u waits in
    let fact = step_room (machine (state_of old ws)) (from_invariant _ c.requires.holds.inv) c.args.client u (may_step (state_of old ws) c.args.client u c.requires.holds waits) in
    of_call now.calls c.args.client u (λ call. length (effects_after (machine_over now ws) call call.op) ≤ length now.trace.log.events) there
    (subst (λ (k : CoreState). length (effects_after (machine_over k ws) u u.op) ≤ length k.trace.log.events) (sym c.reserve.ensures.same) fact)

pub returned-requires : goal.returned-requires
returned-requires g c =
    let old : CoreState = c.args.self.now in
    let u : UnderWay = c.in_ok-begun.field-0.now in
    let waits : slice_get old.calls c.args.client.0 ≡ Some (Some u) = waiting_is _ (slice_get old.calls c.args.client.0) u c.in_ok-begun.ensures.ok in
    omega (arith, (call_fits old.shape _ old.calls c.args.client.0 u c.requires.holds.safe waits).begun.client, c.requires.holds.safe.few)

pub returns-then-is_none-clause-noted : goal.returns-then-is_none-clause-noted
returns-then-is_none-clause-noted g c =
    let old : CoreState = c.args.self.now in
    let now : CoreState = c.reserve.new.self in
    let ws : Words = g.M.WordMemory.words c.args.memory.now in
    let u : UnderWay = c.in_ok-begun.field-0.now in
    let waits : slice_get old.calls c.args.client.0 ≡ Some (Some u) = waiting_is _ (slice_get old.calls c.args.client.0) u c.in_ok-begun.ensures.ok in
    let there : slice_index_or now.calls c.args.client.0 None ≡ Some u =
    ap (λ (k : CoreState). slice_index_or k.calls c.args.client.0 None) c.reserve.ensures.same ∙ call_there old.calls c.args.client.0 u waits in
    let left : Words = g.M.WordMemory.words c.advance-noted.new.memory in
    let step = the_call now.calls c.args.client u (λ call. IsSteppedBy call c.args.client now ws c.advance-noted.new.self left c.advance-noted.result) there c.advance-noted.ensures.step in
    act_noted now.shape (access_of now.shape.kind u.op) ws left c.advance-noted.result.change c.requires.holds.safe.words.same step.words step.change

pub returns-then-is_none-clause-lent : goal.returns-then-is_none-clause-lent
returns-then-is_none-clause-lent g c =
    let old : CoreState = c.args.self.now in
    let now : CoreState = c.reserve.new.self in
    let ws : Words = g.M.WordMemory.words c.args.memory.now in
    let u : UnderWay = c.in_ok-begun.field-0.now in
    let waits : slice_get old.calls c.args.client.0 ≡ Some (Some u) = waiting_is _ (slice_get old.calls c.args.client.0) u c.in_ok-begun.ensures.ok in
    let there : slice_index_or now.calls c.args.client.0 None ≡ Some u =
    ap (λ (k : CoreState). slice_index_or k.calls c.args.client.0 None) c.reserve.ensures.same ∙ call_there old.calls c.args.client.0 u waits in
    let before = g.M.WordMemory.lent c.args.memory.now in
    the_call now.calls c.args.client u (λ call. g.M.WordMemory.lent c.advance-noted.new.memory ≡ lent_after_one now.shape (access_of now.shape.kind call.op) before) there c.advance-noted.ensures.lent
    ∙ ap (λ (k : CoreState). lent_after_one k.shape (access_of k.shape.kind u.op) before) c.reserve.ensures.same
    ∙ ap (lent_with false (state_of old ws) before) (sym c.in_ok-begun.ensures.ok)

pub returns-then-is_none-clause-by_rule : goal.returns-then-is_none-clause-by_rule
returns-then-is_none-clause-by_rule g c =
    let old : CoreState = c.args.self.now in
    let now : CoreState = c.reserve.new.self in
    let ws : Words = g.M.WordMemory.words c.args.memory.now in
    let u : UnderWay = c.in_ok-begun.field-0.now in
    let waits : slice_get old.calls c.args.client.0 ≡ Some (Some u) = waiting_is _ (slice_get old.calls c.args.client.0) u c.in_ok-begun.ensures.ok in
    let there : slice_index_or now.calls c.args.client.0 None ≡ Some u =
    ap (λ (k : CoreState). slice_index_or k.calls c.args.client.0 None) c.reserve.ensures.same ∙ call_there old.calls c.args.client.0 u waits in
    let left : Words = g.M.WordMemory.words c.advance-noted.new.memory in
    let new : CoreState = c.advance-noted.new.self in
    let made = the_call now.calls c.args.client u (λ call. IsSteppedBy call c.args.client now ws new left c.advance-noted.result) there c.advance-noted.ensures.step in
    let answer : c.advance-noted.result.answer ≡ answer_of (next_of (machine_over now ws) u) = made.answer in
    let rest = stepped_rest now new ws left c.args.client u c.advance-noted.result made c.advance-noted.ensures.shape
    c.advance-noted.ensures.base c.advance-noted.ensures.told c.advance-noted.ensures.recovery in
    let step = ap (λ (k : CoreState). step_with false (state_of k ws) c.args.client (Ok u)) c.reserve.ensures.same ∙ ap (step_with false (state_of old ws) c.args.client) (sym c.in_ok-begun.ensures.ok) in
    let queue : new.queue ≡ queue_left now.queue u (next_of (machine_over now ws) u) =
    c.advance-noted.ensures.queue ∙ sym (queue_still now.queue u (next_of (machine_over now ws) u) (ap is_some (sym answer) ∙ c.if-is_none.ensures)) in
    let world : state_of new left ≡ after_step false (state_of old ws) c.args.client =
    ap (λ (q : Queue). state_with new.shape left q new.calls new.trace) queue ∙ rest ∙ step in
    record {
      leaves = world;
      answers = ap (λ (a : Option Reply). let x : Result (Option Reply) Refusal = Ok a in x) (none_there c.advance-noted.result.answer c.if-is_none.ensures ∙ answer)
          ∙ ap (λ (k : CoreState). step_result_with false (state_of k ws) (Ok u)) c.reserve.ensures.same ∙ ap (step_result_with false (state_of old ws)) (sym c.in_ok-begun.ensures.ok);
      full = λ full. absurd (false≢true full);
      room = one_less _ _ _ c.reserve.ensures.kept c.advance-noted.ensures.room;
      spare = tt;
    }

pub returns-then-is_none-clause-holds : goal.returns-then-is_none-clause-holds
returns-then-is_none-clause-holds g c =
    let old : CoreState = c.args.self.now in
    let ws : Words = g.M.WordMemory.words c.args.memory.now in
    subst Holds (sym (returns-then-is_none-clause-by_rule g c).leaves) (holds_after_step false (state_of old ws) c.args.client c.requires.holds)

pub returns-clause-noted : goal.returns-clause-noted
returns-clause-noted g c =
    let old : CoreState = c.args.self.now in
    let now : CoreState = c.reserve.new.self in
    let ws : Words = g.M.WordMemory.words c.args.memory.now in
    let u : UnderWay = c.in_ok-begun.field-0.now in
    let waits : slice_get old.calls c.args.client.0 ≡ Some (Some u) = waiting_is _ (slice_get old.calls c.args.client.0) u c.in_ok-begun.ensures.ok in
    let there : slice_index_or now.calls c.args.client.0 None ≡ Some u =
    ap (λ (k : CoreState). slice_index_or k.calls c.args.client.0 None) c.reserve.ensures.same ∙ call_there old.calls c.args.client.0 u waits in
    let left : Words = g.M.WordMemory.words c.advance-noted.new.memory in
    let step = the_call now.calls c.args.client u (λ call. IsSteppedBy call c.args.client now ws c.advance-noted.new.self left c.advance-noted.result) there c.advance-noted.ensures.step in
    act_noted now.shape (access_of now.shape.kind u.op) ws left c.advance-noted.result.change c.requires.holds.safe.words.same step.words step.change

pub returns-clause-lent : goal.returns-clause-lent
returns-clause-lent g c =
    let old : CoreState = c.args.self.now in
    let now : CoreState = c.reserve.new.self in
    let ws : Words = g.M.WordMemory.words c.args.memory.now in
    let u : UnderWay = c.in_ok-begun.field-0.now in
    let waits : slice_get old.calls c.args.client.0 ≡ Some (Some u) = waiting_is _ (slice_get old.calls c.args.client.0) u c.in_ok-begun.ensures.ok in
    let there : slice_index_or now.calls c.args.client.0 None ≡ Some u =
    ap (λ (k : CoreState). slice_index_or k.calls c.args.client.0 None) c.reserve.ensures.same ∙ call_there old.calls c.args.client.0 u waits in
    let before = g.M.WordMemory.lent c.args.memory.now in
    the_call now.calls c.args.client u (λ call. g.M.WordMemory.lent c.advance-noted.new.memory ≡ lent_after_one now.shape (access_of now.shape.kind call.op) before) there c.advance-noted.ensures.lent
    ∙ ap (λ (k : CoreState). lent_after_one k.shape (access_of k.shape.kind u.op) before) c.reserve.ensures.same
    ∙ ap (lent_with false (state_of old ws) before) (sym c.in_ok-begun.ensures.ok)

pub returns-clause-by_rule : goal.returns-clause-by_rule
returns-clause-by_rule g c =
    let old : CoreState = c.args.self.now in
    let now : CoreState = c.reserve.new.self in
    let ws : Words = g.M.WordMemory.words c.args.memory.now in
    let u : UnderWay = c.in_ok-begun.field-0.now in
    let waits : slice_get old.calls c.args.client.0 ≡ Some (Some u) = waiting_is _ (slice_get old.calls c.args.client.0) u c.in_ok-begun.ensures.ok in
    let there : slice_index_or now.calls c.args.client.0 None ≡ Some u =
    ap (λ (k : CoreState). slice_index_or k.calls c.args.client.0 None) c.reserve.ensures.same ∙ call_there old.calls c.args.client.0 u waits in
    let left : Words = g.M.WordMemory.words c.advance-noted.new.memory in
    let new : CoreState = c.advance-noted.new.self in
    let made = the_call now.calls c.args.client u (λ call. IsSteppedBy call c.args.client now ws new left c.advance-noted.result) there c.advance-noted.ensures.step in
    let answer : c.advance-noted.result.answer ≡ answer_of (next_of (machine_over now ws) u) = made.answer in
    let rest = stepped_rest now new ws left c.args.client u c.advance-noted.result made c.advance-noted.ensures.shape
    c.advance-noted.ensures.base c.advance-noted.ensures.told c.advance-noted.ensures.recovery in
    let step = ap (λ (k : CoreState). step_with false (state_of k ws) c.args.client (Ok u)) c.reserve.ensures.same ∙ ap (step_with false (state_of old ws) c.args.client) (sym c.in_ok-begun.ensures.ok) in
    let queue : c.returned.new.self ≡ queue_left now.queue u (next_of (machine_over now ws) u) =
    c.returned.ensures ∙ ap (λ (q : Queue). after_return q u.begun.client u.begun.number) (ap (λ (k : CoreState). k.queue) c.self.view_is ∙ c.advance-noted.ensures.queue)
    ∙ sym (queue_answered now.queue u (next_of (machine_over now ws) u) (ap is_some (sym answer) ∙ c.if-is_none.ensures)) in
    let world : state_with c.self.inside.layout left c.returned.new.self c.self.inside.calls c.self.inside.trace ≡ after_step false (state_of old ws) c.args.client =
    ap (λ (k : CoreState). state_with k.shape left c.returned.new.self k.calls k.trace) c.self.view_is
    ∙ ap (λ (q : Queue). state_with new.shape left q new.calls new.trace) queue ∙ rest ∙ step in
    record {
      leaves = world;
      answers = ap (λ (a : Option Reply). let x : Result (Option Reply) Refusal = Ok a in x) answer
          ∙ ap (λ (k : CoreState). step_result_with false (state_of k ws) (Ok u)) c.reserve.ensures.same ∙ ap (step_result_with false (state_of old ws)) (sym c.in_ok-begun.ensures.ok);
      full = λ full. absurd (cc (full));
      room = subst (λ (k : CoreState). old.trace.room ≤ k.trace.room + 1) (sym c.self.view_is) (omega (arith, c.reserve.ensures.kept, c.advance-noted.ensures.room));
      spare = tt;
    }

pub returns-clause-holds : goal.returns-clause-holds
returns-clause-holds g c =
    let old : CoreState = c.args.self.now in
    let ws : Words = g.M.WordMemory.words c.args.memory.now in
    subst Holds (sym (returns-clause-by_rule g c).leaves) (holds_after_step false (state_of old ws) c.args.client c.requires.holds)

pub returns-in_err-begun-clause-by_rule : goal.returns-in_err-begun-clause-by_rule
returns-in_err-begun-clause-by_rule g c =
    let old : Roomy = roomy_over c.args.self.now (g.M.WordMemory.words c.args.memory.now) in
    subst (λ (r : Result (Option Reply) Refusal). IsByRule (stepping c.args.client) old r old)
    (sym (answered_so c.from_residual.result c.in_err-begun.field-0.0 c.from_residual.ensures))
    (not_stepped old c.args.client c.in_err-begun.field-0.0 c.in_err-begun.ensures.errors)

pub returns-in_err-begun-clause-lent : goal.returns-in_err-begun-clause-lent
returns-in_err-begun-clause-lent g c =
    let w : State = state_of c.args.self.now (g.M.WordMemory.words c.args.memory.now) in
    sym (ap (lent_with (is_no_memory (answer_in c.from_residual.result)) w (g.M.WordMemory.lent c.args.memory.now)) c.in_err-begun.ensures.errors)

pub returns-in_err-reserve-clause-by_rule : goal.returns-in_err-reserve-clause-by_rule
returns-in_err-reserve-clause-by_rule g c =
    let old : CoreState = c.args.self.now in
    let ws : Words = g.M.WordMemory.words c.args.memory.now in
    subst (λ (r : Result (Option Reply) Refusal). IsByRule (stepping c.args.client) (roomy_over old ws) r (roomy_over c.reserve.new.self ws))
    (sym (answered_so c.from_residual-in_err-reserve.result c.in_err-reserve.field-0.0 c.from_residual-in_err-reserve.ensures ∙ ap (λ (e : Refusal). stopped e) c.in_err-reserve.ensures.errors))
    (record {
      leaves = ap (λ (k : CoreState). state_of k ws) c.reserve.ensures.same ∙ sym (ap (step_with true (state_of old ws) c.args.client) c.in_ok-begun.ensures.ok);
      answers = sym (ap (step_result_with true (state_of old ws)) c.in_ok-begun.ensures.ok);
      full = λ _. no_more _ c.in_err-reserve.ensures.full;
      room = up_to_one _ _ c.reserve.ensures.kept;
      spare = c.reserve.ensures.kept;
    })

pub returns-in_err-reserve-clause-lent : goal.returns-in_err-reserve-clause-lent
returns-in_err-reserve-clause-lent g c =
    let w : State = state_of c.args.self.now (g.M.WordMemory.words c.args.memory.now) in
    let before = g.M.WordMemory.lent c.args.memory.now in
    let full : is_no_memory (answer_in c.from_residual-in_err-reserve.result) ≡ true =
    ap is_no_memory (answered_so c.from_residual-in_err-reserve.result c.in_err-reserve.field-0.0 c.from_residual-in_err-reserve.ensures ∙ ap (λ (e : Refusal). stopped e) c.in_err-reserve.ensures.errors) in
    sym (ap (λ (b : Bool). lent_with b w before (waiting_in w c.args.client)) full ∙ ap (lent_with true w before) c.in_ok-begun.ensures.ok)

use Rattle.std.proofs.Common.{◌≡◌, ℕ, suc, ◌+◌, ◌≤◌, ◌<◌, Bool, true, false, Some, None, Result, Ok, Err, slice_get, slice_index_or, refl, sym, ap, ◌∙◌, subst, arith, rules}
use Rattle.std.proofs.lemmas.Bool.{false≢true}
use Rattle.words.specs.declared.refusal.Refusal.{Refusal}
use Rattle.persist.specs.Memory.{Lent, Words}
use Rattle.protocol.specs.Machine.{next_of}
use Rattle.protocol.specs.declared.UnderWay.{UnderWay}
use Rattle.interleave.specs.Asked.{IfCallAsked, lent_after_alone, lent_after_step}
use Rattle.interleave.specs.Calls.{answer_of, is_no_memory}
use Rattle.interleave.specs.Core.{CoreState, state_of}
use Rattle.interleave.specs.Holds.{Holds}
use Rattle.interleave.specs.Rules.{waiting_in}
use Rattle.interleave.specs.State.{State, machine, after_one_access, after_step, after_alone, IsAnsweredAlone}
use Rattle.interleave.specs.State.{step_result}
use Rattle.interleave.proofs.words.Requests.{own_stepped}
use Rattle.interleave.proofs.runs.AloneCalls.{left_in, left_few, step_is, answer_is, goes_on}
use Rattle.interleave.proofs.machine.Holding.{waiting_is}
use Rattle.interleave.proofs.machine.Invariants.{room_held}
use Rattle.interleave.proofs.lent.Core.run_alone.Goals as goal

-- facts of numbers and answers, over plain variables: the tactics read no whole context for them
not_both : {T : Type 0} (r : Result T Refusal) (x : T) (e : Refusal) → r ≡ Ok x → r ≡ Err e → ⊥
not_both (Ok y) x e ok err = cc (err)
not_both (Err y) x e ok err = cc (ok)

same_answer : {T : Type 0} (a b x : T) → (let r : Result T Refusal = Ok a in r) ≡ Ok b → a ≡ x → b ≡ x
same_answer a b x same is = let ab : a ≡ b = cc (same) in sym ab ∙ is

not_empty : (room : ℕ) → 0 < room → room ≡ 0 → ⊥
not_empty room some none = omega arith

one_more : (n : ℕ) → suc n ≡ n + 1
one_more n = omega arith

none_made : (left most : ℕ) → left ≤ most → 0 + left ≤ most
none_made left most few = omega arith

one_made : (n before after most : ℕ) → after < before → n + before ≤ most → n + 1 + after ≤ most
one_made n before after most fewer few = omega arith

still_room : (old new : ℕ) → 0 < old → old ≤ new → 0 < new
still_room old new some stays = omega arith

still_as_much : (first old new : ℕ) → first ≤ old → old ≤ new → first ≤ new
still_as_much first old new held stays = omega arith

pub reserve-requires : goal.reserve-requires
reserve-requires g c = room_held c.requires.holds

pub loop-answer-init : goal.loop-answer-init
loop-answer-init g c =
    let ws : Words = g.M.WordMemory.words c.args.memory.now in
    let old : State = state_of c.args.self.now ws in
    let same : state_of c.reserve.new.self ws ≡ old = ap (λ (k : CoreState). state_of k ws) c.reserve.ensures.same in
    let u : UnderWay = c.in_ok-waiting.field-0.now in
    let here : slice_get old.calls c.args.client.0 ≡ Some (Some u) =
    waiting_is _ (slice_get old.calls c.args.client.0) u c.in_ok-waiting.ensures.ok in
    record {
      world = same;
      client = refl;
      holds = subst Holds (sym same) c.requires.holds;
      asked = subst (λ (k : CoreState). IfCallAsked k.shape (slice_index_or k.calls c.args.client.0 None) (g.M.WordMemory.lent c.args.memory.now).request) (sym c.reserve.ensures.same) c.requires.asked;
      lent = refl;
      waits = record { call = u; is = subst (λ (w : State). slice_get w.calls c.args.client.0 ≡ Some (Some u)) (sym same) here };
      left = none_made _ _ (left_few (state_of c.reserve.new.self ws) c.args.client);
      room = search rules;
      at_first = c.reserve.ensures.kept;
    }

pub step-requires : goal.step-requires
step-requires g c = record { holds = c.loop-answer.invariant.holds; asked = c.loop-answer.invariant.asked }

not_true : (b : Bool) → (b ≡ true → ⊥) → b ≡ false
not_true true h = absurd (h refl)
not_true false h = refl

-- a step of a call that has room is not refused
pub returns-in_err-answer-clause-alone : goal.returns-in_err-answer-clause-alone
returns-in_err-answer-clause-alone g c =
    let w : State = state_of c.loop-answer.self (g.M.WordMemory.words c.loop-answer.memory) in
    let u : UnderWay = c.loop-answer.invariant.waits.call in
    let paid : is_no_memory c.step.result ≡ false = not_true (is_no_memory c.step.result) (λ e. not_empty _ c.loop-answer.invariant.room (c.step.ensures.by_rule.full e)) in
    let answered : c.step.result ≡ Ok (answer_of (next_of (machine w) u)) = c.step.ensures.by_rule.answers ∙ ap (λ (b : Bool). step_result b w c.args.client) paid ∙ answer_is w c.args.client u c.loop-answer.invariant.waits.is c.loop-answer.invariant.holds in
    absurd (not_both _ _ _ answered c.in_err-answer.was)

pub returns-in_err-answer-clause-left : goal.returns-in_err-answer-clause-left
returns-in_err-answer-clause-left g c =
    let w : State = state_of c.loop-answer.self (g.M.WordMemory.words c.loop-answer.memory) in
    let u : UnderWay = c.loop-answer.invariant.waits.call in
    let paid : is_no_memory c.step.result ≡ false = not_true (is_no_memory c.step.result) (λ e. not_empty _ c.loop-answer.invariant.room (c.step.ensures.by_rule.full e)) in
    let answered : c.step.result ≡ Ok (answer_of (next_of (machine w) u)) = c.step.ensures.by_rule.answers ∙ ap (λ (b : Bool). step_result b w c.args.client) paid ∙ answer_is w c.args.client u c.loop-answer.invariant.waits.is c.loop-answer.invariant.holds in
    absurd (not_both _ _ _ answered c.in_err-answer.was)

pub loop-answer-smaller : goal.loop-answer-smaller
loop-answer-smaller g c =
    let w : State = state_of c.loop-answer.self (g.M.WordMemory.words c.loop-answer.memory) in
    let v : State = state_of c.step.new.self (g.M.WordMemory.words c.step.new.memory) in
    let u : UnderWay = c.loop-answer.invariant.waits.call in
    let here : slice_get w.calls c.args.client.0 ≡ Some (Some u) = c.loop-answer.invariant.waits.is in
    let paid : is_no_memory c.step.result ≡ false = ap is_no_memory c.in_ok-answer.was in
    let stepped : v ≡ after_one_access w c.args.client u = c.step.ensures.by_rule.leaves ∙ ap (λ (b : Bool). after_step b w c.args.client) paid ∙ step_is w c.args.client u here c.loop-answer.invariant.holds in
    let answered : Ok c.in_ok-answer.answer ≡ Ok (answer_of (next_of (machine w) u)) = sym c.in_ok-answer.was ∙ c.step.ensures.by_rule.answers ∙ ap (λ (b : Bool). step_result b w c.args.client) paid ∙ answer_is w c.args.client u here c.loop-answer.invariant.holds in
    let none : answer_of (next_of (machine w) u) ≡ None = same_answer _ _ None answered c.in_default.is in
    let on = goes_on w c.args.client u here c.loop-answer.invariant.holds none in
    subst (λ (x : State). left_in x c.args.client < left_in w c.args.client) (sym stepped) on.fewer

pub loop-answer-preserved : goal.loop-answer-preserved
loop-answer-preserved g c =
    let old : State = state_of c.args.self.now (g.M.WordMemory.words c.args.memory.now) in
    let w : State = state_of c.loop-answer.self (g.M.WordMemory.words c.loop-answer.memory) in
    let v : State = state_of c.step.new.self (g.M.WordMemory.words c.step.new.memory) in
    let u : UnderWay = c.loop-answer.invariant.waits.call in
    let here : slice_get w.calls c.args.client.0 ≡ Some (Some u) = c.loop-answer.invariant.waits.is in
    let paid : is_no_memory c.step.result ≡ false = ap is_no_memory c.in_ok-answer.was in
    let stepped : v ≡ after_one_access w c.args.client u = c.step.ensures.by_rule.leaves ∙ ap (λ (b : Bool). after_step b w c.args.client) paid ∙ step_is w c.args.client u here c.loop-answer.invariant.holds in
    let answered : Ok c.in_ok-answer.answer ≡ Ok (answer_of (next_of (machine w) u)) = sym c.in_ok-answer.was ∙ c.step.ensures.by_rule.answers ∙ ap (λ (b : Bool). step_result b w c.args.client) paid ∙ answer_is w c.args.client u here c.loop-answer.invariant.holds in
    let none : answer_of (next_of (machine w) u) ≡ None = same_answer _ _ None answered c.in_default.is in
    let on = goes_on w c.args.client u here c.loop-answer.invariant.holds none in
    let fewer : left_in v c.args.client < left_in w c.args.client = subst (λ (x : State). left_in x c.args.client < left_in w c.args.client) (sym stepped) on.fewer in
    let stays : c.loop-answer.self.trace.room ≤ c.step.new.self.trace.room = c.step.ensures.stays (c.in_ok-answer.was ∙ ap Ok c.in_default.is) in
    record {
      world =
          let more : suc c.loop-answer.steps ≡ c.loop-answer.steps + 1 = one_more c.loop-answer.steps in
          c.step.ensures.by_rule.leaves ∙ ap (λ (b : Bool). after_step b w c.args.client) paid
          ∙ ap (λ (x : State). after_step false x c.args.client) c.loop-answer.invariant.world
          ∙ ap (λ (n : ℕ). after_alone n old c.args.client) more;
      client = refl;
      holds = c.step.ensures.holds;
      asked =
          let now = own_stepped w c.args.client (g.M.WordMemory.lent c.loop-answer.memory) c.loop-answer.invariant.holds c.loop-answer.invariant.asked in
          let left : g.M.WordMemory.lent c.step.new.memory ≡ lent_after_step false w c.args.client (g.M.WordMemory.lent c.loop-answer.memory) =
          c.step.ensures.lent ∙ ap (λ (b : Bool). lent_after_step b w c.args.client (g.M.WordMemory.lent c.loop-answer.memory)) paid in
          let v_is : v ≡ after_step false w c.args.client = c.step.ensures.by_rule.leaves ∙ ap (λ (b : Bool). after_step b w c.args.client) paid in
          subst (λ (x : State). IfCallAsked x.shape (slice_index_or x.calls c.args.client.0 None) (g.M.WordMemory.lent c.step.new.memory).request) (sym v_is)
          (subst (λ (l : Lent). IfCallAsked (after_step false w c.args.client).shape (slice_index_or (after_step false w c.args.client).calls c.args.client.0 None) l.request) (sym left) now);
      lent =
          let more : suc c.loop-answer.steps ≡ c.loop-answer.steps + 1 = one_more c.loop-answer.steps in
          c.step.ensures.lent ∙ ap (λ (b : Bool). lent_after_step b w c.args.client (g.M.WordMemory.lent c.loop-answer.memory)) paid
          ∙ ap (λ (x : State). lent_after_step false x c.args.client (g.M.WordMemory.lent c.loop-answer.memory)) c.loop-answer.invariant.world
          ∙ ap (lent_after_step false (after_alone c.loop-answer.steps old c.args.client) c.args.client) c.loop-answer.invariant.lent
          ∙ ap (λ (n : ℕ). lent_after_alone n old c.args.client (g.M.WordMemory.lent c.args.memory.now)) more;
      waits = record { call = on.call; is = subst (λ (x : State). slice_get x.calls c.args.client.0 ≡ Some (Some on.call)) (sym stepped) on.is };
      left = one_made c.loop-answer.steps _ _ _ fewer c.loop-answer.invariant.left;
      room = still_room _ _ c.loop-answer.invariant.room stays;
      at_first = still_as_much _ _ _ c.loop-answer.invariant.at_first stays;
    }

pub returns-in-Some-clause-alone : goal.returns-in-Some-clause-alone
returns-in-Some-clause-alone g c =
    let old : State = state_of c.args.self.now (g.M.WordMemory.words c.args.memory.now) in
    let w : State = state_of c.loop-answer.self (g.M.WordMemory.words c.loop-answer.memory) in
    let u : UnderWay = c.in_ok-waiting.field-0.now in
    let paid : is_no_memory c.step.result ≡ false = ap is_no_memory c.in_ok-answer.was in
    let more : suc c.loop-answer.steps ≡ c.loop-answer.steps + 1 = one_more c.loop-answer.steps in
    let result : step_result false (after_alone c.loop-answer.steps old c.args.client) c.args.client ≡ Ok (Some c.in-Some.reply) =
    ap (λ (x : State). step_result false x c.args.client) (sym c.loop-answer.invariant.world)
    ∙ ap (λ (b : Bool). step_result b w c.args.client) (sym paid)
    ∙ sym c.step.ensures.by_rule.answers ∙ c.in_ok-answer.was ∙ ap Ok c.in-Some.is in
    let waits : waiting_in old c.args.client ≡ Ok u = c.in_ok-waiting.ensures.ok in
    record {
      refused = λ refusal e. absurd (not_both _ u refusal waits e);
      errors = tt;
      full = λ full. absurd (false≢true full);
      same = tt;
      steps = search rules;
      answer = subst (λ (n : ℕ). IsAnsweredAlone old c.args.client n c.in-Some.reply) more result;
      world =
          c.step.ensures.by_rule.leaves ∙ ap (λ (b : Bool). after_step b w c.args.client) paid
          ∙ ap (λ (x : State). after_step false x c.args.client) c.loop-answer.invariant.world
          ∙ ap (λ (n : ℕ). after_alone n old c.args.client) more;
      room = still_as_much _ _ _ c.loop-answer.invariant.at_first c.step.ensures.by_rule.room;
      spare = tt;
    }

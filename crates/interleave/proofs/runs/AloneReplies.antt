-- What a call that goes on alone leaves of the order, and how it is served.
use Rattle.std.proofs.Common.{◌≡◌, ℕ, zero, suc, Bool, true, false, Option, Some, None, Result, Ok, Err, IfOk, IfErr, slice_get, refl, sym, ap, subst, ◌∙◌}
use Rattle.std.proofs.lemmas.Option.{slice_get_within}
use Rattle.words.specs.declared.call.Call.{Call}
use Rattle.words.specs.declared.call.Client.{Client}
use Rattle.words.specs.declared.call.Reply.{Reply}
use Rattle.words.specs.declared.refusal.Refusal.{Refusal}
use Rattle.stepper.specs.declared.resume.After.{After}
use Rattle.stepper.specs.declared.resume.After.TheVariants.{More, Done}
use Rattle.helping.specs.declared.op.Op.{Op}
use Rattle.events.specs.Parts.{IsPartOf}
use Rattle.events.proofs.Facts.{part_of_part, part_same}
use Rattle.protocol.specs.Machine.{next_of, with_next}
use Rattle.protocol.specs.declared.UnderWay.{UnderWay}
use Rattle.interleave.specs.Calls.{answer_of, waiting_result}
use Rattle.interleave.specs.Holds.{Holds}
use Rattle.interleave.specs.Standing.{EndedCallsStay, GoesOn, IsBeginningOf}
use Rattle.interleave.specs.State.{State, machine, is_down, order_in, after_alone, after_one_access, after_step}
use Rattle.interleave.specs.State.{step_with, step_result, step_result_with, IsAnsweredAlone}
use Rattle.interleave.specs.Turn.{IsInTurn, IsServedAlone}
use Rattle.interleave.proofs.order.Beginnings.{begins_alone}
use Rattle.interleave.proofs.runs.AloneCalls.{get_set}
use Rattle.interleave.proofs.machine.Holding.{explained_world, holds_after_step, part_after_step, waiting_is}
use Rattle.interleave.proofs.order.Ends.{begins_itself, begins_on}
use Rattle.interleave.proofs.runs.Attempts.{goes_nowhere}
use Rattle.interleave.proofs.order.Standing.{ended_after_step, grown_by_step}
use Rattle.interleave.proofs.order.TurnReplies.{WentOn, answered_in_turn, ended_on, went_further, went_nowhere}

-- a client without a call makes no step
idle : (w : State) (down : Bool) (answer : Option Reply)
    → step_result_with false w (waiting_result down (let o : Option (Option UnderWay) = Some None in o)) ≡ Ok answer → ⊥
idle w true answer is = cc
idle w false answer is = cc

-- a client that has a call after a step had it before, and was not answered
pub unanswered : (w : State) (client : Client) (answer : Option Reply)
    → step_result false (after_step false w client) client ≡ Ok answer → step_result false w client ≡ Ok None
unanswered w client answer is = from_waiting (waiting_result (is_down w) (slice_get w.calls client.0)) refl is
  where
    from_next : (u : UnderWay) → slice_get w.calls client.0 ≡ Some (Some u) → (next : After Op Reply)
        → next_of (machine w) u ≡ next → step_result false (after_one_access w client u) client ≡ Ok answer
        → step_result_with false w (Ok u) ≡ Ok None
    from_next u here (More op) e h = ap (λ (a : After Op Reply). Ok (answer_of a)) e
    from_next u here (Done reply) e h =
        let new : State = after_one_access w client u in
        let ended : slice_get new.calls client.0 ≡ Some None =
        get_set w.calls client.0 (with_next u (next_of (machine w) u)) (slice_get_within w.calls client.0 (Some u) here)
        ∙ ap (λ (a : After Op Reply). Some (with_next u a)) e in
        absurd (idle new (is_down new) answer
        (sym (ap (λ (o : Option (Option UnderWay)). step_result_with false new (waiting_result (is_down new) o)) ended) ∙ h))

    from_waiting : (r : Result UnderWay Refusal) → waiting_result (is_down w) (slice_get w.calls client.0) ≡ r
        → step_result false (step_with false w client r) client ≡ Ok answer → step_result_with false w r ≡ Ok None
    from_waiting (Err refusal) e h =
        let refused : (let r : Result (Option Reply) Refusal = Err refusal in r) ≡ Ok answer =
        sym (ap (step_result_with false w) e) ∙ h in
        cc
    from_waiting (Ok u) e h = from_next u (waiting_is _ _ u e) (next_of (machine w) u) refl h

module _ (w : State) (client : Client) (holds : Holds w) where
  pub holds_alone : (n : ℕ) → Holds (after_alone n w client)
  holds_alone zero = holds
  holds_alone (suc n) = holds_after_step false (after_alone n w client) client (holds_alone n)

  pub order_alone : (n : ℕ) → IsPartOf (order_in w) (order_in (after_alone n w client))
  order_alone zero = part_same (order_in w)
  order_alone (suc n) = part_of_part (part_after_step false (after_alone n w client) client (holds_alone n)) (order_alone n)

  grown_alone : (n : ℕ) → IsBeginningOf w.log.events (after_alone n w client).log.events
  grown_alone zero = begins_itself w.log.events
  grown_alone (suc n) =
      let now : State = after_alone n w client in
      begins_on w.log.events now.log.events (after_step false now client).log.events (grown_alone n) (grown_by_step false now client)

  -- as long as it has a call, it was not answered yet
  went_alone : (n : ℕ) (answer : Option Reply) → step_result false (after_alone n w client) client ≡ Ok answer
      → WentOn w (after_alone n w client)
  went_alone zero answer is = went_nowhere w w refl
  went_alone (suc n) answer is =
      let now : State = after_alone n w client in
      let before : step_result false now client ≡ Ok None = unanswered now client answer is in
      went_further w now (after_step false now client) client (went_alone n None before) refl before
      (ended_after_step false now client (holds_alone n))

  -- a call that had ended stays where it was
  pub ended_alone : (n : ℕ) (reply : Reply) → IsAnsweredAlone w client n reply
      → EndedCallsStay w (after_alone n w client)
  ended_alone zero reply answered = absurd answered
  ended_alone (suc n) reply answered =
      let now : State = after_alone n w client in
      ended_on w now (after_step false now client) (went_alone n (Some reply) answered)
      (ended_after_step false now client (holds_alone n))

  -- a client in turn is answered as by the plain queue
  pub served_alone : (n : ℕ) (reply : Reply) → IsAnsweredAlone w client n reply
      → (call : Call) → IsInTurn w client call → IsServedAlone w call reply (after_alone n w client)
  served_alone zero reply answered = absurd answered
  served_alone (suc n) reply answered = λ call turn.
      let now : State = after_alone n w client in
      answered_in_turn w now (after_step false now client) client call reply turn
      (explained_world w holds) (explained_world (after_step false now client) (holds_alone (suc n)))
      (went_alone n (Some reply) answered) refl answered (order_alone (suc n))
      (ended_after_step false now client (holds_alone n))

  -- it goes on with the world, whether it was answered or refused, which changes nothing
  pub goes_on_after_alone : (new : State) (result : Result (Reply × ℕ) Refusal) → IfErr result (λ e. new ≡ w)
      → IfOk result (λ answer. IsAnsweredAlone w client answer.1 answer.0)
      → IfOk result (λ answer. new ≡ after_alone answer.1 w client) → GoesOn w new
  goes_on_after_alone new (Err refusal) same answered is = subst (GoesOn w) (sym same) (goes_nowhere w)
  goes_on_after_alone new (Ok answer) same answered is = subst (GoesOn w) (sym is) (record {
    begins = begins_alone answer.1 w client;
    grown = grown_alone answer.1;
    part = order_alone answer.1;
    ended = ended_alone answer.1 answer.0 answered;
  })

  pub served_after_alone : (new : State) (result : Result (Reply × ℕ) Refusal)
      → IfOk result (λ answer. IsAnsweredAlone w client answer.1 answer.0)
      → IfOk result (λ answer. new ≡ after_alone answer.1 w client)
      → IfOk result (λ answer. (call : Call) → IsInTurn w client call → IsServedAlone w call answer.0 new)
  served_after_alone new (Err refusal) answered is = tt
  served_after_alone new (Ok answer) answered is = λ call turn.
      subst (IsServedAlone w call answer.0) (sym is) (served_alone answer.1 answer.0 answered call turn)

-- A call under way is answered, where it goes on alone.
use Rattle.std.proofs.Common.{◌≡◌, ℕ, zero, suc, ◌<◌, ◌≤◌, false, Option, Some, Ok, slice_get, refl, sym, ap, subst, ◌∙◌, arith}
use Rattle.words.specs.declared.call.Client.{Client}
use Rattle.words.specs.declared.call.Reply.{Reply}
use Rattle.words.specs.declared.limits.TheConstants.{MAX_STEPS_ALONE}
use Rattle.stepper.specs.declared.resume.After.{After}
use Rattle.stepper.specs.declared.resume.After.TheVariants.{More, Done}
use Rattle.helping.specs.declared.op.Op.{Op}
use Rattle.protocol.specs.Machine.{next_of, with_step}
use Rattle.protocol.specs.declared.UnderWay.{UnderWay}
use Rattle.protocol.proofs.Facts.{Falls, is_ready, left, step_falls}
use Rattle.interleave.specs.Calls.{answer_of}
use Rattle.interleave.specs.Holds.{Holds, from_invariant}
use Rattle.interleave.specs.Rules.{IsAnsweredWithin, waiting_in}
use Rattle.interleave.specs.State.{State, IsAnsweredAlone, after_alone, after_one_access, after_step, machine}
use Rattle.interleave.specs.State.{step_result}
use Rattle.interleave.proofs.runs.AloneCalls.{answer_is, goes_on, left_few, left_in, left_of, step_is}
use Rattle.interleave.proofs.machine.Holding.{holds_after_step, may_step, ready_if_called, waiting_is}

-- one step first, and then so many
first_step : (n : ℕ) (w : State) (client : Client)
    → after_alone n (after_step false w client) client ≡ after_alone (suc n) w client
first_step zero w client = refl
first_step (suc n) w client = ap (λ (v : State). after_step false v client) (first_step n w client)

answered_later : (n : ℕ) (w : State) (client : Client) (reply : Reply)
    → IsAnsweredAlone (after_step false w client) client n reply → IsAnsweredAlone w client (suc n) reply
answered_later zero w client reply answered = absurd answered
answered_later (suc n) w client reply answered =
    ap (λ (v : State). step_result false v client) (sym (first_step n w client)) ∙ answered

-- a call under way has some step left
some_left : (w : State) (client : Client) (u : UnderWay) → slice_get w.calls client.0 ≡ Some (Some u) → Holds w
    → 0 < left_in w client
some_left w client u here holds =
    subst (λ (o : Option (Option UnderWay)). 0 < left_of w o) (sym here) (go (next_of (machine w) u) falls)
  where
    falls : Falls w.shape (with_step (machine w) client u).memory (next_of (machine w) u) (left w.shape (machine w).memory u.op)
    falls = step_falls (machine w) (is_ready (machine w) (from_invariant _ holds.inv) (ready_if_called w client u holds here)).working client u (may_step w client u holds here)

    go : (a : After Op Reply) → Falls w.shape (with_step (machine w) client u).memory a (left w.shape (machine w).memory u.op)
        → 0 < left w.shape (machine w).memory u.op
    go (More op) fewer = omega (arith, fewer)
    go (Done reply) some = some

-- it is answered by its next step, or goes on, and is answered from there
one_step_more : (n : ℕ) (w : State) (client : Client) (u : UnderWay) → slice_get w.calls client.0 ≡ Some (Some u)
    → Holds w → left_in w client ≤ suc n
    → ((v : State) (next : UnderWay) → slice_get v.calls client.0 ≡ Some (Some next) → Holds v → left_in v client ≤ n
    → IsAnsweredWithin n v client)
    → (a : After Op Reply) → next_of (machine w) u ≡ a → IsAnsweredWithin (suc n) w client
one_step_more n w client u here holds few then (Done reply) e = record {
  steps = 1;
  reply = reply;
  few = omega arith;
  answered = answer_is w client u here holds ∙ ap (λ (a : After Op Reply). Ok (answer_of a)) e;
}
one_step_more n w client u here holds few then (More op) e =
    let v : State = after_step false w client in
    let stepped : v ≡ after_one_access w client u = step_is w client u here holds in
    let on = goes_on w client u here holds (ap answer_of e) in
    let there : slice_get v.calls client.0 ≡ Some (Some on.call) =
    subst (λ (x : State). slice_get x.calls client.0 ≡ Some (Some on.call)) (sym stepped) on.is in
    let fewer : left_in v client < left_in w client =
    subst (λ (x : State). left_in x client < left_in w client) (sym stepped) on.fewer in
    let rest = then v on.call there (holds_after_step false w client holds) (omega (arith, fewer, few)) in
    record {
      steps = suc rest.steps;
      reply = rest.reply;
      few = omega (arith, rest.few);
      answered = answered_later rest.steps w client rest.reply rest.answered;
    }

answers_within : (n : ℕ) (w : State) (client : Client) (u : UnderWay) → slice_get w.calls client.0 ≡ Some (Some u)
    → Holds w → left_in w client ≤ n → IsAnsweredWithin n w client
answers_within zero w client u here holds few = absurd (omega (arith, few, some_left w client u here holds))
answers_within (suc n) w client u here holds few =
    one_step_more n w client u here holds few (λ v next. answers_within n v client next) (next_of (machine w) u) refl

pub answers_soon : (w : State) (client : Client) (u : UnderWay) → Holds w → waiting_in w client ≡ Ok u
    → IsAnsweredWithin MAX_STEPS_ALONE w client
answers_soon w client u holds waits =
    answers_within MAX_STEPS_ALONE w client u (waiting_is _ (slice_get w.calls client.0) u waits) holds (left_few w client)

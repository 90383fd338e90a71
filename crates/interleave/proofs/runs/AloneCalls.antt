-- A client's call that goes on alone.
use Rattle.words.specs.declared.call.Reply.{Reply}
use Rattle.std.proofs.Common.{◌≡◌, ℕ, zero, suc, ◌≤◌, ◌<◌, false, List, [], ◌∷◌, length, Option, Some, None, Ok, slice_get, slice_set, refl, sym, ap, ◌∙◌, subst, arith}
use Rattle.std.proofs.lemmas.Option.{slice_get_within}
use Rattle.words.specs.declared.call.Client.{Client}
use Rattle.words.specs.declared.limits.TheConstants.{MAX_STEPS_ALONE}
use Rattle.stepper.specs.declared.resume.After.{After}
use Rattle.stepper.specs.declared.resume.After.TheVariants.{More, Done}
use Rattle.helping.specs.declared.op.Op.{Op}
use Rattle.protocol.specs.Machine.{World, next_of, with_step, with_next}
use Rattle.protocol.specs.declared.UnderWay.{UnderWay}
use Rattle.protocol.proofs.Facts.{Falls, is_ready, left, left_most, step_falls}
use Rattle.std.specs.Prelude.{is_some}
use Rattle.recover.specs.declared.recovery.Recovery.{Recovery}
use Rattle.interleave.specs.Calls.{answer_of, waiting_result}
use Rattle.interleave.specs.Holds.{Holds, from_invariant}
use Rattle.interleave.specs.State.{State, machine, is_down, after_one_access, after_step, step_with, step_result}
use Rattle.interleave.specs.State.{step_result_with}
use Rattle.interleave.proofs.machine.Holding.{ready_if_called, may_step, gone_on_is}

-- how many steps the call has left at most, and 0 where there is none
abbrev pub left_of : State → Option (Option UnderWay) → ℕ
left_of w (Some (Some u)) = left w.shape (machine w).memory u.op
left_of w (Some None) = 0
left_of w None = 0

abbrev pub left_in : State → Client → ℕ
left_in w client = left_of w (slice_get w.calls client.0)

pub left_few : (w : State) (client : Client) → left_in w client ≤ MAX_STEPS_ALONE
left_few w client = go (slice_get w.calls client.0)
  where
    go : (o : Option (Option UnderWay)) → left_of w o ≤ MAX_STEPS_ALONE
    go (Some (Some u)) = left_most w.shape (machine w).memory u.op
    go (Some None) = omega arith
    go None = omega arith

pub get_set : {X : Type 0} (xs : List X) (i : ℕ) (x : X) → i < length xs → slice_get (slice_set xs i x) i ≡ Some x
get_set [] i x h = absurd (omega (arith, h))
get_set (y ∷ xs) zero x h = refl
get_set (y ∷ xs) (suc i) x h = get_set xs i x (omega (arith, h))

module _ (w : State) (client : Client) (u : UnderWay) (here : slice_get w.calls client.0 ≡ Some (Some u)) where
  -- what its step leaves, memory being there
  pub step_is : Holds w → after_step false w client ≡ after_one_access w client u
  step_is holds =
      ap (λ (o : Option (Option UnderWay)). step_with false w client (waiting_result (is_down w) o)) here
      ∙ ap (λ (r : Option Recovery). step_with false w client (waiting_result (is_some r) (Some (Some u)))) (ready_if_called w client u holds here)

  pub answer_is : Holds w → step_result false w client ≡ Ok (answer_of (next_of (machine w) u))
  answer_is holds =
      ap (λ (o : Option (Option UnderWay)). step_result_with false w (waiting_result (is_down w) o)) here
      ∙ ap (λ (r : Option Recovery). step_result_with false w (waiting_result (is_some r) (Some (Some u)))) (ready_if_called w client u holds here)

  -- it goes on, with fewer steps left
  pub record GoesOn : Type 0 where
    pub call : UnderWay
    pub is : slice_get (after_one_access w client u).calls client.0 ≡ Some (Some call)
    pub fewer : left_in (after_one_access w client u) client < left_in w client

  pub goes_on : Holds w → answer_of (next_of (machine w) u) ≡ None → GoesOn
  goes_on holds none = go (next_of (machine w) u) refl none
    where
      falls : Falls w.shape (with_step (machine w) client u).memory (next_of (machine w) u) (left w.shape (machine w).memory u.op)
      falls = step_falls (machine w) (is_ready (machine w) (from_invariant _ holds.inv) (ready_if_called w client u holds here)).working client u (may_step w client u holds here)

      go : (a : After Op Reply) → next_of (machine w) u ≡ a → answer_of a ≡ None → GoesOn
      go (Done reply) e none2 = cc
      go (More op) e none2 =
          let s = w.shape in
          let next : UnderWay = record u { op = op } in
          let set : slice_get (after_one_access w client u).calls client.0 ≡ Some (Some next) =
          get_set w.calls client.0 (with_next u (next_of (machine w) u)) (slice_get_within w.calls client.0 (Some u) here) ∙ ap (λ (a : After Op Reply). Some (with_next u a)) e in
          let fall : left s (with_step (machine w) client u).memory op < left s (machine w).memory u.op = subst (λ (a : After Op Reply). Falls s (with_step (machine w) client u).memory a (left s (machine w).memory u.op)) e falls in
          let memory : left s (machine (after_one_access w client u)).memory op < left s (machine w).memory u.op =
          subst (λ (v : World). left s v.memory op < left s (machine w).memory u.op) (sym (gone_on_is w client u holds here)) fall in
          record {
            call = next;
            is = set;
            fewer = subst (λ (o : Option (Option UnderWay)). left_of (after_one_access w client u) o < left_in w client) (sym set) (subst (λ (o : Option (Option UnderWay)). left_of (after_one_access w client u) (Some (Some next)) < left_of w o) (sym here) memory);
          }

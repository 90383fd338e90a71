-- While recovery is under way nothing is started and no call goes on; each of its steps leaves fewer.
use Rattle.std.proofs.Common.{List, ◌≡◌, ℕ, ◌≤◌, Bool, true, false, if◌then◌else◌, ◌==◌, Option, Some, None, Result, Ok, Err, slice_get, refl, ap, ◌∙◌, arith}
use Rattle.std.specs.Prelude.{is_some}
use Rattle.words.specs.declared.call.Call.{Call}
use Rattle.words.specs.declared.call.Client.{Client}
use Rattle.words.specs.declared.refusal.Refusal.{Refusal}
use Rattle.recover.specs.declared.recovery.Recovery.{Recovery}
use Rattle.stepper.specs.declared.resume.After.{After}
use Rattle.stepper.specs.declared.resume.After.TheVariants.{More as go_on, Done as Ready}
use Rattle.protocol.specs.Machine.{next_recovery, recovery_left}
use Rattle.protocol.specs.Measure.{steps_left_at}
use Rattle.protocol.specs.declared.UnderWay.{UnderWay}
use Rattle.words.specs.declared.told.Told.{Told}
use Rattle.interleave.specs.Calls.{waiting_result}
use Rattle.interleave.specs.State.{State, machine, is_down, is_ready, used_by, after_bump_load, after_call_began}
use Rattle.interleave.specs.State.{after_one_access, number_to_start, start_with, step_with}
use Rattle.interleave.specs.State.{after_start, after_step, recover_with, recover_result_with, after_recover}
use Rattle.interleave.specs.State.{recover_result, steps_to_ready}
use Rattle.interleave.proofs.machine.Starts.{unstarted_while_down}

refused_step : (o : Option (Option UnderWay)) → (refusal : Refusal) × (waiting_result true o ≡ Err refusal)
refused_step None = (_, refl)
refused_step (Some call) = (_, refl)

-- a start is refused, and changes nothing
pub start_refused : (full : Bool) (w : State) (client : Client) (number : ℕ) (call : Call) → is_down w ≡ true → after_start full w client number call ≡ w
start_refused full w client number call down =
    ap (start_with full w client call) (unstarted_while_down w client number call down).1

-- so is a step
pub step_refused : (full : Bool) (w : State) (client : Client) → is_down w ≡ true → after_step full w client ≡ w
step_refused full w client down =
    let r = refused_step (slice_get w.calls client.0) in
    ap (λ (d : Bool). step_with full w client (waiting_result d (slice_get w.calls client.0))) down ∙ ap (step_with full w client) r.1

-- neither begins a recovery
pub start_down : (full : Bool) (w : State) (client : Client) (number : ℕ) (call : Call) → is_down (after_start full w client number call) ≡ is_down w
start_down full w client number call = go (number_to_start w client number call)
  where
    go : (r : Result ℕ Refusal) → is_down (start_with full w client call r) ≡ is_down w
    go (Err refusal) = refl
    go (Ok n) = both (used_by w client == w.shape.records) full
      where
        both : (a b : Bool) → is_down (if a then after_bump_load w else (if b then after_bump_load w else after_call_began w client n call)) ≡ is_down w
        both true b = refl
        both false true = refl
        both false false = refl

pub step_down : (full : Bool) (w : State) (client : Client) → is_down (after_step full w client) ≡ is_down w
step_down full w client = go (waiting_result (is_down w) (slice_get w.calls client.0))
  where
    go : (r : Result UnderWay Refusal) → is_down (step_with full w client r) ≡ is_down w
    go (Err refusal) = refl
    go (Ok u) = both full
      where
        both : (b : Bool) → is_down (if b then w else after_one_access w client u) ≡ is_down w
        both true = refl
        both false = refl

-- recovery that is under way has a step left
pub some_left : (w : State) → is_down w ≡ true → 1 ≤ steps_to_ready w
some_left w down = go w.recovery down
  where
    go : (o : Option Recovery) → is_some o ≡ true → 1 ≤ steps_left_at w.shape (machine w).memory.cached o
    go None down2 = cc
    go (Some r) down2 = omega arith

-- a step of recovery that ends it says so
pub became_ready : (full : Bool) (w : State) → is_down w ≡ true → is_down (after_recover full w) ≡ false → recover_result full w ≡ Ok true
became_ready full w down up = go w.recovery refl full up
  where
    ended : (next : After Recovery (List Told)) → is_some (recovery_left next) ≡ false → (let x : Result Bool Refusal = Ok (is_ready next) in x) ≡ Ok true
    ended (go_on r) up2 = cc
    ended (Ready told) up2 = refl

    go : (o : Option Recovery) → w.recovery ≡ o → (f : Bool) → is_down (recover_with f w o) ≡ false → recover_result_with f w o ≡ Ok true
    go None e f up2 = cc (down, up2)
    go (Some r) e true up2 = cc (down, up2)
    go (Some r) e false up2 = ended (next_recovery (machine w) r) up2

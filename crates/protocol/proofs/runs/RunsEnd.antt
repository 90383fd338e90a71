-- Recovery ends, whatever else happens meanwhile but another crash.
use Rattle.std.proofs.Common.{if◌then◌else◌, Option, Bool, true, false, ◌≡◌, ℕ, ◌+◌, ◌-◌, ◌≤◌, List, [], ◌∷◌, Some, None, refl, sym, ◌∙◌, ap, subst, arith}
use Rattle.words.specs.declared.call.Call.{Call}
use Rattle.words.specs.declared.call.Client.{Client}
use Rattle.arena.specs.Content.{chain_of}
use Rattle.arena.specs.Shape.{Shape}
use Rattle.arena.specs.declared.place.Place.{Place}
use Rattle.recover.specs.Table.{boot_recovery}
use Rattle.recover.specs.declared.recovery.Recovery.{Recovery}
use Rattle.protocol.specs.Acts.{may_start, start_attempt, step_attempt, recovery_attempt, with_act, run, recoveries, HasNoCrash, HasNoneTwice, IsReached}
use Rattle.protocol.specs.Down.{RecoveryEnds}
use Rattle.protocol.specs.declared.acts.Act.{Act}
use Rattle.protocol.specs.declared.acts.Act.TheVariants.{Start, Step, Evict, Crash, Recover}
use Rattle.protocol.specs.Machine.{World, with_start, with_step, with_crash, new_world}
use Rattle.protocol.specs.declared.UnderWay.{UnderWay}
use Rattle.protocol.specs.invariants.Worlds.{Inv}
use Rattle.protocol.proofs.worlds.Facts.{inv_crashed, left_falls}
use Rattle.protocol.specs.Measure.{most_steps, weight, steps_left_at, steps_left}
use Rattle.protocol.proofs.recovery.RecoveryBound.{weight_most}
use Rattle.protocol.proofs.runs.Runs.{act_kept, inv_reached, no_node_again}

-- other acts take none of them
start_left : (w : World) (client : Client) (number : ℕ) (call : Call) (r : Option Recovery) (u : Option UnderWay) → steps_left (start_attempt w client number call r u) ≡ steps_left w
start_left w client number call (Some r) u = refl
start_left w client number call None (Some u) = refl
start_left w client number call None None = go (may_start w client number call)
  where
    go : (c : Bool) → steps_left (if c then with_start w client number call else w) ≡ steps_left w
    go true = refl
    go false = refl

step_left : (w : World) (client : Client) (r : Option Recovery) (u : Option UnderWay) → w.recovery ≡ r → steps_left (step_attempt w client r u) ≡ steps_left w
step_left w client (Some r) u e = refl
step_left w client None None e = refl
step_left w client None (Some u) e = ap (steps_left_at w.shape (with_step w client u).memory.cached) e ∙ sym (ap (steps_left_at w.shape w.memory.cached) e)

-- a step of recovery takes one
recover_left : (w : World) → Inv w → (r : Option Recovery) → w.recovery ≡ r → steps_left (recovery_attempt w r) ≤ steps_left w - 1
recover_left w v None e =
    let zero : steps_left w ≡ 0 = ap (steps_left_at w.shape w.memory.cached) e in
    omega (arith, zero)
recover_left w v (Some r) e = omega (arith, left_falls w v r e)

pub left_none : (w : World) → steps_left w ≡ 0 → w.recovery ≡ None
left_none w z = go w.recovery z
  where
    go : (r : Option Recovery) → steps_left_at w.shape w.memory.cached r ≡ 0 → r ≡ None
    go None h = refl
    go (Some r) h = absurd (omega (arith, h))

-- so it ends
pub all_left : (acts : List (Act Place)) (w : World) → Inv w → HasNoCrash acts → steps_left w ≤ recoveries acts → (run w acts).recovery ≡ None
all_left [] w v none le = left_none w (omega (arith, le))
all_left (Start client number call ∷ acts) w v none le =
    all_left acts (with_act w (Start client number call)) (act_kept w v (Start client number call)).inv none
    (omega (arith, le, start_left w client number call w.recovery (w.calls client.0)))
all_left (Step client ∷ acts) w v none le =
    all_left acts (with_act w (Step client)) (act_kept w v (Step client)).inv none
    (omega (arith, le, step_left w client w.recovery (w.calls client.0) refl))
all_left (Evict p ∷ acts) w v none le = all_left acts (with_act w (Evict p)) (act_kept w v (Evict p)).inv none (omega (arith, le))
all_left (Crash ∷ acts) w v none le = absurd none
all_left (Recover ∷ acts) w v none le =
    all_left acts (with_act w Recover) (act_kept w v Recover).inv none (omega (arith, le, recover_left w v w.recovery refl))

-- the shape stays
start_shape : (w : World) (client : Client) (number : ℕ) (call : Call) (r : Option Recovery) (u : Option UnderWay) → (start_attempt w client number call r u).shape ≡ w.shape
start_shape w client number call (Some r) u = refl
start_shape w client number call None (Some u) = refl
start_shape w client number call None None = go (may_start w client number call)
  where
    go : (c : Bool) → (if c then with_start w client number call else w).shape ≡ w.shape
    go true = refl
    go false = refl

step_shape : (w : World) (client : Client) (r : Option Recovery) (u : Option UnderWay) → (step_attempt w client r u).shape ≡ w.shape
step_shape w client (Some r) u = refl
step_shape w client None None = refl
step_shape w client None (Some u) = refl

recover_shape : (w : World) (r : Option Recovery) → (recovery_attempt w r).shape ≡ w.shape
recover_shape w None = refl
recover_shape w (Some r) = refl

pub run_shape : (acts : List (Act Place)) (w : World) → (run w acts).shape ≡ w.shape
run_shape [] w = refl
run_shape (Start client number call ∷ acts) w = run_shape acts (with_act w (Start client number call)) ∙ start_shape w client number call w.recovery (w.calls client.0)
run_shape (Step client ∷ acts) w = run_shape acts (with_act w (Step client)) ∙ step_shape w client w.recovery (w.calls client.0)
run_shape (Evict p ∷ acts) w = run_shape acts (with_act w (Evict p))
run_shape (Crash ∷ acts) w = run_shape acts (with_act w Crash)
run_shape (Recover ∷ acts) w = run_shape acts (with_act w Recover) ∙ recover_shape w w.recovery

-- each world that a new queue comes to has its shape
pub reached_shape : (s : Shape) (w : World) → IsReached s w → w.shape ≡ s
reached_shape s w r = subst (λ x. x.shape ≡ s) r.by (run_shape r.acts (new_world s r.told))

pub no_node_twice : (s : Shape) (w : World) → IsReached s w → HasNoneTwice (chain_of s w.memory.kept)
no_node_twice s w r = subst (λ x. HasNoneTwice (chain_of x w.memory.kept)) (reached_shape s w r) (no_node_again w (inv_reached s w r))

pub ends : (s : Shape) (w : World) → IsReached s w → RecoveryEnds (with_crash w)
ends s w r later none le =
    let v : Inv w = inv_reached s w r in
    let most : weight w.shape w.memory.kept boot_recovery.at + 2 ≤ most_steps w.shape = weight_most w.shape w.memory.kept in
    all_left later (with_crash w) (inv_crashed w v) none (omega (arith, most, le))

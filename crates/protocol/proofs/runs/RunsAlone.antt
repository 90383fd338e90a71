-- A client that goes on alone ends its call.
use Rattle.std.proofs.Common.{if◌then◌else◌, Option, ◌≡◌, ℕ, zero, suc, ◌-◌, ◌≤◌, Some, None, refl, sym, ◌∙◌, ap, subst, arith}
use Rattle.std.specs.Prelude.{replicate}
use Rattle.std.proofs.lemmas.Bool.{eq-eqb}
use Rattle.words.specs.declared.call.Client.{Client}
use Rattle.arena.specs.Shape.{Shape}
use Rattle.helping.specs.declared.op.Op.{Op}
use Rattle.stepper.specs.declared.resume.After.{After}
use Rattle.stepper.specs.declared.resume.After.TheVariants.{More, Done}
use Rattle.recover.specs.declared.recovery.Recovery.{Recovery}
use Rattle.words.specs.declared.call.Reply.{Reply}
use Rattle.words.specs.declared.limits.TheConstants.{MAX_STEPS_ALONE}
use Rattle.protocol.specs.Acts.{with_act, step_attempt, run, IsReached}
use Rattle.protocol.specs.declared.acts.Act.TheVariants.{Step}
use Rattle.protocol.specs.Machine.{World, Memory, with_step, with_next, next_of}
use Rattle.protocol.specs.declared.UnderWay.{UnderWay}
use Rattle.protocol.proofs.calls.Bound.{left, left_most, Falls, step_falls}
use Rattle.protocol.specs.invariants.Worlds.{Inv}
use Rattle.protocol.proofs.worlds.Facts.{is_ready}
use Rattle.protocol.proofs.runs.Runs.{act_kept, inv_reached}

-- how many steps a call has left at most
abbrev pub call_left : Shape → Memory → Option UnderWay → ℕ
call_left s m None = 0
call_left s m (Some u) = left s m u.op

-- a step alone takes one of them, and the queue stays ready
record IsOneLess (w v : World) (client : Client) : Type 0 where
  ready : v.recovery ≡ None
  less : call_left v.shape v.memory (v.calls client.0) ≤ call_left w.shape w.memory (w.calls client.0) - 1

falls_some : (w : World) → Inv w → w.recovery ≡ None → (client : Client) (u : UnderWay) → w.calls client.0 ≡ Some u → Falls w.shape (with_step w client u).memory (next_of w u) (left w.shape w.memory u.op)
falls_some w v e client u at = step_falls w (is_ready w v e).working client u (record { ready = e; waits = at })

step_less : (w : World) → Inv w → w.recovery ≡ None → (client : Client) (r : Option Recovery) (u : Option UnderWay) → w.recovery ≡ r → w.calls client.0 ≡ u → IsOneLess w (step_attempt w client r u) client
step_less w v e client (Some r) u er at = absurd (differ (sym e ∙ er))
  where
    differ : {r : Recovery} → None ≡ Some r → ⊥
    differ q = cc
step_less w v e client None None er at =
    let none : call_left w.shape w.memory (w.calls client.0) ≡ 0 = ap (call_left w.shape w.memory) at in
    record { ready = e; less = omega (arith, none) }
step_less w v e client None (Some u) er at =
    let now : call_left w.shape w.memory (w.calls client.0) ≡ left w.shape w.memory u.op = ap (call_left w.shape w.memory) at in
    let own : (with_step w client u).calls client.0 ≡ with_next u (next_of w u) =
    ap (λ c. if c then with_next u (next_of w u) else w.calls client.0) (eq-eqb client.0 client.0 refl) in
    record {
      ready = e;
      less = subst (λ x. call_left w.shape (with_step w client u).memory x ≤ call_left w.shape w.memory (w.calls client.0) - 1) (sym own)
          (omega (arith, now, go (next_of w u) (falls_some w v e client u at)));
    }
  where
    go : (a : After Op Reply) → Falls w.shape (with_step w client u).memory a (left w.shape w.memory u.op) → call_left w.shape (with_step w client u).memory (with_next u a) ≤ left w.shape w.memory u.op - 1
    go (More op) h = omega (arith, h)
    go (Done reply) h = omega arith

left_some : (w : World) → Inv w → w.recovery ≡ None → (client : Client) → (u : Option UnderWay) → w.calls client.0 ≡ u → call_left w.shape w.memory u ≡ 0 → u ≡ None
left_some w v e client None at z = refl
left_some w v e client (Some u) at z = absurd (go (next_of w u) (falls_some w v e client u at))
  where
    go : (a : After Op Reply) → Falls w.shape (with_step w client u).memory a (left w.shape w.memory u.op) → ⊥
    go (More op) h = omega (arith, h, z)
    go (Done reply) h = omega (arith, h, z)

pub alone_ends : (n : ℕ) (w : World) → Inv w → w.recovery ≡ None → (client : Client) → call_left w.shape w.memory (w.calls client.0) ≤ n → (run w (replicate n (Step client))).calls client.0 ≡ None
alone_ends zero w v e client le = left_some w v e client (w.calls client.0) refl (omega (arith, le))
alone_ends (suc n) w v e client le =
    let one : IsOneLess w (with_act w (Step client)) client = step_less w v e client w.recovery (w.calls client.0) refl refl in
    alone_ends n (with_act w (Step client)) (act_kept w v (Step client)).inv one.ready client (omega (arith, one.less, le))

most_left : (s : Shape) (m : Memory) (u : Option UnderWay) → call_left s m u ≤ MAX_STEPS_ALONE
most_left s m None = omega arith
most_left s m (Some u) = left_most s m u.op

pub calls_end : (s : Shape) (w : World) (client : Client) → IsReached s w → w.recovery ≡ None
    → (run w (replicate MAX_STEPS_ALONE (Step client))).calls client.0 ≡ None
calls_end s w client r e =
    alone_ends MAX_STEPS_ALONE w (inv_reached s w r) e client (most_left w.shape w.memory (w.calls client.0))

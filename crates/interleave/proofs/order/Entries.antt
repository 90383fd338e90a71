-- What comes into the order: calls that have no end yet.
use Rattle.std.proofs.Common.{ℕ, suc, arith, ◌⊎◌, inl, inr, List, length, Option, Some, None, sym, subst}
use Rattle.std.proofs.lemmas.Bool.{cases_eq}
use Rattle.words.specs.declared.call.Client.{Client}
use Rattle.arena.specs.declared.place.Place.{Place}
use Rattle.recover.specs.declared.recovery.Recovery.{Recovery}
use Rattle.events.specs.Effects.{order_of}
use Rattle.events.specs.History.{IsOpenFrom}
use Rattle.events.specs.Orders.{InOrder}
use Rattle.events.specs.declared.event.Effect.{Effect}
use Rattle.events.specs.declared.event.Event.{Event}
use Rattle.protocol.specs.Machine.{World, with_step, with_eviction, MayStep}
use Rattle.protocol.specs.declared.UnderWay.{UnderWay}
use Rattle.protocol.specs.invariants.Ledger.{Ledger}
use Rattle.protocol.specs.invariants.Worlds.{Inv, InvAt, Working}
use Rattle.protocol.proofs.Facts.{Noted, calling, is_ready, keep_noted, more_by_stage, nobody_kept, step_noted}

-- the call at the place stood in the order before, or it has no end yet
abbrev pub ComesInOpen : List Event → List Effect → List Effect → Type 0
ComesInOpen events old new =
    (p : ℕ) → InOrder (order_of new) p
    → InOrder (order_of old) p ⊎ ((client : Client) × IsOpenFrom events client (length events) p)

-- so it is of effects by one move of a call under way
comes_noted : (w : World) → Working w → (effects : List Effect) (k : Ledger) → Noted w effects k
    → ComesInOpen w.log.events w.log.effects effects
comes_noted w v effects k noted p there = elim noted.moved [
  | inl same ↦ inl ((more_by_stage (suc p) w.log.effects effects noted.part (λ q ne. same q)).only p
      (λ e. omega (arith, e)) there)
  | inr x ↦ elim (cases_eq p x.u.place) [
    | inl e ↦ inr (x.u.begun.client, subst (IsOpenFrom w.log.events x.u.begun.client (length w.log.events)) (sym e) (calling w v x.o x.u x.at).1.open_from)
    | inr ne ↦ inl ((more_by_stage x.u.place w.log.effects effects noted.part x.others).only p ne there)
  ]
]

-- by a step of a call
pub comes_stepped : (w : World) → Inv w → (client : Client) (u : UnderWay) → MayStep w client u
    → ComesInOpen w.log.events w.log.effects (with_step w client u).log.effects
comes_stepped w inv client u may =
    let v : Working w = (is_ready w inv may.ready).working in
    comes_noted w v (with_step w client u).log.effects _
    (step_noted w v client.0 u may.waits u.op (calling w v client.0 u may.waits).0)

-- by an eviction
pub comes_evicted : (w : World) → Inv w → (p : Place)
    → ComesInOpen w.log.events w.log.effects (with_eviction w p).log.effects
comes_evicted w inv p = go w.recovery inv
  where
    go : (r : Option Recovery) → InvAt w r → ComesInOpen w.log.events w.log.effects (with_eviction w p).log.effects
    go None h = comes_noted w h.working (with_eviction w p).log.effects _ (keep_noted w h.working p)
    go (Some r) h = λ q there. inl (subst (λ (es : List Effect). InOrder (order_of es) q) (nobody_kept w h.none p) there)

-- What holds after any acts.
use Rattle.words.proofs.Facts.{fits_told}
use Rattle.std.proofs.Common.{if◌then◌else◌, Option, zero, suc, slice_get, inl, inr, Bool, true, false, ◌&&◌, ◌≡◌, ℕ, List, [], ◌∷◌, ◌++◌, Some, None, ◌==◌, nat_lt, nat_le, refl, sym, ◌∙◌, ap, subst}
use Rattle.std.proofs.lemmas.Bool.{eqb-true, ltb-true, leb-true}
use Rattle.words.specs.declared.call.Call.{Call}
use Rattle.words.specs.declared.call.Call.TheVariants.{Enq, Deq}
use Rattle.words.specs.declared.call.Client.{Client}
use Rattle.words.specs.declared.call.Kind.{Kind}
use Rattle.words.specs.declared.call.Kind.TheVariants.{Durable, Log}
use Rattle.words.specs.declared.told.Told.{Told}
use Rattle.arena.specs.Shape.{Shape}
use Rattle.arena.specs.Chain.{IsAmong}
use Rattle.arena.specs.Content.{chain_of}
use Rattle.arena.specs.Words.{bumps, links}
use Rattle.arena.specs.declared.place.Place.{Place}
use Rattle.events.specs.Effects.{order_of}
use Rattle.events.specs.Parts.{IsPartOf}
use Rattle.events.proofs.Facts.{part_of_part, part_same, queue_of_order}
use Rattle.recover.specs.declared.recovery.Recovery.{Recovery}
use Rattle.protocol.specs.Acts.{number_fits, call_fits, may_start, start_attempt, step_attempt, recovery_attempt}
use Rattle.protocol.specs.Acts.{with_act, run, IsNew, IsReached, IsExplained, TellsByKept, HasNoneTwice}
use Rattle.protocol.specs.declared.acts.Act.{Act}
use Rattle.sound_words.specs.Sound.{IsSound}
use Rattle.protocol.specs.declared.acts.Act.TheVariants.{Start, Step, Evict, Crash, Recover}
use Rattle.protocol.specs.Machine.{World, with_start, new_world, MayStart, MayStep, FitsKind, FitsCall}
use Rattle.protocol.specs.declared.UnderWay.{UnderWay}
use Rattle.protocol.specs.invariants.Worlds.{Inv}
use Rattle.protocol.proofs.worlds.Facts.{inv_new, inv_started, inv_stepped, inv_evicted, inv_crashed, inv_recovered}
use Rattle.protocol.proofs.worlds.Facts.{part_started, part_stepped, part_evicted, part_crashed, part_recovered, in_log}
use Rattle.protocol.proofs.worlds.Facts.{explained, agrees, told_is, words_sound}
use Rattle.arena.proofs.Facts.{Distinct, distinct}

both_true : (a b : Bool) → (a && b) ≡ true → (a ≡ true) × (b ≡ true)
both_true true b e = (refl, e)
both_true false b e = absurd (differ e)
  where
    differ : false ≡ true → ⊥
    differ q = cc

number_is : (kind : Kind) (number : ℕ) → number_fits kind number ≡ true → FitsKind kind number
number_is Durable number e =
    let z : (number == 0) ≡ true = e in
    eqb-true number 0 z
number_is Log number e =
    let b : (nat_le 1 number ≡ true) × (nat_le number 1099511627776 ≡ true) = both_true (nat_le 1 number) (nat_le number 1099511627776) e in
    (leb-true 1 number b.0, leb-true number 1099511627776 b.1)

call_is : (call : Call) → call_fits call ≡ true → FitsCall call
call_is (Enq value) e = fits_told value e
call_is Deq e = tt

-- what an act leaves still holds, and it takes nothing back
pub record IsKept (w v : World) : Type 0 where
  pub inv : Inv v
  pub part : IsPartOf (order_of w.log.effects) (order_of v.log.effects)

same : (w : World) → Inv w → IsKept w w
same w v = record { inv = v; part = part_same (order_of w.log.effects) }

start_kept : (w : World) → Inv w → (client : Client) (number : ℕ) (call : Call) (r : Option Recovery) (u : Option UnderWay) → w.recovery ≡ r → w.calls client.0 ≡ u → IsKept w (start_attempt w client number call r u)
start_kept w v client number call (Some r) u e f = same w v
start_kept w v client number call None (Some u) e f = same w v
start_kept w v client number call None None e f = go (may_start w client number call) refl
  where
    may : may_start w client number call ≡ true → MayStart w client number call
    may q =
        let a : (nat_lt client.0 w.shape.clients ≡ true) × ((nat_lt (bumps w.memory.cached client.0) w.shape.records && (number_fits w.shape.kind number && call_fits call)) ≡ true) =
        both_true (nat_lt client.0 w.shape.clients) (nat_lt (bumps w.memory.cached client.0) w.shape.records && (number_fits w.shape.kind number && call_fits call)) q in
        let b : (nat_lt (bumps w.memory.cached client.0) w.shape.records ≡ true) × ((number_fits w.shape.kind number && call_fits call) ≡ true) =
        both_true (nat_lt (bumps w.memory.cached client.0) w.shape.records) (number_fits w.shape.kind number && call_fits call) a.1 in
        let c : (number_fits w.shape.kind number ≡ true) × (call_fits call ≡ true) = both_true (number_fits w.shape.kind number) (call_fits call) b.1 in
        record {
          ready = e;
          is_client = ltb-true client.0 w.shape.clients a.0;
          idle = f;
          record_left = ltb-true (bumps w.memory.cached client.0) w.shape.records b.0;
          number_fits = number_is w.shape.kind number c.0;
          call_fits = call_is call c.1;
        }

    go : (c : Bool) → may_start w client number call ≡ c → IsKept w (if c then with_start w client number call else w)
    go true q = record { inv = inv_started w v client number call (may q); part = part_started w v client number call (may q) }
    go false q = same w v

step_kept : (w : World) → Inv w → (client : Client) (r : Option Recovery) (u : Option UnderWay) → w.recovery ≡ r → w.calls client.0 ≡ u → IsKept w (step_attempt w client r u)
step_kept w v client (Some r) u e f = same w v
step_kept w v client None None e f = same w v
step_kept w v client None (Some u) e f =
    let may : MayStep w client u = record { ready = e; waits = f } in
    record { inv = inv_stepped w v client u may; part = part_stepped w v client u may }

recover_kept : (w : World) → Inv w → (r : Option Recovery) → w.recovery ≡ r → IsKept w (recovery_attempt w r)
recover_kept w v None e = same w v
recover_kept w v (Some r) e = record { inv = inv_recovered w v r e; part = part_recovered w v r e }

pub act_kept : (w : World) → Inv w → (act : Act Place) → IsKept w (with_act w act)
act_kept w v (Start client number call) = start_kept w v client number call w.recovery (w.calls client.0) refl refl
act_kept w v (Step client) = step_kept w v client w.recovery (w.calls client.0) refl refl
act_kept w v (Evict p) = record { inv = inv_evicted w v p; part = part_evicted w v p }
act_kept w v Crash = record { inv = inv_crashed w v; part = part_crashed w v }
act_kept w v Recover = recover_kept w v w.recovery refl

pub run_kept : (acts : List (Act Place)) (w : World) → Inv w → IsKept w (run w acts)
run_kept [] w v = same w v
run_kept (act ∷ acts) w v =
    let one : IsKept w (with_act w act) = act_kept w v act in
    let rest : IsKept (with_act w act) (run (with_act w act) acts) = run_kept acts (with_act w act) one.inv in
    record { inv = rest.inv; part = part_of_part rest.part one.part }

-- acts after acts
pub run_more : (acts later : List (Act Place)) (w : World) → run w (acts ++ later) ≡ run (run w acts) later
run_more [] later w = refl
run_more (act ∷ acts) later w = run_more acts later (with_act w act)

pub new_kept : (s : Shape) (told : List Told) → IsNew s told → Inv (new_world s told)
new_kept s told new = inv_new s told new.some new.few new.tells

pub is_explained : (w : World) → Inv w → IsExplained w
is_explained w v = record {
  arises = (explained w v).0;
  explains = (explained w v).1;
  holds = agrees w v ∙ sym (queue_of_order w.shape.kind w.base w.told w.log.events w.log.effects (in_log w v));
}

-- each world that a new queue comes to keeps the invariants
pub inv_reached : (s : Shape) (w : World) → IsReached s w → Inv w
inv_reached s w r = subst (λ x. Inv x) r.by (run_kept r.acts (new_world s r.told) (new_kept s r.told r.new)).inv

pub every_history : (s : Shape) (w : World) → IsReached s w → IsExplained w
every_history s w r = is_explained w (inv_reached s w r)

pub nothing_back : (s : Shape) (w : World) (later : List (Act Place)) → IsReached s w → IsPartOf (order_of w.log.effects) (order_of (run w later).log.effects)
nothing_back s w later r = (run_kept later w (inv_reached s w r)).part

pub tells_by_kept : (w : World) → Inv w → TellsByKept w
tells_by_kept w v = record {
  sixteen = λ r tells e q. (told_is w v r e tells q).0;
  each = λ r tells e q. (told_is w v r e tells q).1;
}

pub kept_told : (s : Shape) (w : World) → IsReached s w → TellsByKept w
kept_told s w r = tells_by_kept w (inv_reached s w r)

-- what a list has somewhere is among its items
got_among : (xs : List ℕ) (i x : ℕ) → slice_get xs i ≡ Some x → IsAmong x xs
got_among [] i x e = absurd (cc)
got_among (y ∷ ys) zero x e = let same : y ≡ x = cc in inl (sym same)
got_among (y ∷ ys) (suc i) x e = inr (got_among ys i x e)

once : (xs : List ℕ) → Distinct xs → (i j x : ℕ) → slice_get xs i ≡ Some x → slice_get xs j ≡ Some x → i ≡ j
once [] d i j x e f = absurd (cc)
once (y ∷ ys) d zero zero x e f = refl
once (y ∷ ys) d zero (suc j) x e f =
    let same : y ≡ x = cc in
    absurd (d.0 (subst (λ z. IsAmong z ys) (sym same) (got_among ys j x f)))
once (y ∷ ys) d (suc i) zero x e f =
    let same : y ≡ x = cc in
    absurd (d.0 (subst (λ z. IsAmong z ys) (sym same) (got_among ys i x e)))
once (y ∷ ys) d (suc i) (suc j) x e f = ap suc (once ys d.1 i j x e f)

pub no_node_again : (w : World) → Inv w → HasNoneTwice (chain_of w.shape w.memory.kept)
no_node_again w v =
    let h : IsSound w.shape w.memory.kept = words_sound w v in
    once (chain_of w.shape w.memory.kept) (distinct (links w.memory.kept) 0 (chain_of w.shape w.memory.kept) h.chain.ends)

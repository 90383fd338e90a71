-- What waits to complete a flush has asked for it, through each act.
use Rattle.std.proofs.Common.{◌≡◌, ◌≢◌, ℕ, zero, suc, ◌+◌, ◌<◌, ◌≤◌, ◌⊎◌, inl, inr, Bool, true, false, List, Option, Some, None, Result, Ok, Err, length, replicate, slice_get, slice_index_or, slice_set, if◌then◌else◌, ◌==◌, refl, sym, ap, ◌∙◌, subst, arith, length-set}
use Rattle.std.specs.Prelude.{is_ok, ◌&&◌, nat_lt, not}
use Rattle.std.proofs.lemmas.Bool.{cases_eq, cases_lt, eq-eqb, ne_eqb}
use Rattle.std.proofs.lemmas.List.{get_or_past, get_or-replicate, get_or-set_same, get_or-set_other, length-replicate}
use Rattle.std.proofs.lemmas.Option.{get_or_from_slice_get, slice_get_within}
use Rattle.words.specs.declared.call.Call.{Call}
use Rattle.words.specs.declared.call.Call.TheVariants.{Enq, Deq}
use Rattle.words.specs.declared.call.Client.{Client}
use Rattle.words.specs.declared.call.Kind.{Kind}
use Rattle.words.specs.declared.call.Kind.TheVariants.{Durable, Log}
use Rattle.words.specs.declared.call.NodeId.{NodeId}
use Rattle.words.specs.declared.call.Token.{Token}
use Rattle.words.specs.declared.call.Reply.{Reply}
use Rattle.words.specs.PlainQueue.{Value}
use Rattle.words.specs.declared.limits.TheConstants.{RECOVERY_PORT}
use Rattle.words.specs.declared.refusal.Refusal.{Refusal}
use Rattle.words.specs.declared.told.Told.{Told}
use Rattle.persist.specs.Memory.{Access, Around, Cas, Fence, Flush, Lent, Load, MemoryState, Request, Store, lent_whole}
use Rattle.persist.specs.Memory.{seen_whole}
use Rattle.persist.proofs.Facts.{asked_elsewhere, lent_alike}
use Rattle.arena.specs.Layout.{place_at}
use Rattle.arena.specs.Shape.{Shape}
use Rattle.arena.specs.declared.codes.TheConstants.{EMPTY_CELL}
use Rattle.arena.specs.declared.place.Place.{Place}
use Rattle.arena.specs.declared.place.Write.{Write}
use Rattle.stepper.specs.Loading.{loaded_with}
use Rattle.stepper.specs.Preparation.{preparation_of, prepared_with}
use Rattle.stepper.specs.declared.loading.Loading.{Loading}
use Rattle.stepper.specs.declared.loading.Loading.TheVariants.{Length as at_length, First as at_first}
use Rattle.stepper.specs.declared.loading.Loading.TheVariants.{Second as at_second, Third as at_third}
use Rattle.stepper.specs.Step.{IsAskedFor, lent_after_one, place_of}
use Rattle.stepper.specs.declared.prepare.Begun.{Begun}
use Rattle.stepper.specs.declared.resume.After.{After}
use Rattle.stepper.specs.declared.resume.After.TheVariants.{More, Done}
use Rattle.helping.specs.Table.{access_of, answer_or_again, begun_at, first_from, prepared_op, successor, with_loaded}
use Rattle.helping.specs.declared.dequeue.Claim.{Claim}
use Rattle.helping.specs.declared.dequeue.Claim.TheVariants.{Won, LostTo}
use Rattle.helping.specs.declared.keeping.Keeping.TheVariants.{Link, PassedLink, Empty, DequeuePassedLink}
use Rattle.helping.specs.declared.keeping.Keeping.TheVariants.{Claim as KeepClaim, Result as KeepResult}
use Rattle.helping.specs.declared.op.Op.{Op}
use Rattle.helping.specs.declared.op.Op.TheVariants.{PrepareStore, PrepareFlush, PrepareFence, EnqueueLoadTail}
use Rattle.helping.specs.declared.op.Op.TheVariants.{EnqueueLoadNext, EnqueueCheckTail, EnqueueLink, EnqueueMoveTail}
use Rattle.helping.specs.declared.op.Op.TheVariants.{EnqueueHelpTail, DequeueLoadHead, DequeueLoadTail, DequeueLoadNext}
use Rattle.helping.specs.declared.op.Op.TheVariants.{DequeueCheckHead, DequeueStoreEmpty, DequeueHelpTail}
use Rattle.helping.specs.declared.op.Op.TheVariants.{DequeueLoadItem, DequeueClaim, DequeueStoreResult, DequeueMoveHead}
use Rattle.helping.specs.declared.op.Op.TheVariants.{Flush as FlushPoint, Fence as FencePoint}
use Rattle.recover.specs.Table.{access_of as recovery_access, boot_recovery, past_head, point_at_the_end}
use Rattle.recover.specs.Table.{point_past_status, recovery_at, successor as recovery_successor, to_answer, to_node}
use Rattle.recover.specs.Table.{to_outcome, to_row, got_with, removed_with}
use Rattle.recover.specs.declared.keeping.RecoveryKeeping.TheVariants.{Status, Result as RecoveryKeepResult, Head, Tail}
use Rattle.recover.specs.declared.point.RecoveryPoint.{RecoveryPoint}
use Rattle.recover.specs.declared.point.RecoveryPoint.TheVariants.{RecoveryLoadHead, RecoveryLoadNext}
use Rattle.recover.specs.declared.point.RecoveryPoint.TheVariants.{RecoveryLoadInsert, RecoveryStoreStatus}
use Rattle.recover.specs.declared.point.RecoveryPoint.TheVariants.{RecoveryLoadMark, RecoveryStoreResult}
use Rattle.recover.specs.declared.point.RecoveryPoint.TheVariants.{RecoveryStoreHead, RecoveryStoreTail}
use Rattle.recover.specs.declared.point.RecoveryPoint.TheVariants.{RecoveryLoadAnnouncement, RecoveryLoadCell}
use Rattle.recover.specs.declared.point.RecoveryPoint.TheVariants.{RecoveryLoadGot, RecoveryLoadNumber}
use Rattle.recover.specs.declared.point.RecoveryPoint.TheVariants.{RecoveryLoadKind, RecoveryLoadStatus}
use Rattle.recover.specs.declared.point.RecoveryPoint.TheVariants.{RecoveryLoadRemove, RecoveryLoadEntryNode}
use Rattle.recover.specs.declared.point.RecoveryPoint.TheVariants.{RecoveryLoadRemovedItem, Flush as RecoveryFlush}
use Rattle.recover.specs.declared.point.RecoveryPoint.TheVariants.{Fence as RecoveryFence}
use Rattle.recover.specs.declared.point.Report.{Report}
use Rattle.recover.specs.declared.recovery.Recovery.{Recovery}
use Rattle.protocol.specs.Machine.{begun_of, call_begun, next_of, next_recovery, recovery_left, with_next}
use Rattle.protocol.specs.declared.UnderWay.{UnderWay}
use Rattle.interleave.specs.Asked.{AreAsked, IfCallAsked, IfRecoveryAsked, lent_after_alone, lent_after_recover}
use Rattle.interleave.specs.Asked.{lent_after_step, lent_with, recovery_lent_with, requests_of}
use Rattle.interleave.specs.Calls.{waiting_result}
use Rattle.interleave.specs.Holds.{Holds}
use Rattle.interleave.specs.Rotation.{after_rotate, after_rotation, rotate_result}
use Rattle.interleave.specs.State.{State, after_alone, after_bump_load, after_call_began, after_evict, after_recover}
use Rattle.interleave.specs.State.{after_start, after_step, evict_with, is_down, machine, number_to_start, recover_with}
use Rattle.interleave.specs.State.{start_with, step_with, used_by}
use Rattle.interleave.proofs.machine.Holding.{holds_after_step, waiting_is}

-- what a call comes to has what it completes
abbrev IfMoreAsked : Shape → After Op Reply → Request → Type 0
IfMoreAsked s (More op) r = IsAskedFor s (access_of s.kind op) r
IfMoreAsked s (Done reply) r = Unit {0}

either : (s : Shape) (r : Request) (t : Bool) (x y : After Op Reply) → IfMoreAsked s x r → IfMoreAsked s y r → IfMoreAsked s (if t then x else y) r
either s r true x y a b = a
either s r false x y a b = b

first_asked : (s : Shape) (r : Request) (b : Begun) (call : Call) → IsAskedFor s (access_of s.kind (first_from call b)) r
first_asked s r b (Enq value) = tt
first_asked s r b Deq = tt

prepared_asked : (s : Shape) (r : Request) (b : Begun) (index : ℕ) (o : Option Write) → IsAskedFor s (access_of s.kind (prepared_op (prepared_with b index o))) r
prepared_asked s r b index (Some w) = tt
prepared_asked s r b index None = first_asked s r b b.call

again_asked : (s : Shape) (r : Request) (claim : Claim) (token : Token) (value : Value) → IfMoreAsked s (answer_or_again claim token value) r
again_asked s r Won token value = tt
again_asked s r (LostTo other) token value = tt

-- a message is loaded part by part
loaded_asked : (s : Shape) (r : Request) (token : Token) (first next : NodeId) (loading : Loading) (found : ℕ)
    → IfMoreAsked s (More (with_loaded (record { token = token; first = first; next = next; loading = loading }) (loaded_with loading found))) r
loaded_asked s r token first next at_length found = tt
loaded_asked s r token first next (at_first len) found = tt
loaded_asked s r token first next (at_second len one) found = tt
loaded_asked s r token first next (at_third len one two) found = tt

-- only a flush leads to a fence, and to that of its own word
next_asked : (s : Shape) (op : Op) (found : ℕ) (lent : Lent) → IfMoreAsked s (successor s.kind op found) (lent_after_one s (access_of s.kind op) lent).request
next_asked s (PrepareStore p) found lent = tt
next_asked s (PrepareFlush p) found lent = refl
next_asked s (PrepareFence p) found lent = prepared_asked s _ p.begun (p.index + 1) (slice_get (preparation_of s.kind p.begun) (p.index + 1))
next_asked s (EnqueueLoadTail p) found lent = tt
next_asked s (EnqueueLoadNext p) found lent = tt
next_asked s (EnqueueCheckTail p) found lent = either s lent.request (found == p.last.0) _ _ (either s lent.request (p.next.0 == 0) _ _ tt tt) tt
next_asked s (EnqueueLink p) found lent = either s lent.request (found == 0) _ _ tt tt
next_asked s (EnqueueMoveTail p) found lent = tt
next_asked s (EnqueueHelpTail p) found lent = tt
next_asked s (DequeueLoadHead p) found lent = tt
next_asked s (DequeueLoadTail p) found lent = tt
next_asked s (DequeueLoadNext p) found lent = tt
next_asked s (DequeueCheckHead p) found lent =
    either s lent.request (found == p.first.0) _ _
    (either s lent.request (p.first.0 == p.last.0) _ _ (either s lent.request (p.next.0 == 0) _ _ tt tt) tt) tt
next_asked s (DequeueStoreEmpty p) found lent = tt
next_asked s (DequeueHelpTail p) found lent = tt
next_asked s (DequeueLoadItem p) found lent = loaded_asked s lent.request p.token p.first p.next p.loading found
next_asked s (DequeueClaim p) found lent = tt
next_asked s (DequeueStoreResult p) found lent = tt
next_asked s (DequeueMoveHead p) found lent = again_asked s lent.request p.claimed.claim p.claimed.token p.claimed.value
next_asked s (FlushPoint k) found lent = refl
next_asked s (FencePoint (Link p)) found lent = tt
next_asked s (FencePoint (PassedLink p)) found lent = tt
next_asked s (FencePoint (Empty p)) found lent = tt
next_asked s (FencePoint (DequeuePassedLink p)) found lent = tt
next_asked s (FencePoint (KeepClaim p)) found lent = tt
next_asked s (FencePoint (KeepResult p)) found lent = tt

call_next_asked : (s : Shape) (u : UnderWay) (next : After Op Reply) (r : Request) → IfMoreAsked s next r → IfCallAsked s (with_next u next) r
call_next_asked s u (More op) r asked = asked
call_next_asked s u (Done reply) r asked = tt

-- a call begins with a store
begun_asked : (s : Shape) (kind : Kind) (call : Call) (b : Begun) (r : Request) → s.kind ≡ kind → b.call ≡ call → IsAskedFor s (access_of s.kind (begun_at s.kind b)) r
begun_asked s kind call b r k c = subst (λ (x : Kind). IsAskedFor s (access_of x (begun_at x b)) r) (sym k) (at kind call c)
  where
    at : (kind : Kind) (call : Call) → b.call ≡ call → IsAskedFor s (access_of kind (begun_at kind b)) r
    at kind call c = prepared_asked_in kind (slice_get (preparation_of kind b) 0)
      where
        prepared_asked_in : (kind : Kind) (o : Option Write) → IsAskedFor s (access_of kind (prepared_op (prepared_with b 0 o))) r
        prepared_asked_in kind (Some w) = tt
        prepared_asked_in kind None = first_in b.call
          where
            first_in : (call : Call) → IsAskedFor s (access_of kind (first_from call b)) r
            first_in (Enq value) = tt
            first_in Deq = tt

-- what recovery comes to has what it completes
abbrev IfPointAsked : Shape → After RecoveryPoint Report → Request → Type 0
IfPointAsked s (More at) r = IsAskedFor s (recovery_access s.kind at) r
IfPointAsked s (Done report) r = Unit {0}

module _ (s : Shape) (r : Request) where
  one_of : (t : Bool) (x y : RecoveryPoint) → IsAskedFor s (recovery_access s.kind x) r → IsAskedFor s (recovery_access s.kind y) r → IsAskedFor s (recovery_access s.kind (if t then x else y)) r
  one_of true x y a b = a
  one_of false x y a b = b

  point_of : (t : Bool) (x y : After RecoveryPoint Report) → IfPointAsked s x r → IfPointAsked s y r → IfPointAsked s (if t then x else y) r
  point_of true x y a b = a
  point_of false x y a b = b

  end_asked : (cur : NodeId) (moved : Bool) → IsAskedFor s (recovery_access s.kind (point_at_the_end cur moved)) r
  end_asked cur true = tt
  end_asked cur false = tt

  past_asked : (cur node : NodeId) (moved : Bool) → IsAskedFor s (recovery_access s.kind (point_past_status cur node moved)) r
  past_asked cur node true = tt
  past_asked cur node false = tt

  node_asked : (kind : Kind) (cur node : NodeId) (moved : Bool) → IsAskedFor s (recovery_access s.kind (to_node kind cur node moved)) r
  node_asked Durable cur node moved = past_asked cur node moved
  node_asked Log cur node moved = tt

  head_asked : (cur : NodeId) (unclaimed : Option NodeId) → IsAskedFor s (recovery_access s.kind (past_head cur unclaimed)) r
  head_asked cur (Some node) = tt
  head_asked cur None = tt

  answer_asked : (kind : Kind) (client : Client) (token : Token) → IsAskedFor s (recovery_access s.kind (to_answer kind client token)) r
  answer_asked Durable client token = tt
  answer_asked Log client token = tt

  outcome_asked : (t : Bool) (client : Client) (token : Token) (number : ℕ) → IsAskedFor s (recovery_access s.kind (to_outcome t client token number)) r
  outcome_asked true client token number = tt
  outcome_asked false client token number = tt

  row_asked : (client : Client) (answer : ℕ) → IfPointAsked s (to_row client answer) r
  row_asked client answer = point_of (answer == 0) _ _ tt (point_of (answer == EMPTY_CELL) _ _ tt tt)

  got_asked : (client : Client) (node : NodeId) (loading : Loading) (found : ℕ)
      → IfPointAsked s (got_with (record { client = client; node = node; loading = loading }) (loaded_with loading found)) r
  got_asked client node at_length found = tt
  got_asked client node (at_first len) found = tt
  got_asked client node (at_second len one) found = tt
  got_asked client node (at_third len one two) found = tt

  removed_asked : (client : Client) (number : ℕ) (node : NodeId) (loading : Loading) (found : ℕ)
      → IfPointAsked s (removed_with (record { client = client; number = number; node = node; loading = loading }) (loaded_with loading found)) r
  removed_asked client number node at_length found = tt
  removed_asked client number node (at_first len) found = tt
  removed_asked client number node (at_second len one) found = tt
  removed_asked client number node (at_third len one two) found = tt

point_asked : (s : Shape) (at : RecoveryPoint) (found : ℕ) (lent : Lent) → IfPointAsked s (recovery_successor s at found) (lent_after_one s (recovery_access s.kind at) lent).request
point_asked s (RecoveryLoadHead p) found lent = tt
point_asked s (RecoveryLoadNext p) found lent = one_of s lent.request (found == 0) _ _ (end_asked s lent.request p.cur p.moved) (node_asked s lent.request s.kind p.cur _ p.moved)
point_asked s (RecoveryLoadInsert p) found lent = tt
point_asked s (RecoveryStoreStatus p) found lent = tt
point_asked s (RecoveryLoadMark p) found lent = one_of s lent.request (found == 0) _ _ tt tt
point_asked s (RecoveryStoreResult p) found lent = tt
point_asked s (RecoveryStoreHead p) found lent = tt
point_asked s (RecoveryStoreTail p) found lent = tt
point_asked s (RecoveryLoadAnnouncement p) found lent = point_of s lent.request (found == 0) _ _ tt (answer_asked s lent.request s.kind p.client _)
point_asked s (RecoveryLoadCell p) found lent = row_asked s lent.request p.client found
point_asked s (RecoveryLoadGot p) found lent = got_asked s lent.request p.client p.node p.loading found
point_asked s (RecoveryLoadNumber p) found lent = tt
point_asked s (RecoveryLoadKind p) found lent = tt
point_asked s (RecoveryLoadStatus p) found lent =
    point_of s lent.request (p.is_enqueue && (found == 1)) _ _ tt (point_of s lent.request ((not p.is_enqueue) && (found == 2)) _ _ tt (outcome_asked s lent.request p.is_enqueue p.client p.token p.number))
point_asked s (RecoveryLoadRemove p) found lent = tt
point_asked s (RecoveryLoadEntryNode p) found lent = point_of s lent.request (found == 0) _ _ tt tt
point_asked s (RecoveryLoadRemovedItem p) found lent = removed_asked s lent.request p.client p.number p.node p.loading found
point_asked s (RecoveryFlush k) found lent = refl
point_asked s (RecoveryFence (Status p)) found lent = past_asked s _ p.cur p.node p.moved
point_asked s (RecoveryFence (RecoveryKeepResult p)) found lent = tt
point_asked s (RecoveryFence (Head p)) found lent = head_asked s _ p.cur p.unclaimed
point_asked s (RecoveryFence (Tail p)) found lent = tt

recovery_next_asked : (s : Shape) (told : List Told) (next : After RecoveryPoint Report) (r : Request) → IfPointAsked s next r → IfRecoveryAsked s (recovery_left (recovery_at s told next)) r
recovery_next_asked s told (More at) r asked = asked
recovery_next_asked s told (Done report) r asked = go (nat_lt (report.client.0 + 1) s.clients)
  where
    go : (t : Bool) → IfRecoveryAsked s (recovery_left (if t
        then More (record { told = slice_set told report.client.0 report.told; at = RecoveryLoadAnnouncement (record { client = record { 0 = report.client.0 + 1 } }) })
        else Done (slice_set told report.client.0 report.told))) r
    go true = tt
    go false = tt

-- the ports ask for the same as before, but for this one
abbrev pub AskElsewhere : (ℕ → Request) → (ℕ → Request) → ℕ → Type 0
AskElsewhere requests new port = (t : ℕ) → t ≢ port → new t ≡ requests t

-- where no port's request changed
pub asked_same : (s : Shape) (calls : List (Option UnderWay)) (recovery : Option Recovery) (requests new : ℕ → Request) → ((t : ℕ) → new t ≡ requests t)
    → AreAsked s calls recovery requests → AreAsked s calls recovery new
asked_same s calls recovery requests new same asked = record {
  of_calls = λ t. subst (IfCallAsked s (slice_index_or calls t None)) (sym (same t)) (asked.of_calls t);
  of_recovery = subst (IfRecoveryAsked s recovery) (sym (same RECOVERY_PORT)) asked.of_recovery;
}

pub all_same : (requests new : ℕ → Request) (port : ℕ) → new port ≡ requests port → AskElsewhere requests new port → (t : ℕ) → new t ≡ requests t
all_same requests new port here there t = elim (cases_eq t port) [
  | inl e ↦ ap new e ∙ here ∙ ap requests (sym e)
  | inr ne ↦ there t ne
]

-- a client's place in the calls is written
put_call : (s : Shape) (calls : List (Option UnderWay)) (client : ℕ) (x : Option UnderWay) (recovery : Option Recovery) (requests new : ℕ → Request)
    → IfCallAsked s x (new client) → AskElsewhere requests new client → client ≢ RECOVERY_PORT → AreAsked s calls recovery requests → AreAsked s (slice_set calls client x) recovery new
put_call s calls client x recovery requests new here there apart asked = record {
  of_calls = λ t. elim (cases_eq t client) [
    | inl e ↦ subst (λ (n : ℕ). IfCallAsked s (slice_index_or (slice_set calls client x) n None) (new n)) (sym e) (at (cases_lt client (length calls)))
    | inr ne ↦ subst (λ (o : Option UnderWay). IfCallAsked s o (new t)) (sym (get_or-set_other calls client t x None ne))
        (subst (IfCallAsked s (slice_index_or calls t None)) (sym (there t ne)) (asked.of_calls t))
  ];
  of_recovery = subst (IfRecoveryAsked s recovery) (sym (there RECOVERY_PORT (λ e. apart (sym e)))) asked.of_recovery;
}
  where
    at : (client < length calls) ⊎ (length calls ≤ client) → IfCallAsked s (slice_index_or (slice_set calls client x) client None) (new client)
    at (inl h) = subst (λ (o : Option UnderWay). IfCallAsked s o (new client)) (sym (get_or-set_same calls client x None h)) here
    at (inr h) = subst (λ (o : Option UnderWay). IfCallAsked s o (new client))
        (sym (get_or_past (slice_set calls client x) client None (omega (arith, h, length-set calls client x)))) tt

-- a client's number is no recovery's port
below_recovery : (w : State) (t : ℕ) (o : Option UnderWay) → Holds w → slice_get w.calls t ≡ Some o → t ≢ RECOVERY_PORT
below_recovery w t o holds here e = let within = slice_get_within w.calls t o here in absurd (omega (arith, within, holds.safe.clients, holds.safe.few, e))

-- a step
pub asked_stepped : (full : Bool) (w : State) (client : Client) (lent : Lent) (requests new : ℕ → Request) → Holds w → lent.request ≡ requests client.0
    → new client.0 ≡ (lent_after_step full w client lent).request → AskElsewhere requests new client.0
    → AreAsked w.shape w.calls w.recovery requests → AreAsked (after_step full w client).shape (after_step full w client).calls (after_step full w client).recovery new
asked_stepped full w client lent requests new holds own here there asked = go full (waiting_result (is_down w) (slice_get w.calls client.0)) refl here
  where
    unchanged : new client.0 ≡ lent.request → AreAsked w.shape w.calls w.recovery new
    unchanged same = asked_same w.shape w.calls w.recovery requests new (all_same requests new client.0 (same ∙ own) there) asked

    go : (full : Bool) (r : Result UnderWay Refusal) → waiting_result (is_down w) (slice_get w.calls client.0) ≡ r → new client.0 ≡ (lent_with full w lent r).request
        → AreAsked (step_with full w client r).shape (step_with full w client r).calls (step_with full w client r).recovery new
    go full (Err refusal) e at = unchanged at
    go true (Ok u) e at = unchanged at
    go false (Ok u) e at =
        let waits : slice_get w.calls client.0 ≡ Some (Some u) = waiting_is _ (slice_get w.calls client.0) u e in
        put_call w.shape w.calls client.0 (with_next u (next_of (machine w) u)) w.recovery requests new
        (call_next_asked w.shape u (next_of (machine w) u) (new client.0)
        (subst (IfMoreAsked w.shape (next_of (machine w) u)) (sym at) (next_asked w.shape u.op ((machine w).memory.cached (place_of (access_of w.shape.kind u.op))) lent)))
        there (below_recovery w client.0 (Some u) holds waits) asked

-- a step of recovery
pub asked_recovered : (full : Bool) (w : State) (lent : Lent) (requests new : ℕ → Request) → Holds w → lent.request ≡ requests RECOVERY_PORT
    → new RECOVERY_PORT ≡ (lent_after_recover full w lent).request → AskElsewhere requests new RECOVERY_PORT
    → AreAsked w.shape w.calls w.recovery requests → AreAsked (after_recover full w).shape (after_recover full w).calls (after_recover full w).recovery new
asked_recovered full w lent requests new holds own here there asked = go full w.recovery here asked
  where
    -- no client calls through recovery's port
    calls_asked : (t : ℕ) → IfCallAsked w.shape (slice_index_or w.calls t None) (new t)
    calls_asked t = elim (cases_eq t RECOVERY_PORT) [
      | inl e ↦ subst (λ (o : Option UnderWay). IfCallAsked w.shape o (new t)) (sym (get_or_past w.calls t None (omega (arith, e, holds.safe.clients, holds.safe.few)))) tt
      | inr ne ↦ subst (IfCallAsked w.shape (slice_index_or w.calls t None)) (sym (there t ne)) (asked.of_calls t)
    ]

    go : (full : Bool) (r : Option Recovery) → new RECOVERY_PORT ≡ (recovery_lent_with full w lent r).request → AreAsked w.shape w.calls r requests
        → AreAsked (recover_with full w r).shape (recover_with full w r).calls (recover_with full w r).recovery new
    go full None at was = record { of_calls = calls_asked; of_recovery = subst (IfRecoveryAsked w.shape w.recovery) (sym (at ∙ own)) asked.of_recovery }
    go true (Some r) at was = record { of_calls = calls_asked; of_recovery = subst (IfRecoveryAsked w.shape w.recovery) (sym (at ∙ own)) asked.of_recovery }
    go false (Some r) at was = record {
      of_calls = calls_asked;
      of_recovery = subst (IfRecoveryAsked w.shape (recovery_left (next_recovery (machine w) r))) (sym at)
          (recovery_next_asked w.shape r.told _ _ (point_asked w.shape r.at ((machine w).memory.cached (place_of (recovery_access w.shape.kind r.at))) lent));
    }

-- a start asks for nothing
pub asked_started : (full : Bool) (w : State) (client : Client) (number : ℕ) (call : Call) (requests new : ℕ → Request) → Holds w → ((t : ℕ) → new t ≡ requests t)
    → AreAsked w.shape w.calls w.recovery requests
    → AreAsked (after_start full w client number call).shape (after_start full w client number call).calls (after_start full w client number call).recovery new
asked_started full w client number call requests new holds same asked = go (number_to_start w client number call)
  where
    now : AreAsked w.shape w.calls w.recovery new
    now = asked_same w.shape w.calls w.recovery requests new same asked

    -- a client that there is not has no place that is written
    begins : (n : ℕ) → AreAsked (after_call_began w client n call).shape (after_call_began w client n call).calls (after_call_began w client n call).recovery new
    begins n = at (cases_lt client.0 (length w.calls))
      where
        call_now : UnderWay
        call_now = call_begun (machine w) (begun_of (machine w) client n call)

        nobody : (t : ℕ) → length w.calls ≤ t → slice_index_or (slice_set w.calls client.0 (Some call_now)) t None ≡ None
        nobody t past = get_or_past (slice_set w.calls client.0 (Some call_now)) t None (omega (arith, past, length-set w.calls client.0 (Some call_now)))

        at : (client.0 < length w.calls) ⊎ (length w.calls ≤ client.0)
            → AreAsked (after_call_began w client n call).shape (after_call_began w client n call).calls (after_call_began w client n call).recovery new
        at (inl h) = put_call w.shape w.calls client.0 _ w.recovery new new (begun_asked w.shape w.shape.kind call _ (new client.0) refl refl) (λ t ne. refl)
            (λ e. omega (arith, e, h, holds.safe.clients, holds.safe.few)) now
        at (inr h) = record {
          of_calls = λ t. elim (cases_eq t client.0) [
            | inl e ↦ subst (λ (o : Option UnderWay). IfCallAsked w.shape o (new t)) (sym (nobody t (omega (arith, e, h)))) tt
            | inr ne ↦ subst (λ (o : Option UnderWay). IfCallAsked w.shape o (new t)) (sym (get_or-set_other w.calls client.0 t _ None ne)) (now.of_calls t)
          ];
          of_recovery = now.of_recovery;
        }

    go : (r : Result ℕ Refusal) → AreAsked (start_with full w client call r).shape (start_with full w client call r).calls (start_with full w client call r).recovery new
    go (Err refusal) = now
    go (Ok n) = pick (used_by w client == w.shape.records) full
      where
        pick : (a b : Bool) → (let x : State = (if a then after_bump_load w else (if b then after_bump_load w else after_call_began w client n call)) in AreAsked x.shape x.calls x.recovery new)
        pick true b = now
        pick false true = now
        pick false false = begins n

-- an eviction leaves every request
pub asked_evicted : (w : State) (word : ℕ) (requests new : ℕ → Request) → ((t : ℕ) → new t ≡ requests t) → AreAsked w.shape w.calls w.recovery requests
    → AreAsked (after_evict w word).shape (after_evict w word).calls (after_evict w word).recovery new
asked_evicted w word requests new same asked = go (place_at w.shape word)
  where
    now : AreAsked w.shape w.calls w.recovery new
    now = asked_same w.shape w.calls w.recovery requests new same asked

    go : (o : Option Place) → AreAsked (evict_with w word o).shape (evict_with w word o).calls (evict_with w word o).recovery new
    go None = now
    go (Some p) = record { of_calls = now.of_calls; of_recovery = now.of_recovery }

-- nobody calls, and recovery is at its beginning, or none is under way
none_calls : (s : Shape) (n t : ℕ) (r : Request) → IfCallAsked s (slice_index_or (let l : List (Option UnderWay) = replicate n None in l) t None) r
none_calls s n t r = subst (λ (o : Option UnderWay). IfCallAsked s o r) (sym (at (cases_lt t n))) tt
  where
    at : (t < n) ⊎ (n ≤ t) → slice_index_or (let l : List (Option UnderWay) = replicate n None in l) t None ≡ None
    at (inl h) = get_or-replicate n t None None h
    at (inr h) = get_or_past (let l : List (Option UnderWay) = replicate n None in l) t None (omega (arith, h, length-replicate n (let o : Option UnderWay = None in o)))

pub asked_at_first : (s : Shape) (n : ℕ) (requests : ℕ → Request) → AreAsked s (replicate n None) None requests
asked_at_first s n requests = record { of_calls = λ t. none_calls s n t (requests t); of_recovery = tt }

pub asked_at_boot : (s : Shape) (n : ℕ) (requests : ℕ → Request) → AreAsked s (replicate n None) (Some boot_recovery) requests
asked_at_boot s n requests = record { of_calls = λ t. none_calls s n t (requests t); of_recovery = tt }

-- so many steps alone
pub asked_alone : (n : ℕ) (w : State) (client : Client) (lent : Lent) (requests : ℕ → Request) → Holds w → lent.request ≡ requests client.0
    → AreAsked w.shape w.calls w.recovery requests
    → (new : ℕ → Request) → new client.0 ≡ (lent_after_alone n w client lent).request → AskElsewhere requests new client.0
    → AreAsked (after_alone n w client).shape (after_alone n w client).calls (after_alone n w client).recovery new × Holds (after_alone n w client)
asked_alone zero w client lent requests holds own asked new here there =
    (asked_same w.shape w.calls w.recovery requests new (all_same requests new client.0 (here ∙ own) there) asked, holds)
asked_alone (suc n) w client lent requests holds own asked new here there =
    let between : ℕ → Request = λ t. if t == client.0 then (lent_after_alone n w client lent).request else requests t in
    let at : between client.0 ≡ (lent_after_alone n w client lent).request = rw (eq-eqb client.0 client.0 refl) refl in
    let elsewhere : AskElsewhere requests between client.0 = λ t ne. rw (ne_eqb t client.0 ne) refl in
    let before = asked_alone n w client lent requests holds own asked between at elsewhere in (
      asked_stepped false (after_alone n w client) client (lent_after_alone n w client lent) between new before.1 (sym at) here
          (λ t ne. there t ne ∙ sym (elsewhere t ne)) before.0,
      holds_after_step false (after_alone n w client) client before.1,
    )

-- a rotation is no act on the words
pub asked_rotated : (full : Bool) (w : State) (requests : ℕ → Request) → AreAsked w.shape w.calls w.recovery requests
    → AreAsked (after_rotate full w).shape (after_rotate full w).calls (after_rotate full w).recovery requests
asked_rotated full w requests asked = go (is_ok (rotate_result full w))
  where
    go : (t : Bool) → (let x : State = (if t then after_rotation w else w) in AreAsked x.shape x.calls x.recovery requests)
    go true = record { of_calls = asked.of_calls; of_recovery = asked.of_recovery }
    go false = asked

-- the call that a client has under way is the one in its place
pub own_asked : (s : Shape) (calls : List (Option UnderWay)) (t : ℕ) (u : UnderWay) (r : Request) → slice_get calls t ≡ Some (Some u)
    → IfCallAsked s (slice_index_or calls t None) r → IsAskedFor s (access_of s.kind u.op) r
own_asked s calls t u r here asked = subst (λ (o : Option UnderWay). IfCallAsked s o r) (get_or_from_slice_get calls t (Some u) None here) asked

-- through a step a client's own port alone matters
pub own_stepped : (w : State) (client : Client) (lent : Lent) → Holds w → IfCallAsked w.shape (slice_index_or w.calls client.0 None) lent.request
    → IfCallAsked (after_step false w client).shape (slice_index_or (after_step false w client).calls client.0 None) (lent_after_step false w client lent).request
own_stepped w client lent holds asked = go (waiting_result (is_down w) (slice_get w.calls client.0)) refl
  where
    go : (r : Result UnderWay Refusal) → waiting_result (is_down w) (slice_get w.calls client.0) ≡ r
        → IfCallAsked (step_with false w client r).shape (slice_index_or (step_with false w client r).calls client.0 None) (lent_with false w lent r).request
    go (Err refusal) e = asked
    go (Ok u) e =
        let waits : slice_get w.calls client.0 ≡ Some (Some u) = waiting_is _ (slice_get w.calls client.0) u e in
        let inside = slice_get_within w.calls client.0 (Some u) waits in
        let x : Option UnderWay = with_next u (next_of (machine w) u) in
        subst (λ (o : Option UnderWay). IfCallAsked w.shape o (lent_with false w lent (Ok u)).request) (sym (get_or-set_same w.calls client.0 x None inside))
        (call_next_asked w.shape u (next_of (machine w) u) (lent_with false w lent (Ok u)).request
        (next_asked w.shape u.op ((machine w).memory.cached (place_of (access_of w.shape.kind u.op))) lent))

-- no act changes what lies around the words
around_after : (s : Shape) (access : Access Place) (lent : Lent) → (lent_after_one s access lent).around ≡ lent.around
around_after s (Load p) lent = refl
around_after s (Store p v) lent = refl
around_after s (Cas p old new) lent = refl
around_after s (Flush p) lent = refl
around_after s (Fence p) lent = refl

pub around_stepped : (full : Bool) (w : State) (client : Client) (lent : Lent) → (lent_after_step full w client lent).around ≡ lent.around
around_stepped full w client lent = go full (waiting_result (is_down w) (slice_get w.calls client.0))
  where
    go : (full : Bool) (r : Result UnderWay Refusal) → (lent_with full w lent r).around ≡ lent.around
    go full (Err refusal) = refl
    go true (Ok u) = refl
    go false (Ok u) = around_after w.shape (access_of w.shape.kind u.op) lent

pub around_alone : (n : ℕ) (w : State) (client : Client) (lent : Lent) → (lent_after_alone n w client lent).around ≡ lent.around
around_alone zero w client lent = refl
around_alone (suc n) w client lent =
    around_stepped false (after_alone n w client) client (lent_after_alone n w client lent) ∙ around_alone n w client lent

pub around_recovered : (full : Bool) (w : State) (lent : Lent) → (lent_after_recover full w lent).around ≡ lent.around
around_recovered full w lent = go full w.recovery
  where
    go : (full : Bool) (r : Option Recovery) → (recovery_lent_with full w lent r).around ≡ lent.around
    go full None = refl
    go true (Some r) = refl
    go false (Some r) = around_after w.shape (recovery_access w.shape.kind r.at) lent

-- what the ports of a memory ask for, once it was lent through one of them
pub record Returned (requests new : ℕ → Request) (port : ℕ) (lent : Lent) : Type 0 where
  pub here : new port ≡ lent.request
  pub there : AskElsewhere requests new port

pub returned : (name name2 port port2 : ℕ) (m n : MemoryState) (lent : Lent) → lent_whole name2 port2 n ≡ lent → lent.around ≡ (lent_whole name port m).around
    → Returned (requests_of m) (requests_of n) port lent
returned name name2 port port2 m n lent e around =
    let same : port2 ≡ port = ap (λ (l : Lent). l.around.port) e ∙ ap (λ (a : Around). a.port) around in
    let others : slice_set n.asked port2 None ≡ slice_set m.asked port None = ap (λ (l : Lent). l.around.others) e ∙ ap (λ (a : Around). a.others) around in
    record {
      here = ap (requests_of n) (sym same) ∙ ap (λ (l : Lent). l.request) e;
      there = λ t ne. ap seen_whole (asked_elsewhere m.asked n.asked port t ne (ap (λ (p : ℕ). slice_set n.asked p None) (sym same) ∙ others));
    }

-- one that asks for the same through its own port asks for the same through each
pub unasked_for : (name port : ℕ) (m n : MemoryState) → lent_whole name port n ≡ lent_whole name port m → (t : ℕ) → requests_of n t ≡ requests_of m t
unasked_for name port m n e t = ap (λ (l : List (Option ℕ)). seen_whole (slice_index_or l t None)) (lent_alike name port m n e)

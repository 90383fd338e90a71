-- A ready world, in which clients are told rightly whenever the system stops.
use Rattle.std.proofs.Common.{◌≡◌, ◌≢◌, ℕ, ◌<◌, inl, inr, List, [], ◌∷◌, ◌++◌, Some, ap, subst, length, Bool, true, false, if◌then◌else◌, ◌==◌, refl, sym, ◌∙◌, arith}
use Rattle.std.specs.Prelude.{nat_lt}
use Rattle.std.proofs.lemmas.Bool.{cases_eq, cases_lt, lt-ltb, le-ltb}
use Rattle.std.proofs.lemmas.List.Elements.{All-weaker}
use Rattle.words.specs.PlainQueue.{Value}
use Rattle.words.specs.declared.call.Call.{Call}
use Rattle.words.specs.declared.call.Client.{Client}
use Rattle.words.specs.declared.call.Kind.{Kind}
use Rattle.words.specs.declared.call.Kind.TheVariants.{Durable, Log}
use Rattle.words.specs.declared.call.Reply.{Reply}
use Rattle.words.specs.declared.told.Row.{Row}
use Rattle.words.specs.declared.told.Row.TheVariants.{NoCall, Open, Empty as row_empty, Got as row_got}
use Rattle.words.specs.declared.told.Told.{Told}
use Rattle.words.specs.declared.told.Told.TheVariants.{None as told_none, Verdict as told_verdict, Row as told_row}
use Rattle.persist.specs.Memory.{Access, Load, Store, Cas, Flush, Fence}
use Rattle.arena.specs.Shape.{Shape}
use Rattle.arena.specs.declared.place.Place.{Place}
use Rattle.stepper.specs.declared.resume.After.{After}
use Rattle.stepper.specs.declared.resume.After.TheVariants.{More, Done}
use Rattle.helping.specs.Table.{access_of}
use Rattle.helping.specs.declared.op.Op.{Op}
use Rattle.words.specs.Told.{no_call}
use Rattle.events.specs.Effects.{order_of}
use Rattle.events.specs.Trace.{IsTrace, IsEffect}
use Rattle.events.specs.Orders.{InOrder}
use Rattle.events.specs.declared.event.Effect.{Effect}
use Rattle.events.specs.declared.event.Event.{Event}
use Rattle.events.specs.declared.event.Event.TheVariants.{Call as call_event, Return as return_event}
use Rattle.protocol.specs.Machine.{with_call, with_next, begun_of, call_begun, Memory, World, with_store, with_fence, with_access, after_keeping, effects_after, events_after, next_of, with_step, with_start, with_eviction, MayStart, MayStep}
use Rattle.protocol.specs.declared.UnderWay.{UnderWay}
use Rattle.sound_words.specs.Sound.{IsIssued, IsOwn}
use Rattle.protocol.specs.Kept.{TellsBy, TellsOf}
use Rattle.protocol.specs.invariants.Ledger.Stage.{Unmoved, Took}
use Rattle.protocol.proofs.changes.Keeps.{kept_ledger}
use Rattle.protocol.proofs.records.Records.{keep_records}
use Rattle.protocol.proofs.calls.Rows.{ledger_after}
use Rattle.protocol.specs.invariants.Ledger.{stage_at}
use Rattle.protocol.proofs.worlds.Stages.{unmoved_of_none, stage_in_order}
use Rattle.protocol.specs.invariants.Worlds.{ledger_of, IsCalling, record_of_call, IsReady}
use Rattle.protocol.proofs.worlds.Moments.{calling}
use Rattle.protocol.specs.Announced.{IsCallOf}
use Rattle.protocol.specs.declared.Issued.{Issued}
use Rattle.stepper.specs.Preparation.{IsBegun}
use Rattle.stepper.specs.declared.prepare.Begun.{Begun}
use Rattle.arena.specs.Words.{announcements, bumps}
use Rattle.arena.specs.Shape.{owner}
use Rattle.protocol.proofs.worlds.Acts.{call_same, call_other, kept, noted, step_row, step_noted_now, step_records, evicted_works, stepped_works, started_works}
use Rattle.protocol.proofs.calls.Rebegun.{record_owner, next_unissued}
use Rattle.protocol.specs.invariants.Knows.{Knows}
use Rattle.protocol.proofs.told.Issuing.{call_stays, call_new, names_stay, names_nobody_still}
use Rattle.protocol.specs.invariants.Told.{IsTold, RightlyTold}
use Rattle.protocol.proofs.told.Tells.{IsTold-push, told_renamed}
use Rattle.protocol.proofs.told.Rightly.{KeptBy, call_begun_fits, kept_told}

-- an access keeps one word at most
pub access_kept : (m : Memory) (a : Access Place) → KeptBy m (with_access m a)
access_kept m (Load p) = inl refl
access_kept m (Store p v) = inl refl
access_kept m (Cas p old new) = go (m.cached p == old)
  where
    go : (t : Bool) → KeptBy m (if t then with_store m p new else m)
    go true = inl refl
    go false = inl refl
access_kept m (Flush p) = inl refl
access_kept m (Fence p) = inr (record { p = p; same = refl })

-- no call stands where the history ends
pub none_at_end : (kind : Kind) (base : List Value) (told : List Told) (events : List Event) (effects : List Effect) → IsTrace kind base told events effects → InOrder (order_of effects) (length events) → ⊥
none_at_end kind base told events effects log h =
    let t : (reply : Reply) × (stage_at (length events) effects ≡ Took reply) = stage_in_order (length events) effects h in
    let none : stage_at (length events) effects ≡ Unmoved =
    unmoved_of_none (length events) effects
    (All-weaker (λ (x : Effect). IsEffect events x) (λ (x : Effect). x.place ≢ length events) (λ x e q. absurd (omega (arith, e.after, e.before, q))) effects log.within) in
    let wrong : Unmoved ≡ Took t.0 = sym none ∙ t.1 in
    cc

pub evicted_ready : (w : World) → IsReady w → (p : Place) → IsReady (with_eviction w p)
evicted_ready w v p = record {
  working = evicted_works w v.working p;
  tells = λ client told few h.
      kept_told w v.working v.tells v.issued (with_fence w.memory p) (after_keeping w p) (kept_ledger w.shape w.memory (ledger_of w) p) (kept w v.working p).claimed (kept w v.working p).waiting (kept w v.working p).base
      (keep_records w.shape w.memory (ledger_of w) v.working.claimed v.working.waiting v.working.base v.working.records p) (noted w v.working p) (inr (record { p = p; same = refl })) client told few h;
  issued = v.issued;
}

pub stepped_ready : (w : World) → IsReady w → (client : Client) (u : UnderWay) → MayStep w client u → IsReady (with_step w client u)
stepped_ready w v client u may = record { working = stepped_works w v.working client u may; tells = go (next_of w u); issued = issued_after (next_of w u) }
  where
    issued_after : (next : After Op Reply) (j : ℕ) (x : UnderWay) → with_call w.calls client.0 (with_next u next) j ≡ Some x → IsCallOf w.log.issued x.begun.token.0 (record { place = x.place; begun = x.begun })
    issued_after next j x at = elim (cases_eq j client.0) [
      | inl e ↦ goes next (sym (call_same w.calls client.0 (with_next u next) j e) ∙ at)
      | inr ne ↦ v.issued j x (sym (call_other w.calls client.0 (with_next u next) j ne) ∙ at)
    ]
      where
        goes : (a : After Op Reply) → with_next u a ≡ Some x → IsCallOf w.log.issued x.begun.token.0 (record { place = x.place; begun = x.begun })
        goes (Done reply) q = cc
        goes (More op) q =
            let same : Some (let y : UnderWay = record u { op = op } in y) ≡ Some x = q in
            let place : u.place ≡ x.place = cc in
            let begun : u.begun ≡ x.begun = cc in
            subst (λ (b : Begun). IsCallOf w.log.issued b.token.0 (record { place = x.place; begun = b })) begun
            (subst (λ (p : ℕ). IsCallOf w.log.issued u.begun.token.0 (record { place = p; begun = u.begun })) place (v.issued client.0 u may.waits))

    before : RightlyTold (record w { memory = with_access w.memory (access_of w.shape.kind u.op); log = record { events = w.log.events; issued = w.log.issued; effects = effects_after w u u.op } })
    before c told few h =
        kept_told w v.working v.tells v.issued (with_access w.memory (access_of w.shape.kind u.op)) (effects_after w u u.op) (ledger_after w.shape w.memory (ledger_of w) client.0 u.op)
        (step_row w v.working client u may).claimed (step_row w v.working client u may).waiting (step_row w v.working client u may).base (step_records w v.working client u may) (step_noted_now w v.working client u may)
        (access_kept w.memory (access_of w.shape.kind u.op)) c told few h

    go : (next : After Op Reply) → (c : Client) (told : Told) → c.0 < 16 → TellsOf w.shape (with_access w.memory (access_of w.shape.kind u.op)).kept c.0 told
        → IsTold w.shape.kind w.told w.log.issued (announcements (with_access w.memory (access_of w.shape.kind u.op)).kept c.0) (events_after w.log.events client next) (order_of (effects_after w u u.op)) c told
    go (More op) c told few h = before c told few h
    go (Done reply) c told few h =
        IsTold-push w.shape.kind w.told w.log.issued (announcements (with_access w.memory (access_of w.shape.kind u.op)).kept c.0) w.log.events (return_event client reply) (order_of (effects_after w u u.op)) c told
        (none_at_end w.shape.kind w.base w.told w.log.events (effects_after w u u.op) (step_noted_now w v.working client u may).log) (before c told few h)

pub started_ready : (w : World) → IsReady w → (client : Client) (number : ℕ) (call : Call) → MayStart w client number call → IsReady (with_start w client number call)
started_ready w v client number call may = record {
  working = started_works w v.working client number call may;
  tells = λ c told few h.
      IsTold-push w.shape.kind w.told (w.log.issued ++ new ∷ []) (announcements w.memory.kept c.0) w.log.events (call_event client number call) (order_of w.log.effects) c told
      (none_at_end w.shape.kind w.base w.told w.log.events w.log.effects v.working.log)
      (renamed c told (v.tells c told few h));
  issued = λ j x at. elim (cases_eq j client.0) [
    | inl e ↦
        let same : Some (call_begun w (begun_of w client number call)) ≡ Some x = sym (call_same w.calls client.0 (Some (call_begun w (begun_of w client number call))) j e) ∙ at in
        let place : length w.log.events ≡ x.place = cc in
        let begun : begun_of w client number call ≡ x.begun = cc in
        subst (λ (b : Begun). IsCallOf (w.log.issued ++ new ∷ []) b.token.0 (record { place = x.place; begun = b })) begun
        (subst (λ (p : ℕ). IsCallOf (w.log.issued ++ new ∷ []) (begun_of w client number call).token.0 (record { place = p; begun = begun_of w client number call })) place (call_new w.log.issued new))
    | inr ne ↦
        let old : w.calls j ≡ Some x = sym (call_other w.calls client.0 (Some (call_begun w (begun_of w client number call))) j ne) ∙ at in
        call_stays w.log.issued new x.begun.token.0 (record { place = x.place; begun = x.begun }) (λ e. ne (sym (owner_of_call j x old) ∙ ap (owner w.shape) (sym e) ∙ token_own)) (v.issued j x old)
  ];
}
  where
    new : Issued
    new = record { place = length w.log.events; begun = begun_of w client number call }

    token_own : owner w.shape new.begun.token.0 ≡ client.0
    token_own = record_owner w.shape client.0 (bumps w.memory.cached client.0) may.record_left

    -- a call under way has a record of its client
    owner_of_call : (j : ℕ) (x : UnderWay) → w.calls j ≡ Some x → owner w.shape x.begun.token.0 ≡ j
    owner_of_call j x at =
        let q : Knows w.shape w.memory (ledger_of w) j x.op × IsCalling w.log.events j x = calling w v.working j x at in
        let fits : IsBegun w.shape x.begun = subst (IsBegun w.shape) (ap record_of_call at) (call_begun_fits w.shape w.memory (ledger_of w) j x.op q.0) in
        ap (owner w.shape) fits.own ∙ record_owner w.shape x.begun.client.0 x.begun.used fits.unused ∙ q.1.who

    -- the new record is announced by nobody yet
    unannounced : (t : ℕ) → announcements w.memory.kept t ≢ 0 → new.begun.token.0 ≢ announcements w.memory.kept t
    unannounced t some e =
        let a : IsOwn w.shape w.memory.kept t (announcements w.memory.kept t) = v.working.base.announced_kept t some in
        next_unissued w.shape w.memory (ledger_of w) v.working.claimed v.working.waiting v.working.base client.0 may.record_left (subst (IsIssued w.shape w.memory.kept) (sym e) a.issued)

    renamed : (c : Client) (told : Told) → IsTold w.shape.kind w.told w.log.issued (announcements w.memory.kept c.0) w.log.events (order_of w.log.effects) c told
        → IsTold w.shape.kind w.told (w.log.issued ++ new ∷ []) (announcements w.memory.kept c.0) w.log.events (order_of w.log.effects) c told
    renamed c told h = elim (cases_eq (announcements w.memory.kept c.0) 0) [
      | inl z ↦ told_renamed w.shape.kind w.told w.log.issued (w.log.issued ++ new ∷ []) (announcements w.memory.kept c.0) (announcements w.memory.kept c.0) w.log.events (order_of w.log.effects) c told
          (λ number p. names_stay w.log.issued new (announcements w.memory.kept c.0) c.0 number p (unannounced c.0)) (λ n. inl z) h
      | inr some ↦ told_renamed w.shape.kind w.told w.log.issued (w.log.issued ++ new ∷ []) (announcements w.memory.kept c.0) (announcements w.memory.kept c.0) w.log.events (order_of w.log.effects) c told
          (λ number p. names_stay w.log.issued new (announcements w.memory.kept c.0) c.0 number p (unannounced c.0)) (names_nobody_still w.log.issued new (announcements w.memory.kept c.0) (unannounced c.0 some)) h
    ]

-- what a queue without calls tells
pub fresh_told : (s : Shape) (t : ℕ) (told : Told) → TellsOf s (λ p. 0) t told → told ≡ (if nat_lt t s.clients then no_call s.kind else told_none)
fresh_told s t told h = elim (cases_lt t s.clients) [
  | inl lt ↦ rw (lt-ltb t s.clients lt) (go s.kind told (h.0 lt))
  | inr ge ↦ rw (le-ltb t s.clients ge) (h.1 ge)
]
  where
    row : (r : Row) → TellsBy Durable (λ p. 0) t (told_row r) → told_row r ≡ told_row NoCall
    row NoCall q = refl
    row Open q = absurd (q.0 refl)
    row row_empty q = absurd (q.0 refl)
    row (row_got v) q = absurd (q.0 refl)

    go : (kind : Kind) (told : Told) → TellsBy kind (λ p. 0) t told → told ≡ no_call kind
    go Log told_none q = refl
    go Log (told_verdict v) q = absurd (q.0 refl)
    go Log (told_row r) q = absurd q
    go Durable (told_row r) q = row r q
    go Durable told_none q = absurd q
    go Durable (told_verdict v) q = absurd q

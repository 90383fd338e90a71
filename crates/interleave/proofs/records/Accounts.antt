-- Each act keeps account of the records that calls took.
use Rattle.std.proofs.Common.{◌≡◌, ◌≢◌, ℕ, ◌≤◌, ◌⊎◌, inl, inr, List, [], ◌∷◌, length, Option, Some, None}
use Rattle.std.proofs.Common.{refl, sym, ap, subst, ◌∙◌, arith}
use Rattle.std.proofs.lemmas.Bool.{cases_eq}
use Rattle.std.proofs.lemmas.Option.{slice_get_within}
use Rattle.words.specs.declared.call.Call.{Call}
use Rattle.words.specs.declared.call.Client.{Client}
use Rattle.words.specs.declared.call.Reply.{Reply}
use Rattle.words.specs.declared.told.Told.{Told}
use Rattle.persist.specs.Memory.{Access}
use Rattle.arena.specs.Shape.{Shape, owner}
use Rattle.arena.specs.Words.{bumps}
use Rattle.arena.specs.declared.place.Place.{Place}
use Rattle.arena.specs.declared.place.Place.TheVariants.{Bump}
use Rattle.stepper.specs.declared.prepare.Begun.{Begun}
use Rattle.stepper.specs.declared.resume.After.{After}
use Rattle.stepper.specs.declared.resume.After.TheVariants.{More, Done}
use Rattle.helping.specs.Table.{access_of}
use Rattle.helping.specs.declared.op.Op.{Op}
use Rattle.sound_words.specs.Sound.{IsIssued}
use Rattle.recover.specs.Table.{access_of as recovery_access}
use Rattle.recover.specs.declared.recovery.Recovery.{Recovery}
use Rattle.events.specs.Effects.{order_of, settled_effects}
use Rattle.events.specs.History.{IsOpenFrom}
use Rattle.events.specs.Orders.{InOrder}
use Rattle.events.specs.Trace.{queue_of}
use Rattle.events.specs.declared.event.Effect.{Effect}
use Rattle.events.specs.declared.event.Event.{Event}
use Rattle.events.specs.declared.event.Event.TheVariants.{Call as call_event, Return as return_event}
use Rattle.events.specs.declared.event.Event.TheVariants.{Crash as crash_event, Ready as ready_event}
use Rattle.events.proofs.Facts.{begins_within, get_last, get_longer, get_push_cases, is_end_longer, no_end_longer}
use Rattle.events.proofs.Facts.{order_settled_effects}
use Rattle.protocol.specs.Machine.{Memory, World, MayStart, MayStep, put, with_access, with_next, next_of}
use Rattle.protocol.specs.Machine.{begun_of, call_begun, events_after, next_recovery, recovery_events}
use Rattle.protocol.specs.Machine.{with_start, with_step, with_eviction, with_crash, with_recovery_step}
use Rattle.protocol.specs.declared.Issued.{Issued}
use Rattle.protocol.specs.declared.UnderWay.{UnderWay}
use Rattle.protocol.specs.invariants.Knows.{Acting}
use Rattle.protocol.specs.invariants.Ledger.{Ledger, Stage, stage_at}
use Rattle.protocol.specs.invariants.Ledger.Stage.{Unmoved, Seen, Took}
use Rattle.protocol.specs.invariants.Worlds.{Inv, InvAt, Working, ledger_of, record_of_call, stage_of}
use Rattle.protocol.proofs.Facts.{KnowsNext, access_kept, acting_or, call_other, call_same, calling, hand_may}
use Rattle.protocol.proofs.Facts.{in_order_stage, is_ready, issued_more, ledger_after, prepared_issued, put_cases}
use Rattle.protocol.proofs.Facts.{put_same, recovery_silent, stage_in_order, step_noted_now, step_row}
use Rattle.interleave.specs.Reuse.{AreAccountedFor, IsAccountedFor, IsLost, IsStillCalled, issued_as}
use Rattle.interleave.specs.Standing.{IsBeginningOf}
use Rattle.interleave.proofs.order.Ends.{begins_itself}
use Rattle.interleave.proofs.order.Entries.{ComesInOpen, comes_evicted, comes_stepped}

-- no bump word is kept above its cached value
kept_below : (w : World) → Inv w → (t : ℕ) → bumps w.memory.kept t ≤ bumps w.memory.cached t
kept_below w inv t = go w.recovery inv
  where
    p : Place
    p = Bump (record { 0 = t })

    go : (r : Option Recovery) → InvAt w r → bumps w.memory.kept t ≤ bumps w.memory.cached t
    go None h = h.working.base.kept_bump t
    go (Some r) h = elim (cases_eq (w.memory.kept p) (w.memory.cached p)) [
      | inl same ↦ omega (arith, same)
      | inr apart ↦
          let may = hand_may w.shape w.memory h.claimed h.waiting (queue_of w.log.events w.base w.log.effects) h.sound p
          apart r h.at in
          absurd (apart (sym (may.bump t) ∙ put_same w.memory.kept p (w.memory.cached p)))
    ]

-- so keeping a word lowers none
rise_fenced : (m : Memory) → ((t : ℕ) → bumps m.kept t ≤ bumps m.cached t) → (p : Place) (t : ℕ)
    → bumps m.kept t ≤ bumps (put m.kept p (m.cached p)) t
rise_fenced m below p t = elim (put_cases m.kept p (m.cached p) (Bump (record { 0 = t }))) [
  | inl at ↦ subst (λ x. bumps m.kept t ≤ x) (sym (at.1 ∙ ap m.cached (sym at.0))) (below t)
  | inr other ↦ subst (λ x. bumps m.kept t ≤ x) (sym other.1) (omega arith)
]

-- nor does an access
rise_accessed : (m : Memory) → ((t : ℕ) → bumps m.kept t ≤ bumps m.cached t) → (a : Access Place) (t : ℕ)
    → bumps m.kept t ≤ bumps (with_access m a).kept t
rise_accessed m below a t = elim (access_kept m a) [
  | inl same ↦ subst (λ (f : Place → ℕ). bumps m.kept t ≤ bumps f t) (sym same) (omega arith)
  | inr one ↦ subst (λ (f : Place → ℕ). bumps m.kept t ≤ bumps f t) (sym one.same) (rise_fenced m below one.p t)
]

-- a call that acts has its bump word kept
acting_issued : (s : Shape) (m : Memory) (l : Ledger) (i c : ℕ) → Acting s m l i c
    → IsIssued s m.kept (l.begun i).token.0
acting_issued s m l i c a =
    prepared_issued s m (l.begun i) a.prepared (ap (owner s) a.mine.holds ∙ a.mine.own ∙ sym a.client)

-- so has a call under way that is in the order
taken_issued : (w : World) → Working w → (i : ℕ) (u : UnderWay) → w.calls i ≡ Some u
    → InOrder (order_of w.log.effects) u.place → IsIssued w.shape w.memory.kept u.begun.token.0
taken_issued w v i u at there = elim (acting_or w.shape w.memory (ledger_of w) i u.op (calling w v i u at).0) [
  | inl a ↦
      subst (λ (b : Begun). IsIssued w.shape w.memory.kept b.token.0) (ap record_of_call at)
      (acting_issued w.shape w.memory (ledger_of w) i _ a)
  | inr p ↦
      let took = stage_in_order u.place w.log.effects there in
      let stage : stage_at u.place w.log.effects ≡ Unmoved =
      sym (ap (λ (x : Option UnderWay). stage_of x w.log.effects) at) ∙ p.preparing.unmoved in
      absurd (never took.0 (sym took.1 ∙ stage))
]
  where
    never : (reply : Reply) → Took reply ≢ Unmoved
    never reply e = cc

-- a lost call stays lost, where only calls without an end come into the order
lost_stays : (old new : List Event) → IsBeginningOf old new → (effects after : List Effect)
    → ComesInOpen old effects after → (call : Issued) → IsLost old (order_of effects) call
    → IsLost new (order_of after) call
lost_stays old new grown effects after comes call lost =
    let within = slice_get_within old lost.crash _ lost.by_crash in
    subst (λ (events : List Event). IsLost events (order_of after) call) (sym grown.is) (record {
      crash = lost.crash;
      ends = is_end_longer old grown.rest call.begun.client call.place lost.crash within lost.ends;
      by_crash = get_longer old grown.rest lost.crash _ lost.by_crash;
      out = λ there. elim (comes call.place there) [
        | inl was ↦ lost.out was
        | inr open_from ↦ open_from.1.no_end lost.crash lost.ends.after within (inr lost.by_crash)
      ];
    })

-- nothing comes into the order
comes_same : (events : List Event) (effects after : List Effect) → order_of after ≡ order_of effects
    → ComesInOpen events effects after
comes_same events effects after same p there = inl (subst (λ order. InOrder order p) same there)

-- the history only grows by a step, and by one of recovery
grown_step : (events : List Event) (client : Client) (next : After Op Reply)
    → IsBeginningOf events (events_after events client next)
grown_step events client (More op) = begins_itself events
grown_step events client (Done reply) = record { rest = return_event client reply ∷ []; is = refl }

grown_recovery : (events : List Event) (next : After Recovery (List Told))
    → IsBeginningOf events (recovery_events events next)
grown_recovery events (More r) = begins_itself events
grown_recovery events (Done told) = record { rest = ready_event told ∷ []; is = refl }

-- a start
pub accounted_started : (w : World) (client : Client) (number : ℕ) (call : Call) → MayStart w client number call
    → AreAccountedFor w → AreAccountedFor (with_start w client number call)
accounted_started w client number call may kept k x at = elim (get_push_cases w.log.issued new k x at) [
  | inl old ↦
      let was = kept k x old in
      record {
        token = was.token;
        unused = was.unused;
        stands = elim was.stands [
          | inl issued ↦ inl issued
          | inr rest ↦ elim rest [
            | inl still ↦ inr (inl (record { u = still.u; at = other x still; is = still.is }))
            | inr lost ↦ inr (inr (lost_stays w.log.events (with_start w client number call).log.events
                (record { rest = call_event client number call ∷ []; is = refl }) w.log.effects w.log.effects
                (comes_same w.log.events w.log.effects w.log.effects refl) x lost))
          ]
        ];
      }
  | inr last ↦ subst (IsAccountedFor (with_start w client number call)) last.1 (record {
    token = refl;
    unused = may.record_left;
    stands = inr (inl (record {
      u = call_begun w (begun_of w client number call);
      at = call_same w.calls client.0 (Some (call_begun w (begun_of w client number call))) client.0 refl;
      is = refl;
    }));
  })
]
  where
    new : Issued
    new = record { place = length w.log.events; begun = begun_of w client number call }

    other : (x : Issued) (still : IsStillCalled w x)
        → (with_start w client number call).calls x.begun.client.0 ≡ Some still.u
    other x still = elim (cases_eq x.begun.client.0 client.0) [
      | inl same ↦
          let none : None ≡ Some still.u = sym may.idle ∙ ap w.calls (sym same) ∙ still.at in
          absurd (cc)
      | inr ne ↦
          call_other w.calls client.0 (Some (call_begun w (begun_of w client number call))) x.begun.client.0 ne
          ∙ still.at
    ]

-- a step: a call that answers has its bump word kept
pub accounted_stepped : (w : World) → Inv w → (client : Client) (u : UnderWay) → MayStep w client u
    → AreAccountedFor w → AreAccountedFor (with_step w client u)
accounted_stepped w inv client u may kept k x at = record {
  token = (kept k x at).token;
  unused = (kept k x at).unused;
  stands = elim (kept k x at).stands [
    | inl issued ↦ inl (issued_more w.shape w.memory.kept n.kept
        (rise_accessed w.memory (kept_below w inv) (access_of w.shape.kind u.op)) x.begun.token.0 issued)
    | inr rest ↦ elim rest [
      | inl still ↦ elim (cases_eq x.begun.client.0 client.0) [
        | inl same ↦ goes still same (next_of w u) refl (step_row w v client u may).knows
        | inr ne ↦ inr (inl (record {
          u = still.u;
          at = call_other w.calls client.0 (with_next u (next_of w u)) x.begun.client.0 ne ∙ still.at;
          is = still.is;
        }))
      ]
      | inr lost ↦ inr (inr (lost_stays w.log.events (with_step w client u).log.events
          (grown_step w.log.events client (next_of w u)) w.log.effects (with_step w client u).log.effects
          (comes_stepped w inv client u may) x lost))
    ]
  ];
}
  where
    v : Working w
    v = (is_ready w inv may.ready).working

    n : Memory
    n = with_access w.memory (access_of w.shape.kind u.op)

    after : Ledger
    after = ledger_after w.shape w.memory (ledger_of w) client.0 u.op

    Stands : Type 0
    Stands = IsIssued w.shape n.kept x.begun.token.0
        ⊎ (IsStillCalled (with_step w client u) x
        ⊎ IsLost (with_step w client u).log.events (order_of (with_step w client u).log.effects) x)

    goes : (still : IsStillCalled w x) → x.begun.client.0 ≡ client.0 → (next : After Op Reply) → next_of w u ≡ next
        → KnowsNext w.shape n after client.0 next → Stands
    goes still same next e h = go next e h
      where
        one : still.u ≡ u
        one =
            let both : Some still.u ≡ Some u = sym still.at ∙ ap w.calls same ∙ may.waits in
            cc

        is : issued_as u ≡ x
        is = ap issued_as (sym one) ∙ still.is

        go : (next : After Op Reply) → next_of w u ≡ next → KnowsNext w.shape n after client.0 next → Stands
        go (More op) e h = inr (inl (record {
          u = record u { op = op };
          at = call_same w.calls client.0 (with_next u (next_of w u)) x.begun.client.0 same ∙ ap (with_next u) e;
          is = is;
        }))
        go (Done reply) e h =
            let begun : after.begun client.0 ≡ x.begun =
            sym (ap (λ (l : Ledger). l.begun client.0) (step_noted_now w v client u may).same)
            ∙ ap record_of_call may.waits ∙ ap (λ (y : Issued). y.begun) is in
            inl (subst (λ (b : Begun). IsIssued w.shape n.kept b.token.0) begun
            (acting_issued w.shape n after client.0 h.at h.acting))

-- an eviction
pub accounted_evicted : (w : World) → Inv w → (p : Place) → AreAccountedFor w → AreAccountedFor (with_eviction w p)
accounted_evicted w inv p kept k x at = record {
  token = (kept k x at).token;
  unused = (kept k x at).unused;
  stands = elim (kept k x at).stands [
    | inl issued ↦ inl (issued_more w.shape w.memory.kept (put w.memory.kept p (w.memory.cached p))
        (rise_fenced w.memory (kept_below w inv) p) x.begun.token.0 issued)
    | inr rest ↦ elim rest [
      | inl still ↦ inr (inl (record { u = still.u; at = still.at; is = still.is }))
      | inr lost ↦ inr (inr (lost_stays w.log.events w.log.events (begins_itself w.log.events) w.log.effects
          (with_eviction w p).log.effects (comes_evicted w inv p) x lost))
    ]
  ];
}

-- a crash: a call under way whose bump word is not kept is lost
pub accounted_crashed : (w : World) → Inv w → AreAccountedFor w → AreAccountedFor (with_crash w)
accounted_crashed w inv kept k x at = record {
  token = (kept k x at).token;
  unused = (kept k x at).unused;
  stands = elim (kept k x at).stands [
    | inl issued ↦ inl issued
    | inr rest ↦ elim rest [
      | inl still ↦ cut still w.recovery inv
      | inr lost ↦ inr (inr (lost_stays w.log.events (with_crash w).log.events
          (record { rest = crash_event ∷ []; is = refl }) w.log.effects (settled_effects w.log.effects)
          (comes_same w.log.events w.log.effects (settled_effects w.log.effects)
          (order_settled_effects w.log.effects)) x lost))
    ]
  ];
}
  where
    Stands : Issued → Type 0
    Stands y = IsIssued w.shape w.memory.kept y.begun.token.0
        ⊎ (IsStillCalled (with_crash w) y
        ⊎ IsLost (with_crash w).log.events (order_of (settled_effects w.log.effects)) y)

    ended : (u : UnderWay) → IsOpenFrom w.log.events u.begun.client (length w.log.events) u.place
        → ¬ (InOrder (order_of w.log.effects) u.place)
        → IsLost (with_crash w).log.events (order_of (settled_effects w.log.effects)) (issued_as u)
    ended u open_from out = record {
      crash = length w.log.events;
      ends = record {
        after = begins_within w.log.events u.begun.client u.place open_from.begins;
        ends = inr (get_last w.log.events crash_event);
        first = no_end_longer w.log.events (crash_event ∷ []) u.begun.client u.place (length w.log.events)
            (omega arith) open_from.no_end;
      };
      by_crash = get_last w.log.events crash_event;
      out = λ there. out (subst (λ order. InOrder order u.place) (order_settled_effects w.log.effects) there);
    }

    cut : IsStillCalled w x → (r : Option Recovery) → InvAt w r → Stands x
    cut still (Some r) h =
        let none : None ≡ Some still.u = sym (h.none x.begun.client.0) ∙ still.at in
        absurd (cc)
    cut still None h = subst Stands still.is (by_stage (stage_at still.u.place w.log.effects) refl)
      where
        v : Working w
        v = h.working

        lost : ((reply : Reply) → stage_at still.u.place w.log.effects ≢ Took reply) → Stands (issued_as still.u)
        lost untaken =
            let out : ¬ (InOrder (order_of w.log.effects) still.u.place) = λ there.
            let took = stage_in_order still.u.place w.log.effects there in untaken took.0 took.1 in
            inr (inr (ended still.u (calling w v x.begun.client.0 still.u still.at).1.open_from out))

        by_stage : (st : Stage) → stage_at still.u.place w.log.effects ≡ st → Stands (issued_as still.u)
        by_stage Unmoved e = lost (λ reply f. cc)
        by_stage Seen e = lost (λ reply f. cc)
        by_stage (Took reply) e =
            inl (taken_issued w v x.begun.client.0 still.u still.at
            (in_order_stage still.u.place reply w.log.effects e))

-- a step of recovery
pub accounted_recovered : (w : World) → Inv w → (r : Recovery) → w.recovery ≡ Some r → AreAccountedFor w
    → AreAccountedFor (with_recovery_step w r)
accounted_recovered w inv r recovers kept k x at = record {
  token = (kept k x at).token;
  unused = (kept k x at).unused;
  stands = elim (kept k x at).stands [
    | inl issued ↦ inl (issued_more w.shape w.memory.kept (with_recovery_step w r).memory.kept
        (rise_accessed w.memory (kept_below w inv) (recovery_access w.shape.kind r.at)) x.begun.token.0 issued)
    | inr rest ↦ elim rest [
      | inl still ↦ inr (inl (record { u = still.u; at = still.at; is = still.is }))
      | inr lost ↦ inr (inr (lost_stays w.log.events (with_recovery_step w r).log.events
          (grown_recovery w.log.events (next_recovery w r)) w.log.effects (with_recovery_step w r).log.effects
          (comes_same w.log.events w.log.effects (with_recovery_step w r).log.effects
          (ap order_of (recovery_silent w inv r recovers))) x lost))
    ]
  ];
}

-- where the history begins no call has taken a record
pub accounted_none : (w : World) → w.log.issued ≡ [] → AreAccountedFor w
accounted_none w none k x at =
    let within = slice_get_within w.log.issued k x at in
    absurd (omega (arith, within, ap (λ (xs : List Issued). length xs) none))

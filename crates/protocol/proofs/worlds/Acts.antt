-- Each act keeps what holds of a ready world.
use Rattle.std.proofs.Common.{◌≡◌, ◌≢◌, ℕ, suc, ◌+◌, ◌*◌, ◌≤◌, ◌<◌, ◌⊎◌, inl, inr, List, [], ◌∷◌, ◌++◌, length, Option, Some, None, refl, sym, ◌∙◌, ap, subst, arith, add-mul, mul-le-mul_right}
use Rattle.std.specs.Prelude.{slice_get}
use Rattle.std.proofs.lemmas.Bool.{cases_eq, eq-eqb, ne_eqb}
use Rattle.std.proofs.lemmas.List.{length_push}
use Rattle.std.proofs.lemmas.List.Elements.{All-weaker}
use Rattle.std.proofs.lemmas.Option.{slice_get_within}
use mathlib.Core.Path.{fun_ext}
use Rattle.words.specs.PlainQueue.{Value, FitsValue}
use Rattle.words.specs.declared.call.Call.{Call}
use Rattle.words.specs.declared.call.Call.TheVariants.{Enq, Deq}
use Rattle.words.specs.declared.call.Client.{Client}
use Rattle.words.specs.declared.call.Kind.{Kind}
use Rattle.words.specs.declared.call.Kind.TheVariants.{Durable, Log}
use Rattle.words.specs.declared.call.Reply.{Reply}
use Rattle.arena.specs.Shape.{Shape, owner, record_of, greatest}
use Rattle.arena.specs.Words.{bumps, announcements}
use Rattle.arena.specs.declared.place.Place.{Place}
use Rattle.arena.specs.declared.place.Place.TheVariants.{Announcement}
use Rattle.stepper.specs.Preparation.{IsBegun}
use Rattle.stepper.specs.declared.resume.After.{After}
use Rattle.stepper.specs.declared.resume.After.TheVariants.{More, Done}
use Rattle.stepper.specs.declared.prepare.Begun.{Begun}
use Rattle.helping.specs.Table.{access_of, begun_at}
use Rattle.helping.specs.declared.op.Op.{Op}
use Rattle.helping.specs.declared.op.Op.TheVariants.{PrepareFence, DequeueLoadNext, Fence as FencePoint}
use Rattle.events.specs.Effects.{order_of}
use Rattle.events.specs.History.{BeginsAt, EndsAt, IsOpenFrom, IsUnderWay, IsDown}
use Rattle.events.specs.Trace.{IsEffect, IsNumberOf, queue_of}
use Rattle.events.specs.Parts.{IsPartOf}
use Rattle.events.specs.declared.event.Effect.{Effect}
use Rattle.events.specs.declared.event.Event.{Event}
use Rattle.events.specs.declared.event.Event.TheVariants.{Call as call_event, Return as return_event}
use Rattle.events.specs.declared.event.Event.TheVariants.{Crash as crash_event, Ready as ready_event}
use Rattle.events.proofs.Facts.{EndsBy, answered, begins_within, called, get_last, get_longer, get_push_cases}
use Rattle.events.proofs.Facts.{open_before, open_less, open_push, part_same, queue_with_events}
use Rattle.protocol.specs.Machine.{Memory, World, with_access, with_fence, after_keeping, effects_after, events_after}
use Rattle.protocol.specs.Machine.{with_call, with_next, next_of, with_step, begun_of, call_begun, with_start}
use Rattle.protocol.specs.Machine.{with_eviction, FitsKind, FitsCall, MayStart, MayStep}
use Rattle.protocol.specs.declared.UnderWay.{UnderWay}
use Rattle.sound_words.specs.Sound.{IsIssued}
use Rattle.protocol.proofs.chain.Chains.{upd, upd_same, upd_at, upd_other}
use Rattle.protocol.specs.invariants.Knows.{Acting, Before, Knows}
use Rattle.protocol.specs.invariants.Ledger.{Stage, Ledger, stage_at, nobody}
use Rattle.protocol.specs.invariants.Base.{Base}
use Rattle.protocol.specs.invariants.Grows.{Grows}
use Rattle.protocol.specs.invariants.Ledger.Stage.{Unmoved, Took}
use Rattle.protocol.proofs.calls.Stable.{stable}
use Rattle.protocol.proofs.changes.Keeps.{kept_ledger, Kept}
use Rattle.protocol.proofs.changes.Fences.{keep_any}
use Rattle.protocol.proofs.calls.Rows.{KnowsNext, ledger_after, Row, row, arrives}
use Rattle.protocol.specs.invariants.Records.{Both, IsAnnouncing, Records}
use Rattle.protocol.proofs.records.Records.{keep_records}
use Rattle.protocol.proofs.records.RecordStores.{acting_announced, row_records, rebegun_records}
use Rattle.protocol.proofs.worlds.Stages.{unmoved_of_none, taken_as_took}
use Rattle.protocol.specs.invariants.Worlds.{record_of_call, stage_of, ledger_from, ledger_of, IsCalling, KnowsCall}
use Rattle.protocol.specs.invariants.Worlds.{Working}
use Rattle.protocol.proofs.worlds.Moments.{Noted, calling, nothing_noted, keep_noted, looked_noted}
use Rattle.protocol.proofs.calls.Rebegun.{rebegun, IsNew, IsThrough, rebegun_base, rebegun_grows, none_new}
use Rattle.protocol.proofs.calls.Rebegun.{record_owner, next_unissued, unissued_silent, unissued_loose, unissued_new}

-- what others know outlasts an act of client i
others_know : (w : World) → Working w → (i : ℕ) (n : Memory) (k : Ledger) → Grows i w.shape w.memory (ledger_of w) n k → (j : ℕ) → j ≢ i → (x : UnderWay) → w.calls j ≡ Some x → Knows w.shape n k j x.op
others_know w v i n k g j ne x e = stable i j w.shape w.memory (ledger_of w) n k ne g x.op (calling w v j x e).0

module _ (w : World) (v : Working w) (p : Place) where
  pub kept : Kept w.shape w.memory (ledger_of w) (with_fence w.memory p) (kept_ledger w.shape w.memory (ledger_of w) p)
  kept = keep_any w.shape w.memory (ledger_of w) v.claimed v.waiting v.base p

  pub noted : Noted w (after_keeping w p) (kept_ledger w.shape w.memory (ledger_of w) p)
  noted = keep_noted w v p

  kept_calls : (i : ℕ) (x : Option UnderWay) → KnowsCall w.shape w.memory (ledger_of w) w.log.events i x → KnowsCall w.shape (with_fence w.memory p) (ledger_of (with_eviction w p)) w.log.events i x
  kept_calls i None h = tt
  kept_calls i (Some u) h = (
    subst (λ k. Knows w.shape (with_fence w.memory p) k i u.op) (sym noted.same)
        (stable (suc i) i w.shape w.memory (ledger_of w) (with_fence w.memory p) (kept_ledger w.shape w.memory (ledger_of w) p) (λ e. absurd (omega (arith, e))) (kept.grows (suc i)) u.op h.0),
    h.1,
  )

  -- the environment keeps a word
  pub evicted_works : Working (with_eviction w p)
  evicted_works = record {
    ready = v.ready;
    sixteen = v.sixteen;
    clients = v.clients;
    claimed = kept.claimed;
    waiting = kept.waiting;
    base = subst (λ k. Base w.shape (with_fence w.memory p) k kept.claimed kept.waiting) (sym noted.same) kept.base;
    records = subst (λ k. Records w.shape (with_fence w.memory p) k) (sym noted.same) (keep_records w.shape w.memory (ledger_of w) v.claimed v.waiting v.base v.records p);
    calls = λ i. kept_calls i (w.calls i) (v.calls i);
    idle = v.idle;
    up = v.up;
    log = noted.log;
  }

  pub evicted_part : IsPartOf (order_of w.log.effects) (order_of (with_eviction w p).log.effects)
  evicted_part = noted.part

-- the effects after a step
pub step_noted : (w : World) (v : Working w) (i : ℕ) (u : UnderWay) → w.calls i ≡ Some u → (op : Op) → Knows w.shape w.memory (ledger_of w) i op → Noted w (effects_after w u op) (ledger_after w.shape w.memory (ledger_of w) i op)
step_noted w v i u at (PrepareFence p) h = keep_noted w v p.write.place
step_noted w v i u at (FencePoint k) h = keep_noted w v _
step_noted w v i u at (DequeueLoadNext p) h =
    looked_noted w v i u p.first.0 p.token.0 at (sym (ap (λ x. (record_of_call x).call) at) ∙ h.0.asks) h.0.before h.0.acting h.1
step_noted w v i u at _ h = nothing_noted w v

-- the call of a client that has one is another
pub call_same : (calls : ℕ → Option UnderWay) (i : ℕ) (x : Option UnderWay) (j : ℕ) → j ≡ i → with_call calls i x j ≡ x
call_same calls i x j e = rw (eq-eqb j i e) refl

pub call_other : (calls : ℕ → Option UnderWay) (i : ℕ) (x : Option UnderWay) (j : ℕ) → j ≢ i → with_call calls i x j ≡ calls j
call_other calls i x j ne = rw (ne_eqb j i ne) refl

same_record : (calls : ℕ → Option UnderWay) (i : ℕ) (u x : UnderWay) → calls i ≡ Some u → x.begun ≡ u.begun → (j : ℕ) → record_of_call (with_call calls i (Some x) j) ≡ record_of_call (calls j)
same_record calls i u x at same j = elim (cases_eq j i) [
  | inl e ↦ ap record_of_call (call_same calls i (Some x) j e) ∙ same ∙ sym (ap record_of_call (ap calls e ∙ at))
  | inr ne ↦ ap record_of_call (call_other calls i (Some x) j ne)
]

same_stage_of : (calls : ℕ → Option UnderWay) (effects : List Effect) (i : ℕ) (u x : UnderWay) → calls i ≡ Some u → x.place ≡ u.place → (j : ℕ) → stage_of (with_call calls i (Some x) j) effects ≡ stage_of (calls j) effects
same_stage_of calls effects i u x at place j = elim (cases_eq j i) [
  | inl e ↦ ap (λ c. stage_of c effects) (call_same calls i (Some x) j e) ∙ ap (λ q. stage_at q effects) place ∙ sym (ap (λ c. stage_of c effects) (ap calls e ∙ at))
  | inr ne ↦ ap (λ c. stage_of c effects) (call_other calls i (Some x) j ne)
]

-- it goes on: the log says the same of it
went_on : (calls : ℕ → Option UnderWay) (events : List Event) (base : List Value) (effects : List Effect) (i : ℕ) (u x : UnderWay) → calls i ≡ Some u → x.begun ≡ u.begun → x.place ≡ u.place
    → ledger_from (with_call calls i (Some x)) events base effects ≡ ledger_from calls events base effects
went_on calls events base effects i u x at same place =
    ap (λ (f : ℕ → Begun). let k : Ledger = record { begun = f; stage = λ j. stage_of (with_call calls i (Some x) j) effects; queue = queue_of events base effects } in k) (fun_ext (same_record calls i u x at same))
    ∙ ap (λ (f : ℕ → Stage). let k : Ledger = record { begun = λ j. record_of_call (calls j); stage = f; queue = queue_of events base effects } in k) (fun_ext (same_stage_of calls effects i u x at place))

-- it begins or ends: the log says so
changed_call : (calls : ℕ → Option UnderWay) (events : List Event) (base : List Value) (effects : List Effect) (i : ℕ) (x : Option UnderWay) (more : List Event) → stage_of x effects ≡ Unmoved
    → queue_of (events ++ more) base effects ≡ queue_of events base effects
    → ledger_from (with_call calls i x) (events ++ more) base effects ≡ rebegun (ledger_from calls events base effects) i (record_of_call x)
changed_call calls events base effects i x more unmoved same =
    let begun : (λ j. record_of_call (with_call calls i x j)) ≡ upd (λ j. record_of_call (calls j)) i (record_of_call x) = fun_ext (λ j. elim (cases_eq j i) [
      | inl e ↦ ap record_of_call (call_same calls i x j e) ∙ sym (upd_at (λ j. record_of_call (calls j)) i (record_of_call x) j e)
      | inr ne ↦ ap record_of_call (call_other calls i x j ne) ∙ sym (upd_other (λ j. record_of_call (calls j)) i (record_of_call x) j ne)
    ]) in
    let stages : (λ j. stage_of (with_call calls i x j) effects) ≡ upd (λ j. stage_of (calls j) effects) i Unmoved = fun_ext (λ j. elim (cases_eq j i) [
      | inl e ↦ ap (λ c. stage_of c effects) (call_same calls i x j e) ∙ unmoved ∙ sym (upd_at (λ j. stage_of (calls j) effects) i Unmoved j e)
      | inr ne ↦ ap (λ c. stage_of c effects) (call_other calls i x j ne) ∙ sym (upd_other (λ j. stage_of (calls j) effects) i Unmoved j ne)
    ]) in
    ap (λ (f : ℕ → Begun). let k : Ledger = record { begun = f; stage = λ j. stage_of (with_call calls i x j) effects; queue = queue_of (events ++ more) base effects } in k) begun
    ∙ ap (λ (f : ℕ → Stage). let k : Ledger = record { begun = upd (λ j. record_of_call (calls j)) i (record_of_call x); stage = f; queue = queue_of (events ++ more) base effects } in k) stages
    ∙ ap (λ (q : List Value). let k : Ledger = record { begun = upd (λ j. record_of_call (calls j)) i (record_of_call x); stage = upd (λ j. stage_of (calls j) effects) i Unmoved; queue = q } in k) same

client_is : (c d : Client) → c.0 ≡ d.0 → c ≡ d
client_is c d e = ap (λ (x : ℕ). let k : Client = record { 0 = x } in k) e

-- a call stands as it did where another event comes that does not end it
still_calling : (events : List Event) (event : Event) (j : ℕ) (x : UnderWay) → (EndsBy event x.begun.client → ⊥) → IsCalling events j x → IsCalling (events ++ event ∷ []) j x
still_calling events event j x other c = record {
  who = c.who;
  stands = get_longer events (event ∷ []) x.place (call_event x.begun.client x.begun.number x.begun.call) c.stands;
  open_from = open_push events event x.begun.client x.place other c.open_from;
}

-- a client whose call has ended has none under way
not_under_way : (events : List Event) (event : Event) (client : Client) → ((number : ℕ) (call : Call) → event ≢ call_event client number call) → (EndsBy event client ⊎ (IsUnderWay events client (length events) → ⊥)) → IsUnderWay (events ++ event ∷ []) client (length (events ++ event ∷ [])) → ⊥
not_under_way events event client not_call why way =
    let longer : length (events ++ event ∷ []) ≡ length events + 1 = length_push events event in
    let begins : BeginsAt (events ++ event ∷ []) client way.place = way.open_from.begins in
    elim (get_push_cases events event way.place (call_event client begins.0 begins.1.0) begins.1.1) [
      | inl old ↦
          let low : way.place < length events = begins_within events client way.place (begins.0, (begins.1.0, old)) in
          elim why [
            | inl ends ↦ way.open_from.no_end (length events) low (omega (arith, longer)) (ends_now events event client ends)
            | inr idle ↦ idle (record {
              place = way.place;
              before = low;
              open_from = open_before events (event ∷ []) client (length events) way.place low (open_less (events ++ event ∷ []) client (length (events ++ event ∷ [])) (length events) way.place (omega (arith, longer)) way.open_from);
            })
          ]
      | inr last ↦ not_call begins.0 begins.1.0 last.1
    ]
  where
    ends_now : (events : List Event) (event : Event) (client : Client) → EndsBy event client → EndsAt (events ++ event ∷ []) client (length events)
    ends_now events (return_event c reply) client e = inl (reply, get_last events (return_event c reply) ∙ ap (λ (x : Client). Some (return_event x reply)) e)
    ends_now events crash_event client e = inr (get_last events crash_event)
    ends_now events (call_event c number call) client e = absurd e
    ends_now events (ready_event told) client e = absurd e

-- no crash has come
still_up : (events : List Event) (event : Event) → event ≢ crash_event → (IsDown events (length events) → ⊥) → IsDown (events ++ event ∷ []) (length (events ++ event ∷ [])) → ⊥
still_up events event calm up down =
    let longer : length (events ++ event ∷ []) ≡ length events + 1 = length_push events event in
    elim (get_push_cases events event down.place crash_event down.crash) [
      | inl old ↦
          let low : down.place < length events = slice_get_within events down.place crash_event old in
          up (record {
            place = down.place;
            before = low;
            crash = old;
            no_ready = λ k told above below ready. down.no_ready k told above (omega (arith, below, longer)) (get_longer events (event ∷ []) k (ready_event told) ready);
          })
      | inr last ↦ calm last.1
    ]

-- the world once a step leads on so
abbrev pub step_to : World → Client → UnderWay → After Op Reply → World
step_to w client u next = record w {
  memory = with_access w.memory (access_of w.shape.kind u.op);
  calls = with_call w.calls client.0 (with_next u next);
  log = record { events = events_after w.log.events client next; issued = w.log.issued; effects = effects_after w u u.op };
}

-- a call's step
module _ (w : World) (v : Working w) (client : Client) (u : UnderWay) (may : MayStep w client u) where
  pub step_row : Row w.shape w.memory (ledger_of w) (with_access w.memory (access_of w.shape.kind u.op)) (ledger_after w.shape w.memory (ledger_of w) client.0 u.op) client.0 (next_of w u)
  step_row = row w.shape w.memory (ledger_of w) v.claimed v.waiting v.base client.0 u.op (calling w v client.0 u may.waits).0

  pub step_noted_now : Noted w (effects_after w u u.op) (ledger_after w.shape w.memory (ledger_of w) client.0 u.op)
  step_noted_now = step_noted w v client.0 u may.waits u.op (calling w v client.0 u may.waits).0

  called_here : IsCalling w.log.events client.0 u
  called_here = (calling w v client.0 u may.waits).1

  client_here : u.begun.client ≡ client
  client_here = client_is u.begun.client client called_here.who

  pub step_records : Records w.shape (with_access w.memory (access_of w.shape.kind u.op)) (ledger_after w.shape w.memory (ledger_of w) client.0 u.op)
  step_records = row_records w.shape w.memory (ledger_of w) v.claimed v.waiting v.base v.records client.0 u.op (calling w v client.0 u may.waits).0

  -- a call that answers has kept its announcement
  same_announcement : (c : ℕ) → Acting w.shape (with_access w.memory (access_of w.shape.kind u.op)) (ledger_after w.shape w.memory (ledger_of w) client.0 u.op) client.0 c
      → announcements (with_access w.memory (access_of w.shape.kind u.op)).cached client.0 ≡ announcements (with_access w.memory (access_of w.shape.kind u.op)).kept client.0
  same_announcement c h =
      elim (cases_eq (announcements (with_access w.memory (access_of w.shape.kind u.op)).cached client.0) (announcements (with_access w.memory (access_of w.shape.kind u.op)).kept client.0)) [
        | inl e ↦ e
        | inr ne ↦
            let a : IsAnnouncing w.shape (with_access w.memory (access_of w.shape.kind u.op)) (ledger_after w.shape w.memory (ledger_of w) client.0 u.op) client.0 = step_records.announcing client.0 ne in
            let both : Both (with_access w.memory (access_of w.shape.kind u.op)) (Announcement (record { 0 = client.0 })) c =
            acting_announced w.shape (with_access w.memory (access_of w.shape.kind u.op)) (ledger_after w.shape w.memory (ledger_of w) client.0 u.op) client.0 c h a.told_of in
            both.0 ∙ sym both.1
      ]

  -- what other clients know, and that their calls stand
  others_stand : (k : Ledger) (event : List Event) → ((j : ℕ) (x : UnderWay) → j ≢ client.0 → w.calls j ≡ Some x → IsCalling (w.log.events ++ event) j x)
      → ((j : ℕ) (x : UnderWay) → j ≢ client.0 → w.calls j ≡ Some x → Knows w.shape (with_access w.memory (access_of w.shape.kind u.op)) k j x.op)
      → (j : ℕ) → j ≢ client.0 → (x : Option UnderWay) → w.calls j ≡ x → KnowsCall w.shape (with_access w.memory (access_of w.shape.kind u.op)) k (w.log.events ++ event) j x
  others_stand k event stands knows j ne None e = tt
  others_stand k event stands knows j ne (Some x) e = (knows j x ne e, stands j x ne e)

  went_works : (op : Op) → Knows w.shape (with_access w.memory (access_of w.shape.kind u.op)) (ledger_after w.shape w.memory (ledger_of w) client.0 u.op) client.0 op → Working (step_to w client u (More op))
  went_works op h =
      let x : UnderWay = record u { op = op } in
      let n : Memory = with_access w.memory (access_of w.shape.kind u.op) in
      let same : ledger_of (step_to w client u (More op)) ≡ ledger_after w.shape w.memory (ledger_of w) client.0 u.op =
      went_on w.calls w.log.events w.base (effects_after w u u.op) client.0 u (record u { op = op }) may.waits refl refl ∙ step_noted_now.same in
      let others : (j : ℕ) → j ≢ client.0 → (y : Option UnderWay) → w.calls j ≡ y → KnowsCall w.shape (with_access w.memory (access_of w.shape.kind u.op)) (ledger_of (step_to w client u (More op))) w.log.events j y = λ j ne y e.
      went_other (ledger_of (step_to w client u (More op))) same j ne y e in
      record {
        ready = may.ready;
        sixteen = v.sixteen;
        clients = v.clients;
        claimed = step_row.claimed;
        waiting = step_row.waiting;
        base = subst (λ k. Base w.shape (with_access w.memory (access_of w.shape.kind u.op)) k step_row.claimed step_row.waiting) (sym same) step_row.base;
        records = subst (λ k. Records w.shape (with_access w.memory (access_of w.shape.kind u.op)) k) (sym same) step_records;
        calls = λ j. elim (cases_eq j client.0) [
          | inl e ↦ subst (KnowsCall w.shape (with_access w.memory (access_of w.shape.kind u.op)) (ledger_of (step_to w client u (More op))) w.log.events j) (sym (call_same w.calls client.0 (Some (record u { op = op })) j e)) (
            subst (λ i. Knows w.shape (with_access w.memory (access_of w.shape.kind u.op)) (ledger_of (step_to w client u (More op))) i op) (sym e)
                (subst (λ k. Knows w.shape (with_access w.memory (access_of w.shape.kind u.op)) k client.0 op) (sym same) h),
            record { who = called_here.who ∙ sym e; stands = called_here.stands; open_from = called_here.open_from },
          )
          | inr ne ↦ subst (KnowsCall w.shape (with_access w.memory (access_of w.shape.kind u.op)) (ledger_of (step_to w client u (More op))) w.log.events j) (sym (call_other w.calls client.0 (Some (record u { op = op })) j ne))
              (others j ne (w.calls j) refl)
        ];
        idle = λ c e. elim (cases_eq c.0 client.0) [
          | inl q ↦ let wrong : Some (record u { op = op }) ≡ None = sym (call_same w.calls client.0 (Some (record u { op = op })) c.0 q) ∙ e in absurd (cc)
          | inr ne ↦ v.idle c (sym (call_other w.calls client.0 (Some (record u { op = op })) c.0 ne) ∙ e)
        ];
        up = v.up;
        log = step_noted_now.log;
      }
    where
      went_other : (k : Ledger) → k ≡ ledger_after w.shape w.memory (ledger_of w) client.0 u.op → (j : ℕ) → j ≢ client.0 → (y : Option UnderWay) → w.calls j ≡ y
          → KnowsCall w.shape (with_access w.memory (access_of w.shape.kind u.op)) k w.log.events j y
      went_other k same j ne None e = tt
      went_other k same j ne (Some y) e = (
        subst (λ q. Knows w.shape (with_access w.memory (access_of w.shape.kind u.op)) q j y.op) (sym same)
            (others_know w v client.0 (with_access w.memory (access_of w.shape.kind u.op)) (ledger_after w.shape w.memory (ledger_of w) client.0 u.op) step_row.grows j ne y e),
        (calling w v j y e).1,
      )

  ended_works : (reply : Reply) → (ledger_after w.shape w.memory (ledger_of w) client.0 u.op).stage client.0 ≡ Took reply
      → announcements (with_access w.memory (access_of w.shape.kind u.op)).cached client.0 ≡ announcements (with_access w.memory (access_of w.shape.kind u.op)).kept client.0 → Working (step_to w client u (Done reply))
  ended_works reply took announced =
      let n : Memory = with_access w.memory (access_of w.shape.kind u.op) in
      let k : Ledger = ledger_after w.shape w.memory (ledger_of w) client.0 u.op in
      let event : Event = return_event client reply in
      let same : ledger_of (step_to w client u (Done reply)) ≡ rebegun (ledger_after w.shape w.memory (ledger_of w) client.0 u.op) client.0 nobody =
      changed_call w.calls w.log.events w.base (effects_after w u u.op) client.0 None (return_event client reply ∷ []) refl
      (queue_with_events w.shape.kind w.base w.told w.log.events (effects_after w u u.op) (return_event client reply ∷ []) step_noted_now.log)
      ∙ ap (λ (q : Ledger). rebegun q client.0 nobody) step_noted_now.same in
      let through : IsThrough (ledger_after w.shape w.memory (ledger_of w) client.0 u.op) client.0 = inr (record { reply = reply; took = took }) in
      let base : Base w.shape (with_access w.memory (access_of w.shape.kind u.op)) (rebegun (ledger_after w.shape w.memory (ledger_of w) client.0 u.op) client.0 nobody) step_row.claimed step_row.waiting =
      rebegun_base w.shape (with_access w.memory (access_of w.shape.kind u.op)) (ledger_after w.shape w.memory (ledger_of w) client.0 u.op) step_row.claimed step_row.waiting step_row.base client.0 nobody
      (none_new w.shape (with_access w.memory (access_of w.shape.kind u.op))) through in
      let grows : Grows client.0 w.shape (with_access w.memory (access_of w.shape.kind u.op)) (ledger_after w.shape w.memory (ledger_of w) client.0 u.op) (with_access w.memory (access_of w.shape.kind u.op))
      (rebegun (ledger_after w.shape w.memory (ledger_of w) client.0 u.op) client.0 nobody) =
      rebegun_grows w.shape (with_access w.memory (access_of w.shape.kind u.op)) (ledger_after w.shape w.memory (ledger_of w) client.0 u.op) step_row.claimed step_row.waiting step_row.base client.0 nobody
      (none_new w.shape (with_access w.memory (access_of w.shape.kind u.op))) through in
      let here : stage_at u.place (effects_after w u u.op) ≡ Took reply =
      sym (ap (λ c. stage_of c (effects_after w u u.op)) may.waits) ∙ ap (λ (q : Ledger). q.stage client.0) step_noted_now.same ∙ took in
      let open_here : IsOpenFrom w.log.events client (length w.log.events) u.place = subst (λ c. IsOpenFrom w.log.events c (length w.log.events) u.place) client_here called_here.open_from in
      record {
        ready = may.ready;
        sixteen = v.sixteen;
        clients = v.clients;
        claimed = step_row.claimed;
        waiting = step_row.waiting;
        base = subst (λ q. Base w.shape (with_access w.memory (access_of w.shape.kind u.op)) q step_row.claimed step_row.waiting) (sym same) base;
        records = subst (λ q. Records w.shape (with_access w.memory (access_of w.shape.kind u.op)) q) (sym same)
            (rebegun_records w.shape (with_access w.memory (access_of w.shape.kind u.op)) (ledger_after w.shape w.memory (ledger_of w) client.0 u.op) client.0 nobody step_records announced);
        calls = λ j. elim (cases_eq j client.0) [
          | inl e ↦ subst (KnowsCall w.shape (with_access w.memory (access_of w.shape.kind u.op)) (ledger_of (step_to w client u (Done reply))) (w.log.events ++ return_event client reply ∷ []) j) (sym (call_same w.calls client.0 None j e)) tt
          | inr ne ↦ subst (KnowsCall w.shape (with_access w.memory (access_of w.shape.kind u.op)) (ledger_of (step_to w client u (Done reply))) (w.log.events ++ return_event client reply ∷ []) j) (sym (call_other w.calls client.0 None j ne))
              (others_stand (ledger_of (step_to w client u (Done reply))) (return_event client reply ∷ [])
              (λ i x other e. still_calling w.log.events (return_event client reply) i x (λ q. other (sym (calling w v i x e).1.who ∙ ap (λ c. c.0) (sym q))) (calling w v i x e).1)
              (λ i x other e. subst (λ q. Knows w.shape (with_access w.memory (access_of w.shape.kind u.op)) q i x.op) (sym same)
              (stable client.0 i w.shape (with_access w.memory (access_of w.shape.kind u.op)) (ledger_after w.shape w.memory (ledger_of w) client.0 u.op) (with_access w.memory (access_of w.shape.kind u.op))
              (rebegun (ledger_after w.shape w.memory (ledger_of w) client.0 u.op) client.0 nobody) other grows x.op
              (others_know w v client.0 (with_access w.memory (access_of w.shape.kind u.op)) (ledger_after w.shape w.memory (ledger_of w) client.0 u.op) step_row.grows i other x e)))
              j ne (w.calls j) refl)
        ];
        idle = λ c e. elim (cases_eq c.0 client.0) [
          | inl q ↦ not_under_way w.log.events (return_event client reply) c (λ number call f. cc) (inl (sym (client_is c client q)))
          | inr ne ↦ not_under_way w.log.events (return_event client reply) c (λ number call f. cc) (inr (v.idle c (sym (call_other w.calls client.0 None c.0 ne) ∙ e)))
        ];
        up = still_up w.log.events (return_event client reply) (λ q. cc) v.up;
        log = answered w.shape.kind w.base w.told w.log.events (effects_after w u u.op) client reply u.place step_noted_now.log open_here (taken_as_took u.place reply (effects_after w u u.op) here);
      }

  -- a call makes its access, and goes on or answers
  pub stepped_works : Working (with_step w client u)
  stepped_works = go (next_of w u) step_row.knows
    where
      go : (next : After Op Reply) → KnowsNext w.shape (with_access w.memory (access_of w.shape.kind u.op)) (ledger_after w.shape w.memory (ledger_of w) client.0 u.op) client.0 next → Working (step_to w client u next)
      go (More op) h = went_works op h
      go (Done reply) h = ended_works reply h.took (same_announcement h.at h.acting)

  pub stepped_part : IsPartOf (order_of w.log.effects) (order_of (with_step w client u).log.effects)
  stepped_part = step_noted_now.part

number_fits : (kind : Kind) (number : ℕ) → FitsKind kind number → (number ≤ 1099511627776) × IsNumberOf kind number
number_fits Durable number h = (omega (arith, h), h)
number_fits Log number h = (h.1, (h.0, h.1))

log_number : (kind : Kind) (number : ℕ) → kind ≡ Log → FitsKind kind number → 1 ≤ number
log_number Durable number k h = absurd (cc)
log_number Log number k h = h.0

call_fits : (call : Call) (v : Value) → FitsCall call → call ≡ Enq v → FitsValue v
call_fits (Enq x) v h e = let same : x ≡ v = cc in subst FitsValue same h
call_fits Deq v h e = absurd (cc)

-- a record that is left is one of the layout's
record_fits : (s : Shape) (client used : ℕ) → client < s.clients → used < s.records → (1 ≤ record_of s client used) × (record_of s client used ≤ greatest s)
record_fits s client used below room =
    let le : (client + 1) * s.records ≤ s.clients * s.records = mul-le-mul_right s.records (omega (arith, below)) in
    (omega arith, go (client * s.records) (s.clients * s.records) room (subst (λ x. x ≤ s.clients * s.records) (add-mul client 1 s.records) le))
  where
    go : (x y : ℕ) → used < s.records → x + 1 * s.records ≤ y → 1 + x + used ≤ y
    go x y lt le = omega (arith, lt, le)

-- a client begins a call
module _ (w : World) (v : Working w) (client : Client) (number : ℕ) (call : Call) (may : MayStart w client number call) where
  b : Base w.shape w.memory (ledger_of w) v.claimed v.waiting
  b = v.base

  token_some : record_of w.shape client.0 (bumps w.memory.cached client.0) ≢ 0
  token_some = λ z. absurd (omega (arith, (record_fits w.shape client.0 (bumps w.memory.cached client.0) may.is_client may.record_left).0, z))

  token_own : owner w.shape (record_of w.shape client.0 (bumps w.memory.cached client.0)) ≡ client.0
  token_own = record_owner w.shape client.0 (bumps w.memory.cached client.0) may.record_left

  unissued : IsIssued w.shape w.memory.kept (record_of w.shape client.0 (bumps w.memory.cached client.0)) → ⊥
  unissued = next_unissued w.shape w.memory (ledger_of w) v.claimed v.waiting v.base client.0 may.record_left

  token_new : IsNew w.shape w.memory (record_of w.shape client.0 (bumps w.memory.cached client.0))
  token_new = unissued_new w.shape w.memory (ledger_of w) v.claimed v.waiting v.base (record_of w.shape client.0 (bumps w.memory.cached client.0)) token_some unissued

  idle_through : IsThrough (ledger_of w) client.0
  idle_through = inl (ap (λ c. (record_of_call c).token.0) may.idle, ap (λ c. stage_of c w.log.effects) may.idle)

  begun_fits : IsBegun w.shape (begun_of w client number call)
  begun_fits = record {
    client = may.is_client;
    unused = may.record_left;
    is_record = record_fits w.shape client.0 (bumps w.memory.cached client.0) may.is_client may.record_left;
    own = refl;
    number = (number_fits w.shape.kind number may.number_fits).0;
    value = λ x e. call_fits call x may.call_fits e;
  }

  no_effect : stage_at (length w.log.events) w.log.effects ≡ Unmoved
  no_effect = unmoved_of_none (length w.log.events) w.log.effects
      (All-weaker (λ (x : Effect). IsEffect w.log.events x) (λ (x : Effect). x.place ≢ length w.log.events) (λ x e q. absurd (omega (arith, e.after, e.before, q))) w.log.effects v.log.within)

  start_same : ledger_of (with_start w client number call) ≡ rebegun (ledger_of w) client.0 (begun_of w client number call)
  start_same = changed_call w.calls w.log.events w.base w.log.effects client.0 (Some (call_begun w (begun_of w client number call))) (call_event client number call ∷ []) no_effect
      (queue_with_events w.shape.kind w.base w.told w.log.events w.log.effects (call_event client number call ∷ []) v.log)

  start_base : Base w.shape w.memory (rebegun (ledger_of w) client.0 (begun_of w client number call)) v.claimed v.waiting
  start_base = rebegun_base w.shape w.memory (ledger_of w) v.claimed v.waiting v.base client.0 (begun_of w client number call) token_new idle_through

  start_grows : Grows client.0 w.shape w.memory (ledger_of w) w.memory (rebegun (ledger_of w) client.0 (begun_of w client number call))
  start_grows = rebegun_grows w.shape w.memory (ledger_of w) v.claimed v.waiting v.base client.0 (begun_of w client number call) token_new idle_through

  start_knows : Knows w.shape w.memory (rebegun (ledger_of w) client.0 (begun_of w client number call)) client.0 (begun_at w.shape.kind (begun_of w client number call))
  start_knows =
      let bg : Begun = begun_of w client number call in
      let l : Ledger = rebegun (ledger_of w) client.0 (begun_of w client number call) in
      let here : upd (ledger_of w).begun client.0 (begun_of w client number call) client.0 ≡ begun_of w client number call = upd_same (ledger_of w).begun client.0 (begun_of w client number call) in
      let quiet : upd (ledger_of w).stage client.0 Unmoved client.0 ≡ Unmoved = upd_same (ledger_of w).stage client.0 Unmoved in
      let before : Before w.shape w.memory (rebegun (ledger_of w) client.0 (begun_of w client number call)) client.0 (record_of w.shape client.0 (bumps w.memory.cached client.0)) = record {
        mine = record { some = token_some; holds = ap (λ x. x.token.0) here; own = token_own };
        loose = unissued_loose w.shape w.memory (ledger_of w) v.claimed v.waiting v.base (record_of w.shape client.0 (bumps w.memory.cached client.0)) token_some unissued;
        silent = unissued_silent w.shape w.memory w.memory.cached (record_of w.shape client.0 (bumps w.memory.cached client.0)) v.base.blank token_some unissued;
        untaken = λ r e. let wrong : Unmoved ≡ Took r = sym quiet ∙ e in cc;
      } in
      arrives w.shape w.memory (rebegun (ledger_of w) client.0 (begun_of w client number call)) client.0 (begun_of w client number call) 0 before quiet here refl
      (record { begun = begun_fits; numbered = λ k. log_number w.shape.kind number k may.number_fits; written = λ j x lt e. absurd (omega (arith, lt)) }) (omega arith)
      (λ p own of named none. (
        v.base.blank p of (λ z. token_some (sym named ∙ z)) (λ h. unissued (subst (IsIssued w.shape w.memory.kept) named h)),
        v.base.blank_kept p of (λ z. token_some (sym named ∙ z)) (λ h. unissued (subst (IsIssued w.shape w.memory.kept) named h)),
      ))
      (λ none. (
        λ e. unissued (subst (IsIssued w.shape w.memory.kept) e (v.base.announced client.0 (λ z. token_some (sym e ∙ z))).issued),
        λ e. unissued (subst (IsIssued w.shape w.memory.kept) e (v.base.announced_kept client.0 (λ z. token_some (sym e ∙ z))).issued),
      ))

  start_others : (j : ℕ) → j ≢ client.0 → (x : Option UnderWay) → w.calls j ≡ x
      → KnowsCall w.shape w.memory (ledger_of (with_start w client number call)) (w.log.events ++ call_event client number call ∷ []) j x
  start_others j ne None e = tt
  start_others j ne (Some x) e = (
    subst (λ q. Knows w.shape w.memory q j x.op) (sym start_same) (others_know w v client.0 w.memory (rebegun (ledger_of w) client.0 (begun_of w client number call)) start_grows j ne x e),
    still_calling w.log.events (call_event client number call) j x (λ q. q) (calling w v j x e).1,
  )

  start_calling : IsCalling (w.log.events ++ call_event client number call ∷ []) client.0 (call_begun w (begun_of w client number call))
  start_calling =
      let last : slice_get (w.log.events ++ call_event client number call ∷ []) (length w.log.events) ≡ Some (call_event client number call) = get_last w.log.events (call_event client number call) in
      record {
        who = refl;
        stands = last;
        open_from = record { begins = (number, (call, last)); no_end = λ k low high ends. absurd (omega (arith, low, high, length_push w.log.events (call_event client number call))) };
      }

  -- an idle client's announcement is kept
  start_announced : announcements w.memory.cached client.0 ≡ announcements w.memory.kept client.0
  start_announced = elim (cases_eq (announcements w.memory.cached client.0) (announcements w.memory.kept client.0)) [
    | inl e ↦ e
    | inr ne ↦
        let a : IsAnnouncing w.shape w.memory (ledger_of w) client.0 = v.records.announcing client.0 ne in
        absurd (a.some (a.holds ∙ ap (λ c. (record_of_call c).token.0) may.idle))
  ]

  pub started_works : Working (with_start w client number call)
  started_works = record {
    ready = may.ready;
    sixteen = v.sixteen;
    clients = v.clients;
    claimed = v.claimed;
    waiting = v.waiting;
    base = subst (λ q. Base w.shape w.memory q v.claimed v.waiting) (sym start_same) start_base;
    records = subst (λ q. Records w.shape w.memory q) (sym start_same) (rebegun_records w.shape w.memory (ledger_of w) client.0 (begun_of w client number call) v.records start_announced);
    calls = λ j. elim (cases_eq j client.0) [
      | inl e ↦ subst (KnowsCall w.shape w.memory (ledger_of (with_start w client number call)) (w.log.events ++ call_event client number call ∷ []) j)
          (sym (call_same w.calls client.0 (Some (call_begun w (begun_of w client number call))) j e)) (
            subst (λ i. Knows w.shape w.memory (ledger_of (with_start w client number call)) i (begun_at w.shape.kind (begun_of w client number call))) (sym e)
                (subst (λ q. Knows w.shape w.memory q client.0 (begun_at w.shape.kind (begun_of w client number call))) (sym start_same) start_knows),
            record { who = sym e; stands = start_calling.stands; open_from = start_calling.open_from },
          )
      | inr ne ↦ subst (KnowsCall w.shape w.memory (ledger_of (with_start w client number call)) (w.log.events ++ call_event client number call ∷ []) j)
          (sym (call_other w.calls client.0 (Some (call_begun w (begun_of w client number call))) j ne)) (start_others j ne (w.calls j) refl)
    ];
    idle = λ c e. elim (cases_eq c.0 client.0) [
      | inl q ↦
          let wrong : Some (call_begun w (begun_of w client number call)) ≡ None = sym (call_same w.calls client.0 (Some (call_begun w (begun_of w client number call))) c.0 q) ∙ e in
          absurd (cc)
      | inr ne ↦ not_under_way w.log.events (call_event client number call) c
          (λ x y f. let who : client ≡ c = cc in ne (ap (λ k. k.0) (sym who)))
          (inr (v.idle c (sym (call_other w.calls client.0 (Some (call_begun w (begun_of w client number call))) c.0 ne) ∙ e)))
    ];
    up = still_up w.log.events (call_event client number call) (λ q. cc) v.up;
    log = called w.shape.kind w.base w.told w.log.events w.log.effects client number call v.log (omega (arith, may.is_client, v.sixteen)) (v.idle client may.idle) v.up (number_fits w.shape.kind number may.number_fits).1;
  }

  pub started_part : IsPartOf (order_of w.log.effects) (order_of (with_start w client number call).log.effects)
  started_part = part_same (order_of w.log.effects)

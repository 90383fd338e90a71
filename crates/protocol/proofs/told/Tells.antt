-- What the kept words tell of an announced call, under way or ended, is right.
use Rattle.std.proofs.Common.{◌≡◌, ◌≢◌, ℕ, ◌+◌, ◌⊎◌, inl, inr, List, [], ◌∷◌, ◌++◌, length, refl, sym, ◌∙◌, ap, subst, arith}
use Rattle.std.proofs.lemmas.Bool.{cases_lt}
use Rattle.std.proofs.lemmas.List.{length_push}
use Rattle.words.specs.PlainQueue.{Value}
use Rattle.words.specs.declared.call.Call.{Call}
use Rattle.words.specs.declared.call.Call.TheVariants.{Enq, Deq}
use Rattle.words.specs.declared.call.Client.{Client}
use Rattle.words.specs.declared.call.Kind.{Kind}
use Rattle.words.specs.declared.call.Kind.TheVariants.{Durable, Log}
use Rattle.words.specs.declared.call.Reply.{Reply}
use Rattle.words.specs.declared.call.Reply.TheVariants.{Done, Got, Empty}
use Rattle.words.specs.declared.told.Outcome.{Outcome}
use Rattle.words.specs.declared.told.Outcome.TheVariants.{NotTaken, Taken}
use Rattle.words.specs.declared.told.Row.{Row}
use Rattle.words.specs.declared.told.Row.TheVariants.{NoCall, Open, Empty as row_empty, Got as row_got}
use Rattle.words.specs.declared.told.Told.{Told}
use Rattle.words.specs.declared.told.Told.TheVariants.{None as told_none, Verdict as told_verdict, Row as told_row}
use Rattle.arena.specs.Shape.{Shape, owner}
use Rattle.arena.specs.Words.{links, marks, values, numbers, entry_kinds, statuses, announcements}
use Rattle.helping.specs.Table.{token_of}
use Rattle.events.specs.Effects.{order_of}
use Rattle.events.specs.History.{CallAt, IsOpenFrom}
use Rattle.events.specs.Trace.{IsTrace}
use Rattle.events.specs.Orders.{IsTakenAs, InOrder}
use Rattle.events.specs.Parts.{IsPartOf}
use Rattle.events.specs.Telling.{IsToldOf, BeginsTold, HasNoneTaken, IsOutcome, IsRow, Says, IsToldSome, IsToldBase}
use Rattle.events.specs.declared.event.Effect.{Effect}
use Rattle.events.specs.declared.event.Entry.{Entry}
use Rattle.events.specs.declared.event.Event.{Event}
use Rattle.events.specs.declared.event.Event.TheVariants.{Call as call_event}
use Rattle.events.proofs.Facts.{IsMoreBy, begins_within, contains_from_in, get_before, get_longer, in_from_contains}
use Rattle.events.proofs.Facts.{in_part, open_less, says_longer}
use Rattle.protocol.specs.Machine.{Memory}
use Rattle.protocol.specs.declared.UnderWay.{UnderWay}
use Rattle.protocol.specs.declared.Issued.{Issued}
use Rattle.protocol.specs.Kept.{OutcomeBy, RowBy, TellsBy}
use Rattle.protocol.specs.invariants.Ledger.{Ledger, held_token, stage_at}
use Rattle.protocol.specs.invariants.Places.{SaysEmpty}
use Rattle.protocol.specs.invariants.Base.{Base}
use Rattle.protocol.specs.invariants.Ledger.Stage.{Took}
use Rattle.protocol.proofs.changes.Fences.{cell_says, status_says}
use Rattle.protocol.specs.invariants.Records.{TookBy, Records}
use Rattle.protocol.proofs.worlds.Stages.{taken_as_took, stage_in_order, in_order_stage}
use Rattle.protocol.specs.invariants.Worlds.{IsCalling}
use Rattle.protocol.specs.invariants.Told.{Names, NamesNobody, IsTold}

-- by what is told, and not of which call
pub told_rightly : (kind : Kind) (base : List Told) (issued : List Issued) (e : ℕ) (events : List Event) (order : List Entry) (client : Client) (told : Told)
    → IsTold kind base issued e events order client told → IsToldSome kind events order client (length events) told ⊎ IsToldBase kind base events order client (length events) told
told_rightly kind base issued e events order client told (inl h) = inl h.0
told_rightly kind base issued e events order client told (inr h) = inr h.0

-- the record has the same call
pub told_renamed : (kind : Kind) (base : List Told) (issued other : List Issued) (e o : ℕ) (events : List Event) (order : List Entry) (client : Client) (told : Told)
    → ((number p : ℕ) → Names issued e client.0 number p → Names other o client.0 number p) → (NamesNobody issued e → NamesNobody other o) → IsTold kind base issued e events order client told → IsTold kind base other o events order client told
told_renamed kind base issued other e o events order client told names nobody (inl h) = inl (h.0, names h.0.tells.number h.0.place h.1)
told_renamed kind base issued other e o events order client told names nobody (inr h) = inr (h.0, nobody h.1)

-- another event, of which the order knows nothing
none_taken_push : (kind : Kind) (events : List Event) (event : Event) (order : List Entry) (client : Client) (from : ℕ) → (InOrder order (length events) → ⊥) → HasNoneTaken kind events order client from (length events)
    → HasNoneTaken kind (events ++ event ∷ []) order client from (length (events ++ event ∷ []))
none_taken_push kind events event order client from new h = record {
  none = λ p low high taken. elim (cases_lt p (length events)) [
    | inl lt ↦ h.none p low lt (record {
      number = taken.number;
      begins = record { call = taken.begins.call; begins = get_before events (event ∷ []) p (call_event client taken.number taken.begins.call) lt taken.begins.begins; told_of = taken.begins.told_of };
      taken = taken.taken;
    })
    | inr ge ↦
        let here : p ≡ length events = omega (arith, ge, high, length_push events event) in
        new (subst (InOrder order) here taken.taken)
  ];
}

pub IsTold-push : (kind : Kind) (base : List Told) (issued : List Issued) (e : ℕ) (events : List Event) (event : Event) (order : List Entry) (client : Client) (told : Told) → (InOrder order (length events) → ⊥)
    → IsTold kind base issued e events order client told → IsTold kind base issued e (events ++ event ∷ []) order client told
IsTold-push kind base issued e events event order client told new (inl h) = inl (
  record {
    place = h.0.place;
    before = omega (arith, h.0.before, length_push events event);
    tells = record {
      number = h.0.tells.number;
      begins = record {
        call = h.0.tells.begins.call;
        begins = get_longer events (event ∷ []) h.0.place (call_event client h.0.tells.number h.0.tells.begins.call) h.0.tells.begins.begins;
        told_of = h.0.tells.begins.told_of;
      };
      last = none_taken_push kind events event order client (h.0.place + 1) new h.0.tells.last;
      says = h.0.tells.says;
    };
  },
  h.1,
)
IsTold-push kind base issued e events event order client told new (inr h) = inr (record { none = none_taken_push kind events event order client 0 new h.0.none; same = h.0.same }, h.1)

-- an effect of a call that this client is not told of
pub told_more : (kind : Kind) (base : List Told) (issued : List Issued) (e : ℕ) (events : List Event) (p : ℕ) (order more : List Entry) (client : Client) (told : Told) → IsMoreBy p order more → ((number : ℕ) → BeginsTold kind events client p number → ⊥)
    → IsTold kind base issued e events order client told → IsTold kind base issued e events more client told
told_more kind base issued e events p order more client told by other (inl h) = inl (
  record {
    place = h.0.place;
    before = h.0.before;
    tells = record {
      number = h.0.tells.number;
      begins = h.0.tells.begins;
      last = record {
        none = λ q low high taken. h.0.tells.last.none q low high (record {
          number = taken.number;
          begins = taken.begins;
          taken = by.only q (λ e. other taken.number (subst (λ x. BeginsTold kind events client x taken.number) e taken.begins)) taken.taken;
        });
      };
      says = says_longer kind p order more h.0.place h.0.tells.number told (λ e. other h.0.tells.number (subst (λ x. BeginsTold kind events client x h.0.tells.number) e h.0.tells.begins)) by h.0.tells.says;
    };
  },
  h.1,
)
told_more kind base issued e events p order more client told by other (inr h) = inr (
  record {
    none = record {
      none = λ q low high taken. h.0.none.none q low high (record {
        number = taken.number;
        begins = taken.begins;
        taken = by.only q (λ e. other taken.number (subst (λ x. BeginsTold kind events client x taken.number) e taken.begins)) taken.taken;
      });
    };
    same = h.0.same;
  },
  h.1,
)

-- effects that differ in one call's stage
pub more_by_stage : (p : ℕ) (old new : List Effect) → IsPartOf (order_of old) (order_of new) → ((q : ℕ) → q ≢ p → stage_at q new ≡ stage_at q old) → IsMoreBy p (order_of old) (order_of new)
more_by_stage p old new part others = record {
  kept = λ q reply taken.
      let e : Entry = record { place = q; reply = reply } in
      contains_from_in (order_of new) (record { place = q; reply = reply })
      (in_part (record { place = q; reply = reply }) part (in_from_contains (order_of old) (record { place = q; reply = reply }) taken));
  only = λ q ne taken.
      let t : (reply : Reply) × (stage_at q new ≡ Took reply) = stage_in_order q new taken in
      in_order_stage q t.0 old (sym (others q ne) ∙ t.1);
}

-- whether a client may be told of the call
pub told_of_cases : (kind : Kind) (call : Call) → IsToldOf kind call ⊎ (IsToldOf kind call → ⊥)
told_of_cases Durable (Enq v) = inr (λ h. h)
told_of_cases Durable Deq = inl tt
told_of_cases Log call = inl tt

-- of a call under way with an announced record the kept words tell rightly
module _ (s : Shape) (m : Memory) (l : Ledger) (claimed waiting : List ℕ) (b : Base s m l claimed waiting) (r : Records s m l) (base : List Value) (told : List Told) (events : List Event) (effects : List Effect) (log : IsTrace s.kind base told events effects)
    (i : ℕ) (u : UnderWay) (c : IsCalling events i u) (begun : l.begun i ≡ u.begun) (stage : l.stage i ≡ stage_at u.place effects) (of : IsToldOf s.kind u.begun.call) (ann : announcements m.kept i ≡ u.begun.token.0) (numbered : s.kind ≡ Log → numbers m.kept u.begun.token.0 ≡ u.begun.number) where
  some : announcements m.kept i ≢ 0 → u.begun.token.0 ≢ 0
  some h z = h (ann ∙ z)

  own : announcements m.kept i ≢ 0 → owner s u.begun.token.0 ≡ i
  own h = subst (λ e. owner s e ≡ i) ann (b.announced_kept i h).owned

  holds : announcements m.kept i ≢ 0 → held_token l (owner s u.begun.token.0) ≡ u.begun.token.0
  holds h = ap (held_token l) (own h) ∙ ap (λ x. x.token.0) begun

  -- the words say that it took effect so
  took : announcements m.kept i ≢ 0 → (reply : Reply) → l.stage (owner s u.begun.token.0) ≡ Took reply → IsTakenAs (order_of effects) u.place reply
  took h reply e = taken_as_took u.place reply effects (sym stage ∙ ap l.stage (sym (own h)) ∙ e)

  -- it is in the order only if the words say so
  words : InOrder (order_of effects) u.place → (reply : Reply) × TookBy s m.kept (l.begun i) reply
  words h =
      let t : (reply : Reply) × (stage_at u.place effects ≡ Took reply) = stage_in_order u.place effects h in
      (t.0, r.took i t.0 (stage ∙ t.1))

  token_is : (l.begun i).token.0 ≡ announcements m.kept i
  token_is = ap (λ x. x.token.0) begun ∙ sym ann

  untaken_entry : s.kind ≡ Log → announcements m.kept i ≢ 0 → OutcomeBy m.kept (announcements m.kept i) NotTaken → (reply : Reply) → TookBy s m.kept (l.begun i) reply → ⊥
  untaken_entry k h neg Done t =
      let linked : links m.kept t.at ≡ announcements m.kept i = t.linked ∙ token_is in
      let cached : links m.cached t.at ≡ announcements m.kept i = b.chained.kept t.at (λ z. t.some (sym t.linked ∙ z)) ∙ linked in
      let one : entry_kinds m.kept (announcements m.kept i) ≡ 1 = subst (λ x. entry_kinds m.kept x ≡ 1) cached (r.enqueued k t.at (λ z. h (sym cached ∙ z))).kind.1 in
      neg.0 one t.at linked
  untaken_entry k h neg (Got v) t =
      let marked : marks m.kept t.at ≡ announcements m.kept i = t.marked ∙ token_is in
      let cached : marks m.cached t.at ≡ announcements m.kept i = b.marked.kept t.at (λ z. t.some (sym t.marked ∙ z)) ∙ marked in
      let two : entry_kinds m.kept (announcements m.kept i) ≡ 2 = subst (λ x. entry_kinds m.kept x ≡ 2) cached (r.dequeued k t.at (λ z. h (sym cached ∙ z))).1 in
      (neg.1 (λ e. absurd (omega (arith, two, e)))).1 t.at marked
  untaken_entry k h neg Empty t =
      let says : SaysEmpty s m.kept (announcements m.kept i) = subst (SaysEmpty s m.kept) token_is t in
      let status : statuses m.kept (announcements m.kept i) ≡ 2 = (status_says s m.kept (token_of (announcements m.kept i)) k).0 says in
      let two : entry_kinds m.kept (announcements m.kept i) ≡ 2 = ((r.status_kept (announcements m.kept i)).empty status).1 in
      (neg.1 (λ e. absurd (omega (arith, two, e)))).0 status

  outcome_right : s.kind ≡ Log → announcements m.kept i ≢ 0 → (outcome : Outcome) → OutcomeBy m.kept (announcements m.kept i) outcome → IsOutcome (order_of effects) u.place outcome
  outcome_right k h (Taken Done) o =
      let linked : links m.kept o.1.at ≡ u.begun.token.0 = o.1.linked ∙ ann in
      took h Done (subst (λ x. held_token l (owner s x) ≡ x → l.stage (owner s x) ≡ Took Done) linked (b.took_link o.1.at (λ z. some h (sym linked ∙ z))) (holds h))
  outcome_right k h (Taken Empty) o =
      let says : SaysEmpty s m.kept u.begun.token.0 = subst (SaysEmpty s m.kept) ann ((status_says s m.kept (token_of (announcements m.kept i)) k).1 o.1) in
      took h Empty (b.empty.took u.begun.token.0 says (some h) (holds h))
  outcome_right k h (Taken (Got v)) o =
      let marked : marks m.kept o.1.at ≡ u.begun.token.0 = o.1.marked ∙ ann in
      took h (Got v) (subst (λ x. held_token l (owner s x) ≡ x → l.stage (owner s x) ≡ Took (Got (values m.kept o.1.at))) marked (b.took_mark o.1.at (λ z. some h (sym marked ∙ z))) (holds h) ∙ ap (λ x. Took (Got x)) o.1.value)
  outcome_right k h NotTaken o = λ taken. let t : (reply : Reply) × TookBy s m.kept (l.begun i) reply = words taken in untaken_entry k h o t.0 t.1

  untaken_row : s.kind ≡ Durable → RowBy m.kept (announcements m.kept i) Open → (reply : Reply) → TookBy s m.kept (l.begun i) reply → ⊥
  untaken_row k neg Done t = t.asks (ap (λ x. x.call) begun ∙ deq u.begun.call k of)
    where
      deq : (call : Call) → s.kind ≡ Durable → IsToldOf s.kind call → call ≡ Deq
      deq (Enq v) k h = absurd (subst (λ x. IsToldOf x (Enq v)) k h)
      deq Deq k h = refl
  untaken_row k neg (Got v) t = neg.1 t.at (t.marked ∙ token_is)
  untaken_row k neg Empty t = neg.0 ((cell_says s m.kept (token_of (announcements m.kept i)) k).0 (subst (SaysEmpty s m.kept) token_is t))

  row_right : s.kind ≡ Durable → announcements m.kept i ≢ 0 → (row : Row) → RowBy m.kept (announcements m.kept i) row → IsRow (order_of effects) u.place row
  row_right k h (row_got v) o =
      let marked : marks m.kept o.at ≡ u.begun.token.0 = o.marked ∙ ann in
      took h (Got v) (subst (λ x. held_token l (owner s x) ≡ x → l.stage (owner s x) ≡ Took (Got (values m.kept o.at))) marked (b.took_mark o.at (λ z. some h (sym marked ∙ z))) (holds h) ∙ ap (λ x. Took (Got x)) o.value)
  row_right k h row_empty o =
      let says : SaysEmpty s m.kept u.begun.token.0 = subst (SaysEmpty s m.kept) ann ((cell_says s m.kept (token_of (announcements m.kept i)) k).1 o) in
      took h Empty (b.empty.took u.begun.token.0 says (some h) (holds h))
  row_right k h Open o = λ taken. let t : (reply : Reply) × TookBy s m.kept (l.begun i) reply = words taken in untaken_row k o t.0 t.1
  row_right k h NoCall o = o

  row_of : s.kind ≡ Durable → (row : Row) → TellsBy Durable m.kept i (told_row row) → u.begun.token.0 ≢ 0 → IsRow (order_of effects) u.place row
  row_of k NoCall o ne = absurd (ne (sym ann ∙ o))
  row_of k Open o ne = row_right k o.0 Open o.1
  row_of k row_empty o ne = row_right k o.0 row_empty o.1
  row_of k (row_got v) o ne = row_right k o.0 (row_got v) o.1

  says_right : (kind : Kind) → s.kind ≡ kind → u.begun.token.0 ≢ 0 → (t : Told) → TellsBy kind m.kept i t → Says kind (order_of effects) u.place u.begun.number t
  says_right Log k ne told_none o = absurd (ne (sym ann ∙ o))
  says_right Log k ne (told_verdict v) o = (o.1 ∙ ap (numbers m.kept) ann ∙ numbered k, outcome_right k o.0 v.outcome o.2)
  says_right Log k ne (told_row row) o = o
  says_right Durable k ne (told_row row) o = row_of k row o ne
  says_right Durable k ne told_none o = o
  says_right Durable k ne (told_verdict v) o = o

  -- no later call of the client stands in the history
  pub announced_told : (issued : List Issued) (client : Client) → client.0 ≡ i → u.begun.token.0 ≢ 0 → Names issued (announcements m.kept i) client.0 u.begun.number u.place → (t : Told) → TellsBy s.kind m.kept i t
      → IsTold s.kind told issued (announcements m.kept i) events (order_of effects) client t
  announced_told issued client who ne names t h =
      let client_is : u.begun.client ≡ client = ap (λ (x : ℕ). let k : Client = record { 0 = x } in k) (c.who ∙ sym who) in
      let open_from : IsOpenFrom events client (length events) u.place = subst (λ x. IsOpenFrom events x (length events) u.place) client_is c.open_from in
      inl (
        record {
          place = u.place;
          before = begins_within events client u.place open_from.begins;
          tells = record {
            number = u.begun.number;
            begins = record { call = u.begun.call; begins = subst (λ x. CallAt events u.place x u.begun.number u.begun.call) client_is c.stands; told_of = of };
            last = record {
              none = λ q low high taken.
                  let way : IsOpenFrom events client q u.place = open_less events client (length events) q u.place (omega (arith, high)) open_from in
                  (log.places q (call_event client taken.number taken.begins.call) taken.begins.begins).1.0 (record { place = u.place; before = omega (arith, low); open_from = way });
            };
            says = says_right s.kind refl ne t h;
          };
        },
        names,
      )

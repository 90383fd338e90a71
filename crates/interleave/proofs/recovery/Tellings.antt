-- What a client was told of its announced call is right for good.
use Rattle.std.proofs.Common.{◌≡◌, ◌≢◌, ℕ, zero, suc, ◌+◌, ◌<◌, ◌⊎◌, inl, inr, List, [], ◌∷◌, length, Some, slice_get, refl, subst, arith}
use Rattle.std.proofs.lemmas.Bool.{cases_eq, cases_lt}
use Rattle.std.proofs.lemmas.Option.{same_Some, slice_get_within}
use Rattle.words.specs.declared.call.Client.{Client}
use Rattle.words.specs.declared.call.Kind.{Kind}
use Rattle.words.specs.declared.call.Kind.TheVariants.{Durable, Log}
use Rattle.words.specs.declared.call.Reply.{Reply}
use Rattle.words.specs.declared.told.Outcome.{Outcome}
use Rattle.words.specs.declared.told.Outcome.TheVariants.{NotTaken, Taken}
use Rattle.words.specs.declared.told.Row.{Row}
use Rattle.words.specs.declared.told.Row.TheVariants.{NoCall, Open, Empty as row_empty, Got as row_got}
use Rattle.words.specs.declared.told.Told.{Told}
use Rattle.words.specs.declared.told.Told.TheVariants.{None as told_none, Verdict as told_verdict, Row as told_row}
use Rattle.arena.specs.Shape.{Shape}
use Rattle.arena.specs.Words.{announcements}
use Rattle.arena.specs.declared.place.Place.{Place}
use Rattle.events.specs.Effects.{order_of}
use Rattle.events.specs.History.{BeginsAt, MayStand}
use Rattle.events.specs.Orders.{IsTakenAs, InOrder}
use Rattle.events.specs.Telling.{BeginsTold, BeginsTaken, HasNoneTaken, IsOutcome, IsRow, Says, IsToldCall, IsToldBase}
use Rattle.events.specs.declared.event.Effect.{Effect}
use Rattle.events.specs.declared.event.Entry.{Entry}
use Rattle.events.specs.declared.event.Event.{Event}
use Rattle.protocol.specs.Announced.{IsCallOf, IsNobodys, IsToldOfCall, IsToldOfAnnounced}
use Rattle.protocol.specs.Machine.{Trace}
use Rattle.protocol.specs.declared.Issued.{Issued}
use Rattle.interleave.specs.Standing.{IsAnnounced, WasCutOff}

-- of the calls of this history, one order has what the other has, and with the same replies
pub record AreAlike (events : List Event) (old new : List Entry) : Type 0 where
  pub kept : (p : ℕ) (reply : Reply) → IsTakenAs old p reply → IsTakenAs new p reply
  pub back : (client : Client) (p : ℕ) → BeginsAt events client p → InOrder new p → InOrder old p

module _ (events : List Event) (old new : List Entry) (alike : AreAlike events old new) where
  none_alike : (kind : Kind) (client : Client) (from to : ℕ) → HasNoneTaken kind events old client from to
      → HasNoneTaken kind events new client from to
  none_alike kind client from to h = record {
    none = λ p low high taken. h.none p low high (record {
      number = taken.number;
      begins = taken.begins;
      taken = alike.back client p (taken.number, (taken.begins.call, taken.begins.begins)) taken.taken;
    });
  }

  outcome_alike : (client : Client) (p : ℕ) (outcome : Outcome) → BeginsAt events client p → IsOutcome old p outcome
      → IsOutcome new p outcome
  outcome_alike client p (Taken reply) begins is = alike.kept p reply is
  outcome_alike client p NotTaken begins is = λ taken. is (alike.back client p begins taken)

  row_alike : (client : Client) (p : ℕ) (row : Row) → BeginsAt events client p → IsRow old p row → IsRow new p row
  row_alike client p (row_got value) begins is = alike.kept p _ is
  row_alike client p row_empty begins is = alike.kept p _ is
  row_alike client p Open begins is = λ taken. is (alike.back client p begins taken)
  row_alike client p NoCall begins is = is

  says_alike : (kind : Kind) (client : Client) (p number : ℕ) (told : Told) → BeginsAt events client p
      → Says kind old p number told → Says kind new p number told
  says_alike Log client p number (told_verdict verdict) begins says =
      (says.0, outcome_alike client p verdict.outcome begins says.1)
  says_alike Log client p number (told_row row) begins says = says
  says_alike Log client p number told_none begins says = says
  says_alike Durable client p number (told_row row) begins says = row_alike client p row begins says
  says_alike Durable client p number (told_verdict verdict) begins says = says
  says_alike Durable client p number told_none begins says = says

  call_alike : (kind : Kind) (client : Client) (ready : ℕ) (told : Told) (p : ℕ)
      → IsToldCall kind events old client ready told p → IsToldCall kind events new client ready told p
  call_alike kind client ready told p tells = record {
    number = tells.number;
    begins = tells.begins;
    last = none_alike kind client (p + 1) ready tells.last;
    says = says_alike kind client p tells.number told (tells.number, (tells.begins.call, tells.begins.begins))
        tells.says;
  }

-- what a client was told of its announced call is right by another order that is alike
pub announced_alike : (s : Shape) (kept : Place → ℕ) (base : List Told) (log : Trace) (new : List Effect)
    (client : Client) (told : Told)
    → AreAlike log.events (order_of log.effects) (order_of new) → IsToldOfAnnounced s kept base log client told
    → IsToldOfAnnounced s kept base (let l : Trace = record log { effects = new } in l) client told
unfolding call_alike
announced_alike s kept base log new client told alike tells = record {
  of_call = λ call some of.
      let is : IsToldOfCall s.kind log.events (order_of log.effects) client call told = tells.of_call call some of in
      record {
        own = is.own;
        tells = call_alike log.events (order_of log.effects) (order_of new) alike s.kind client (length log.events)
            told call.place is.tells;
        number = is.number;
      };
  of_base = λ nobody.
      let is : IsToldBase s.kind base log.events (order_of log.effects) client (length log.events) told =
      tells.of_base nobody in
      record {
        none = none_alike log.events (order_of log.effects) (order_of new) alike s.kind client 0 (length log.events)
            is.none;
        same = is.same;
      };
}

-- a record has a last call that took it, or no call did
call_or_nobody : (issued : List Issued) (token : ℕ)
    → ((call : Issued) × IsCallOf issued token call) ⊎ IsNobodys issued token
call_or_nobody [] token = inr (record { none = λ k call at. cc })
call_or_nobody (x ∷ xs) token = elim (call_or_nobody xs token) [
  | inl found ↦ inl (
    found.0,
    record {
      index = suc found.1.index;
      there = found.1.there;
      takes = found.1.takes;
      last = later found.0 found.1;
    },
  )
  | inr nobody ↦ elim (cases_eq x.begun.token.0 token) [
    | inl takes ↦ inl (x, record { index = 0; there = refl; takes = takes; last = none_later nobody })
    | inr other ↦ inr (record { none = none other nobody })
  ]
]
  where
    later : (call : Issued) (c : IsCallOf xs token call) (k : ℕ) (y : Issued) → suc c.index < k
        → slice_get (x ∷ xs) k ≡ Some y → y.begun.token.0 ≢ token
    later call c zero y lt at = absurd (omega (arith, lt))
    later call c (suc k) y lt at = c.last k y (omega (arith, lt)) at

    none_later : IsNobodys xs token → (k : ℕ) (y : Issued) → 0 < k → slice_get (x ∷ xs) k ≡ Some y
        → y.begun.token.0 ≢ token
    none_later nobody zero y lt at = absurd (omega (arith, lt))
    none_later nobody (suc k) y lt at = nobody.none k y at

    none : x.begun.token.0 ≢ token → IsNobodys xs token → (k : ℕ) (y : Issued) → slice_get (x ∷ xs) k ≡ Some y
        → y.begun.token.0 ≢ token
    none other nobody zero y at = subst (λ (z : Issued). z.begun.token.0 ≢ token) (same_Some x y at) other
    none other nobody (suc k) y at = nobody.none k y at

-- no call of its client begins after one that was cut off
none_after : (events : List Event)
    → ((p : ℕ) (event : Event) → slice_get events p ≡ Some event → MayStand events p event)
    → (client : Client) (p r : ℕ) → BeginsAt events client p → WasCutOff events client p → p < r
    → BeginsAt events client r → ⊥
none_after events places client p r begins cut after later =
    elim (cases_lt cut.end r) [
      | inl lt ↦
          let within : r < length events = slice_get_within events r _ later.1.1 in
          (places r _ later.1.1).1.1 (record {
            place = cut.end;
            before = lt;
            crash = cut.crash;
            no_ready = λ k told low high ready. omega (arith, cut.last k told low ready, high, within);
          })
      | inr ge ↦ elim (cases_lt r cut.end) [
        | inl lt ↦ (places r _ later.1.1).1.0 (record {
          place = p;
          before = after;
          open_from = record { begins = begins; no_end = λ k low high. cut.ends.first k low (omega (arith, high, lt)) };
        })
        | inr le ↦
            let same : r ≡ cut.end = omega (arith, ge, le) in
            let at : BeginsAt events client cut.end = subst (BeginsAt events client) same later in
            cc (at.1.1, cut.crash)
      ]
    ]

-- a call that was cut off and stands in the order is the announced one, where its client may be told of it
pub cut_off_announced : (s : Shape) (kept : Place → ℕ) (base : List Told) (log : Trace) (client : Client)
    (told : Told)
    → ((p : ℕ) (event : Event) → slice_get log.events p ≡ Some event → MayStand log.events p event)
    → IsToldOfAnnounced s kept base log client told
    → (p number : ℕ) → BeginsTold s.kind log.events client p number → WasCutOff log.events client p
    → InOrder (order_of log.effects) p → IsAnnounced kept log.issued client p
cut_off_announced s kept base log client told places tells p number begins cut there =
    elim (cases_eq (announcements kept client.0) 0) [
      | inl z ↦ absurd (none_taken (tells.of_base (inl z)))
      | inr some ↦ elim (call_or_nobody log.issued (announcements kept client.0)) [
        | inr nobody ↦ absurd (none_taken (tells.of_base (inr nobody)))
        | inl found ↦ of_call some found.0 found.1 (tells.of_call found.0 some found.1)
      ]
    ]
  where
    stands : BeginsAt log.events client p
    stands = (number, (begins.call, begins.begins))

    taken : BeginsTaken s.kind log.events (order_of log.effects) client p
    taken = record { number = number; begins = begins; taken = there }

    within : p < length log.events
    within = slice_get_within log.events p _ begins.begins

    none_taken : IsToldBase s.kind base log.events (order_of log.effects) client (length log.events) told → ⊥
    none_taken base_told = base_told.none.none p (omega arith) within taken

    of_call : announcements kept client.0 ≢ 0 → (call : Issued)
        → IsCallOf log.issued (announcements kept client.0) call
        → IsToldOfCall s.kind log.events (order_of log.effects) client call told
        → IsAnnounced kept log.issued client p
    of_call some call of is = elim (cases_lt call.place p) [
      | inl lt ↦ absurd (is.tells.last.none p (omega (arith, lt)) within taken)
      | inr ge ↦ elim (cases_lt p call.place) [
        | inl lt ↦ absurd (none_after log.events places client p call.place stands cut lt
            (is.tells.number, (is.tells.begins.call, is.tells.begins.begins)))
        | inr le ↦ record { some = some; call = call; of = of; place = omega (arith, ge, le) }
      ]
    ]

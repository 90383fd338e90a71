-- What the kept words tell a client of a log queue, and which acts change it: those of its own call under way alone.
use Rattle.std.proofs.Common.{◌≡◌, ℕ, ◌<◌, ◌⊎◌, inl, inr, List, length, Option, Some, None, refl, sym, ap, ◌∙◌}
use Rattle.std.proofs.Common.{subst, arith}
use Rattle.std.specs.Prelude.{EachIndex, unwrap_or}
use Rattle.std.proofs.lemmas.Bool.{cases_eq}
use Rattle.std.proofs.lemmas.Option.{same_Some}
use Rattle.words.specs.declared.call.Client.{Client}
use Rattle.words.specs.declared.call.Kind.{Kind}
use Rattle.words.specs.declared.call.Kind.TheVariants.{Log as log_kind}
use Rattle.words.specs.declared.call.Reply.{Reply}
use Rattle.words.specs.declared.limits.TheConstants.{MAX_CLIENTS}
use Rattle.words.specs.declared.told.Outcome.{Outcome}
use Rattle.words.specs.declared.told.Outcome.TheVariants.{NotTaken, Taken}
use Rattle.words.specs.declared.told.Told.{Told}
use Rattle.words.specs.declared.told.Told.TheVariants.{None as told_none, Verdict as told_verdict, Row as told_row}
use Rattle.arena.specs.Words.{announcements}
use Rattle.arena.specs.declared.place.Place.{Place}
use Rattle.arena.specs.declared.place.Place.TheVariants.{Announcement}
use Rattle.sound_words.specs.Told.{told_by}
use Rattle.recover.specs.declared.recovery.Recovery.{Recovery}
use Rattle.events.specs.Effects.{order_of}
use Rattle.events.specs.History.{BeginsAt}
use Rattle.events.specs.Orders.{InOrder, IsNew, IsTakenAs}
use Rattle.events.specs.Parts.{IsPartOf}
use Rattle.events.specs.Telling.{IsOutcome, IsToldOf, Says}
use Rattle.events.specs.declared.event.Effect.{Effect}
use Rattle.events.specs.declared.event.Entry.{Entry}
use Rattle.events.specs.declared.event.Event.{Event}
use Rattle.events.proofs.Facts.{begins_within, contains_from_in, in_from_contains, in_order_from_taken, in_part}
use Rattle.events.proofs.Facts.{one_reply}
use Rattle.protocol.specs.Announced.{IsCallOf}
use Rattle.protocol.specs.Machine.{Memory, World}
use Rattle.protocol.specs.declared.Issued.{Issued}
use Rattle.protocol.specs.declared.UnderWay.{UnderWay}
use Rattle.protocol.specs.invariants.Ledger.{Ledger}
use Rattle.protocol.specs.invariants.Records.{IsAnnouncing}
use Rattle.protocol.specs.invariants.Told.{IsTold, Names, NamesNobody, RightlyTold}
use Rattle.protocol.specs.invariants.Worlds.{Inv, InvAt, IsReady, Working, ledger_of, record_of_call}
use Rattle.protocol.proofs.Facts.{KeptBy, Noted, call_begun_fits, call_once, calling, holder, more_by_stage, put_cases}
use Rattle.protocol.proofs.Facts.{tells_now, told_at}
use Rattle.interleave.specs.Holds.{Holds, from_invariant}
use Rattle.interleave.specs.Reuse.{issued_as}
use Rattle.interleave.specs.State.{State, machine}
use Rattle.interleave.specs.Verdicts.{kept_told}

-- what the kept words tell a client, by its announcement
pub kept_is : (w : State) (client : Client) → client.0 < MAX_CLIENTS
    → kept_told w client ≡ told_by w.shape (machine w).memory.kept client.0
kept_is w client few =
    ap (λ (o : Option Told). unwrap_or o told_none) (told_at w.shape (machine w).memory.kept client.0 few)

-- a client of a log queue is told this rightly, by the record that its announcement names
abbrev pub IsLogTold : World → ℕ → Client → Told → Type 0
IsLogTold w e client told =
    IsTold log_kind w.told w.log.issued e w.log.events (order_of w.log.effects) client told

rightly_at : (w : World) (o : Option Recovery) → InvAt w o → RightlyTold w
rightly_at w None h = h.tells
rightly_at w (Some r) h = h.tells

-- so it is at every moment
pub told_in_world : (w : World) → Inv w → w.shape.kind ≡ log_kind → (client : Client) → client.0 < MAX_CLIENTS
    → IsLogTold w (announcements w.memory.kept client.0) client (told_by w.shape w.memory.kept client.0)
told_in_world w inv log client few =
    subst (λ (k : Kind). IsTold k w.told w.log.issued (announcements w.memory.kept client.0) w.log.events
    (order_of w.log.effects) client (told_by w.shape w.memory.kept client.0)) log
    (rightly_at w w.recovery inv client (told_by w.shape w.memory.kept client.0) few (tells_now w inv client.0))

pub told_now : (w : State) → Holds w → w.shape.kind ≡ log_kind → (client : Client) → client.0 < MAX_CLIENTS
    → IsLogTold (machine w) (announcements (machine w).memory.kept client.0) client (kept_told w client)
told_now w holds log client few =
    subst (IsLogTold (machine w) (announcements (machine w).memory.kept client.0) client) (sym (kept_is w client few))
    (told_in_world (machine w) (from_invariant _ holds.inv) log client few)

-- what is told of one call by two orders is the same, where both have it or neither has
module _ (old new : List Entry) (p : ℕ) (once : EachIndex new (λ i. IsNew new i))
    (kept : (reply : Reply) → IsTakenAs old p reply → IsTakenAs new p reply)
    (back : InOrder new p → InOrder old p) where
  same_outcome : (one other : Outcome) → IsOutcome old p one → IsOutcome new p other → one ≡ other
  same_outcome (Taken a) (Taken b) is also = ap (λ (r : Reply). Taken r) (one_reply new once p a b (kept a is) also)
  same_outcome (Taken a) NotTaken is also = absurd (also (in_order_from_taken new p a (kept a is)))
  same_outcome NotTaken (Taken b) is also = absurd (is (back (in_order_from_taken new p b also)))
  same_outcome NotTaken NotTaken is also = refl

  same_said : (number : ℕ) (x y : Told) → Says log_kind old p number x → Says log_kind new p number y → x ≡ y
  same_said number (told_verdict a) (told_verdict b) is also =
      ap (λ (n : ℕ). told_verdict (record { number = n; outcome = a.outcome })) (is.0 ∙ sym also.0)
      ∙ ap (λ (o : Outcome). told_verdict (record { number = b.number; outcome = o }))
      (same_outcome a.outcome b.outcome is.1 also.1)
  same_said number (told_verdict a) (told_row row) is also = absurd also
  same_said number (told_verdict a) told_none is also = absurd also
  same_said number (told_row row) y is also = absurd is
  same_said number told_none y is also = absurd is

names_none : (issued : List Issued) (e t number p : ℕ) → Names issued e t number p → NamesNobody issued e → ⊥
names_none issued e t number p names (inl zero) = names.some zero
names_none issued e t number p names (inr nobody) = nobody.none names.of.index names.call names.of.there names.of.takes

-- so a client is told the same, as long as its announcement stays and the order has no more of its named call
module _ (base : List Told) (issued : List Issued) (e : ℕ) (events later : List Event) (old new : List Entry)
    (client : Client) (once : EachIndex new (λ i. IsNew new i))
    (kept : (p : ℕ) (reply : Reply) → IsTakenAs old p reply → IsTakenAs new p reply)
    (back : (p : ℕ) → BeginsAt events client p → InOrder new p → InOrder old p) where
  pub same_told : (x y : Told) → IsTold log_kind base issued e events old client x
      → IsTold log_kind base issued e later new client y → x ≡ y
  same_told x y (inl some) (inl other) =
      let a : Issued = some.1.call in
      let b : Issued = other.1.call in
      let one : a ≡ b = call_once issued e a b some.1.of other.1.of in
      let place : other.0.place ≡ some.0.place =
      sym other.1.place ∙ ap (λ (c : Issued). c.place) (sym one) ∙ some.1.place in
      let number : other.0.tells.number ≡ some.0.tells.number =
      sym other.1.number ∙ ap (λ (c : Issued). c.begun.number) (sym one) ∙ some.1.number in
      same_said old new some.0.place once (kept some.0.place)
      (back some.0.place (some.0.tells.number, (some.0.tells.begins.call, some.0.tells.begins.begins)))
      some.0.tells.number x y some.0.tells.says
      (subst (λ (p : ℕ). Says log_kind new p some.0.tells.number y) place
      (subst (λ (n : ℕ). Says log_kind new other.0.place n y) number other.0.tells.says))
  same_told x y (inl some) (inr none) = absurd (names_none issued e _ _ _ some.1 none.1)
  same_told x y (inr none) (inl some) = absurd (names_none issued e _ _ _ some.1 none.1)
  same_told x y (inr none) (inr other) = same_Some x y (sym none.0.same ∙ other.0.same)

-- the record is that of the call that the client has under way
pub record IsOwn (calls : ℕ → Option UnderWay) (j e : ℕ) : Type 0 where
  pub u : UnderWay
  pub at : calls j ≡ Some u
  pub named : e ≡ u.begun.token.0

none_some : {X : Type 0} {x : X} → None ≡ Some x → ⊥
none_some e = cc

one_call : {u x : UnderWay} → Some u ≡ Some x → u ≡ x
one_call e = cc

own_or_not : (calls : ℕ → Option UnderWay) (j e : ℕ) → IsOwn calls j e ⊎ (IsOwn calls j e → ⊥)
own_or_not calls j e = go (calls j) refl
  where
    go : (c : Option UnderWay) → calls j ≡ c → IsOwn calls j e ⊎ (IsOwn calls j e → ⊥)
    go None at = inr (λ own. none_some (sym at ∙ own.at))
    go (Some u) at = elim (cases_eq e u.begun.token.0) [
      | inl same ↦ inl (record { u = u; at = at; named = same })
      | inr ne ↦ inr (λ own. ne (own.named ∙ ap (λ (x : UnderWay). x.begun.token.0) (one_call (sym own.at ∙ at))))
    ]

-- a verdict is told of this number
abbrev pub IsToldOfNumber : ℕ → Told → Type 0
IsToldOfNumber number (told_verdict verdict) = verdict.number ≡ number
IsToldOfNumber number (told_row row) = ⊥
IsToldOfNumber number told_none = ⊥

number_said : (order : List Entry) (p number : ℕ) (x : Told) → Says log_kind order p number x → IsToldOfNumber number x
number_said order p number (told_verdict verdict) says = says.0
number_said order p number (told_row row) says = says
number_said order p number told_none says = says

-- the call at the place stood in the order before, or it is under way, and its record is the one that is announced
abbrev pub ComesAnnounced : World → List Effect → Type 0
ComesAnnounced w effects =
    (client : Client) (p : ℕ) → BeginsAt w.log.events client p → InOrder (order_of effects) p
    → InOrder (order_of w.log.effects) p ⊎ IsOwn w.calls client.0 (announcements w.memory.kept client.0)

-- so it is of a log queue's call by what is noted of one move
pub comes_announced : (w : World) → Working w → w.shape.kind ≡ log_kind → (effects : List Effect) (k : Ledger)
    → Noted w effects k → ComesAnnounced w effects
comes_announced w v log effects k noted client p begins there = elim noted.moved [
  | inl same ↦ inl ((more_by_stage (length w.log.events) w.log.effects effects noted.part (λ q ne. same q)).only p
      (λ e. omega (arith, e, begins_within w.log.events client p begins)) there)
  | inr x ↦ elim (cases_eq p x.u.place) [
    | inl e ↦
        let c = (calling w v x.o x.u x.at).1 in
        let at : BeginsAt w.log.events client x.u.place = subst (BeginsAt w.log.events client) e begins in
        let who : x.u.begun.client ≡ client = cc (c.stands, at.1.1) in
        let here : x.o ≡ client.0 = sym c.who ∙ ap (λ (y : Client). y.0) who in
        let told_of : IsToldOf w.shape.kind x.u.begun.call =
        subst (λ (y : Kind). IsToldOf y x.u.begun.call) (sym log) tt in
        inr (subst (λ (j : ℕ). IsOwn w.calls j (announcements w.memory.kept j)) here
        (record { u = x.u; at = x.at; named = (x.announced told_of).1 }))
    | inr ne ↦ inl ((more_by_stage x.u.place w.log.effects effects noted.part x.others).only p ne there)
  ]
]

-- a ready world, of which one word more is kept at most
module _ (w : World) (ready : IsReady w) (n : Memory) (kept : KeptBy w.memory n) where
  -- a client's announcement stays, or it names the client's call under way
  pub announced_or : (j : ℕ) → (announcements n.kept j ≡ announcements w.memory.kept j)
      ⊎ IsOwn w.calls j (announcements n.kept j)
  announced_or j = elim kept [
    | inl same ↦ inl (ap (λ (f : Place → ℕ). announcements f j) same)
    | inr one ↦ elim (put_cases w.memory.kept one.p (w.memory.cached one.p) (Announcement (record { 0 = j }))) [
      | inl at ↦ by_cached (ap (λ (f : Place → ℕ). announcements f j) one.same ∙ at.1 ∙ ap w.memory.cached (sym at.0))
      | inr other ↦ inl (ap (λ (f : Place → ℕ). announcements f j) one.same ∙ other.1)
    ]
  ]
    where
      by_cached : announcements n.kept j ≡ announcements w.memory.cached j
          → (announcements n.kept j ≡ announcements w.memory.kept j) ⊎ IsOwn w.calls j (announcements n.kept j)
      by_cached now = elim (cases_eq (announcements w.memory.cached j) (announcements w.memory.kept j)) [
        | inl same ↦ inl (now ∙ same)
        | inr apart ↦
            let x : IsAnnouncing w.shape w.memory (ledger_of w) j = ready.working.records.announcing j apart in
            let held : (u : UnderWay) × (w.calls j ≡ Some u) =
            holder w ready.working j (announcements w.memory.cached j) x.some (sym x.holds) in
            inr (record {
              u = held.0;
              at = held.1;
              named = now ∙ x.holds ∙ ap (λ (c : Option UnderWay). (record_of_call c).token.0) held.1;
            })
      ]

  -- what it is told of its own call is of that one
  pub own_says : (events : List Event) (order : List Entry) (client : Client) (y : Told)
      → IsTold log_kind w.told w.log.issued (announcements n.kept client.0) events order client y
      → (own : IsOwn w.calls client.0 (announcements n.kept client.0))
      → Says log_kind order own.u.place own.u.begun.number y
  own_says events order client y (inl some) own =
      let of : IsCallOf w.log.issued (announcements n.kept client.0) (issued_as own.u) =
      subst (λ e. IsCallOf w.log.issued e (issued_as own.u)) (sym own.named) (ready.issued client.0 own.u own.at) in
      let one : some.1.call ≡ issued_as own.u = call_once w.log.issued _ some.1.call (issued_as own.u) some.1.of of in
      let number : some.0.tells.number ≡ own.u.begun.number =
      sym some.1.number ∙ ap (λ (c : Issued). c.begun.number) one in
      let place : some.0.place ≡ own.u.place = sym some.1.place ∙ ap (λ (c : Issued). c.place) one in
      subst (λ (p : ℕ). Says log_kind order p own.u.begun.number y) place
      (subst (λ (m : ℕ). Says log_kind order some.0.place m y) number some.0.tells.says)
  own_says events order client y (inr (base, inl zero)) own =
      let fits = call_begun_fits w.shape w.memory (ledger_of w) client.0 own.u.op
      (calling w ready.working client.0 own.u own.at).0 in
      let begun = ap (λ (c : Option UnderWay). (record_of_call c).token.0) own.at in
      absurd (omega (arith, fits.is_record.0, begun, own.named, zero))
  own_says events order client y (inr (base, inr nobody)) own =
      let of = ready.issued client.0 own.u own.at in
      absurd (nobody.none of.index (issued_as own.u) of.there (sym own.named))

  -- so a client is told the same by the words, or of its own call
  pub told_on : w.shape.kind ≡ log_kind → (effects : List Effect) → ComesAnnounced w effects
      → IsPartOf (order_of w.log.effects) (order_of effects)
      → EachIndex (order_of effects) (λ i. IsNew (order_of effects) i)
      → (events : List Event) (client : Client) (x y : Told)
      → IsLogTold w (announcements w.memory.kept client.0) client x
      → IsTold log_kind w.told w.log.issued (announcements n.kept client.0) events (order_of effects) client y
      → (y ≡ x) ⊎ ((u : UnderWay) × (w.calls client.0 ≡ Some u) × IsToldOfNumber u.begun.number y)
  told_on log effects comes part once events client x y is also =
      elim (own_or_not w.calls client.0 (announcements n.kept client.0)) [
        | inl own ↦ inr (
          own.u,
          own.at,
          number_said (order_of effects) own.u.place own.u.begun.number y
              (own_says events (order_of effects) client y also own),
        )
        | inr other ↦ elim (announced_or client.0) [
          | inl stays ↦ inl (sym (same_told w.told w.log.issued (announcements w.memory.kept client.0) w.log.events
              events (order_of w.log.effects) (order_of effects) client once part_kept
              (λ p begins there. elim (comes client p begins there) [
                | inl was ↦ was
                | inr own ↦ absurd (other (subst (IsOwn w.calls client.0) (sym stays) own))
              ])
              x y is
              (subst (λ e. IsTold log_kind w.told w.log.issued e events (order_of effects) client y) stays also)))
          | inr own ↦ absurd (other own)
        ]
      ]
    where
      part_kept : (p : ℕ) (reply : Reply) → IsTakenAs (order_of w.log.effects) p reply
          → IsTakenAs (order_of effects) p reply
      part_kept p reply taken =
          let e : Entry = record { place = p; reply = reply } in
          contains_from_in (order_of effects) e (in_part e part (in_from_contains (order_of w.log.effects) e taken))

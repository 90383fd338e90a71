-- A call has an end or none yet; one that has an end comes into no order.
use Rattle.std.proofs.Common.{◌≡◌, ℕ, zero, suc, ◌<◌, ◌⊎◌, inl, inr, List, [], ◌++◌, length, Option, Some, None, slice_get, refl, sym, ap, ◌∙◌, subst, arith}
use Rattle.std.specs.Prelude.{EachIndex}
use Rattle.std.proofs.lemmas.Bool.{cases_eq, cases_lt}
use Rattle.std.proofs.lemmas.List.{append-nil, append_assoc}
use Rattle.std.proofs.lemmas.Option.{slice_get_within}
use Rattle.words.specs.declared.call.Client.{Client}
use Rattle.words.specs.declared.call.Reply.{Reply}
use Rattle.events.specs.Effects.{order_of}
use Rattle.events.specs.History.{BeginsAt, EndsAt, HasNoEnd, IsEnd, IsOpenFrom}
use Rattle.events.specs.Orders.{IsTakenAs, IsNew}
use Rattle.events.specs.Parts.{IsPartOf}
use Rattle.events.specs.declared.event.Effect.{Effect}
use Rattle.events.specs.declared.event.Entry.{Entry}
use Rattle.events.specs.declared.event.Event.{Event}
use Rattle.events.specs.declared.event.Event.TheVariants.{Call as call_event, Return as return_event}
use Rattle.events.specs.declared.event.Event.TheVariants.{Crash as crash_event, Ready as ready_event}
use Rattle.events.proofs.Facts.{begins_longer, contains_from_in, in_from_contains, in_order_from_taken, in_part}
use Rattle.events.proofs.Facts.{is_end_longer, one_reply, taken_from_in_order}
use Rattle.interleave.specs.Standing.{HasEnded, IsBeginningOf}
use Rattle.interleave.proofs.order.Entries.{ComesInOpen}

-- what stands at a place ends a call of the client, or does not
ends_or_not : (events : List Event) (client : Client) (n : ℕ)
    → EndsAt events client n ⊎ (EndsAt events client n → ⊥)
ends_or_not events client n = go (slice_get events n) refl
  where
    go : (o : Option Event) → slice_get events n ≡ o → EndsAt events client n ⊎ (EndsAt events client n → ⊥)
    go None e = inr (λ h. elim h [ inl returned ↦ cc (returned.1, e) | inr crash ↦ cc (crash, e) ])
    go (Some (call_event c number call)) e =
        inr (λ h. elim h [ inl returned ↦ cc (returned.1, e) | inr crash ↦ cc (crash, e) ])
    go (Some (return_event c reply)) e = elim (cases_eq c.0 client.0) [
      | inl same ↦
          let one : c ≡ client = ap (λ (t : ℕ). let x : Client = record { 0 = t } in x) same in
          inl (inl (reply, e ∙ ap (λ (x : Client). Some (return_event x reply)) one))
      | inr ne ↦ inr (λ h. elim h [
        | inl returned ↦
            let one : c ≡ client = cc (returned.1, e) in
            ne (ap (λ (x : Client). x.0) one)
        | inr crash ↦ cc (crash, e)
      ])
    ]
    go (Some crash_event) e = inl (inr e)
    go (Some (ready_event told)) e =
        inr (λ h. elim h [ inl returned ↦ cc (returned.1, e) | inr crash ↦ cc (crash, e) ])

-- a call has no end before n, or it has one
end_before : (events : List Event) (client : Client) (p n : ℕ)
    → HasNoEnd events client p n ⊎ ((e : ℕ) × IsEnd events client p e)
end_before events client p zero = inl (λ k low high ends. omega (arith, high))
end_before events client p (suc n) = elim (end_before events client p n) [
  | inr found ↦ inr found
  | inl none ↦ elim (cases_lt p n) [
    | inl lt ↦ elim (ends_or_not events client n) [
      | inl ends ↦ inr (n, record { after = lt; ends = ends; first = none })
      | inr other ↦ inl (λ k low high ends. elim (cases_lt k n) [
        | inl less ↦ none k low less ends
        | inr ge ↦ other (subst (EndsAt events client) (let same : k ≡ n = omega (arith, ge, high) in same) ends)
      ])
    ]
    | inr ge ↦ inl (λ k low high ends. omega (arith, low, high, ge))
  ]
]

-- a call has ended, or it has no end yet
pub ended_or_open : (events : List Event) (client : Client) (p : ℕ) → BeginsAt events client p
    → HasEnded events p ⊎ IsOpenFrom events client (length events) p
ended_or_open events client p begins = elim (end_before events client p (length events)) [
  | inl none ↦ inr (record { begins = begins; no_end = none })
  | inr found ↦ inl (record { client = client; begins = begins; end = found.0; ends = found.1 })
]

-- an end stands in the history
pub end_within : (events : List Event) (client : Client) (n : ℕ) → EndsAt events client n → n < length events
end_within events client n (inl returned) = slice_get_within events n _ returned.1
end_within events client n (inr crash) = slice_get_within events n _ crash

-- the call at a place is of one client
one_client : (events : List Event) (a b : Client) (p : ℕ) → BeginsAt events a p → BeginsAt events b p → a ≡ b
one_client events a b p one other = cc (one.1.1, other.1.1)

-- a call that has ended is not without an end
pub ended_closed : (events : List Event) (client : Client) (p : ℕ) → HasEnded events p
    → IsOpenFrom events client (length events) p → ⊥
ended_closed events client p ended open_from =
    let same : ended.client ≡ client = one_client events ended.client client p ended.begins open_from.begins in
    let end : IsEnd events client p ended.end = subst (λ (c : Client). IsEnd events c p ended.end) same ended.ends in
    open_from.no_end ended.end end.after (end_within events client ended.end end.ends) end.ends

-- a call that has ended has ended in a longer history
pub ended_longer : (old new : List Event) (p : ℕ) → IsBeginningOf old new → HasEnded old p → HasEnded new p
ended_longer old new p grown ended = subst (λ (es : List Event). HasEnded es p) (sym grown.is) (record {
  client = ended.client;
  begins = begins_longer old grown.rest ended.client p ended.begins;
  end = ended.end;
  ends = is_end_longer old grown.rest ended.client p ended.end
      (end_within old ended.client ended.end ended.ends.ends) ended.ends;
})

-- a history is a beginning of itself, and of what grows from one that it is a beginning of
pub begins_itself : (events : List Event) → IsBeginningOf events events
begins_itself events = record { rest = []; is = sym (append-nil events) }

pub begins_as_it_is : (old new : List Event) → new ≡ old → IsBeginningOf old new
begins_as_it_is old new same = record { rest = []; is = same ∙ sym (append-nil old) }

pub begins_on : (old now new : List Event) → IsBeginningOf old now → IsBeginningOf now new → IsBeginningOf old new
begins_on old now new one other = record {
  rest = one.rest ++ other.rest;
  is = other.is ∙ ap (λ (es : List Event). es ++ other.rest) one.is ∙ append_assoc old one.rest other.rest;
}

-- where only calls without an end came into the order, one that has ended stood there before with this reply
pub stood_before : (events : List Event) (old new : List Effect) → ComesInOpen events old new
    → IsPartOf (order_of old) (order_of new) → EachIndex (order_of new) (λ i. IsNew (order_of new) i)
    → (p : ℕ) (reply : Reply) → HasEnded events p → IsTakenAs (order_of new) p reply
    → IsTakenAs (order_of old) p reply
stood_before events old new comes part once p reply ended taken =
    elim (comes p (in_order_from_taken (order_of new) p reply taken)) [
      | inl was ↦
          let t : (r : Reply) × IsTakenAs (order_of old) p r = taken_from_in_order (order_of old) p was in
          let x : Entry = record { place = p; reply = t.0 } in
          let still : IsTakenAs (order_of new) p t.0 = contains_from_in (order_of new) x
          (in_part x part (in_from_contains (order_of old) x t.1)) in
          subst (IsTakenAs (order_of old) p) (one_reply (order_of new) once p t.0 reply still taken) t.1
      | inr o ↦ absurd (ended_closed events o.0 p ended o.1)
    ]

-- Each client's calls stand in the order in ascending places, where none is named twice and precedence is kept.
use Rattle.std.proofs.Common.{ℕ, zero, suc, ◌≡◌, ◌<◌, ◌≤◌, ◌⊎◌, List, Option, Some, None, slice_get, get_or}
use Rattle.std.proofs.Common.{length, inl, inr, refl, ap, arith, subst, sym, ◌∙◌, ⊎_elim, length-take}
use Rattle.std.specs.Prelude.{All, EachIndex, IsSome}
use Rattle.std.proofs.lemmas.Bool.{cases_lt, cases_eq}
use Rattle.std.proofs.lemmas.List.{get_or-take}
use Rattle.std.proofs.lemmas.Option.{slice_get_within, slice_get-get_or, get_or_from_slice_get}
use Rattle.words.specs.declared.call.Client.{Client}
use Rattle.events.specs.declared.event.Event.{Event}
use Rattle.events.specs.declared.event.Event.TheVariants.{Call as call_event, Return as return_event}
use Rattle.events.specs.declared.event.Event.TheVariants.{Crash as crash_event, Ready as ready_event}
use Rattle.events.specs.declared.event.Entry.{Entry}
use Rattle.events.specs.Explains.{KeepsPrecedence}
use Rattle.events.specs.History.{BeginsAt, EndsAt, HasNoEnd, IsEnd, Precedes, IsHistory}
use Rattle.events.specs.Orders.{IsNew}
use Rattle.events.specs.Replay.{call_at, call_of}
use Rattle.history.specs.Sweeps.{Ascends}

-- what ends a call of the client can be told
ends_or_not : (events : List Event) (client : Client) (k : ℕ) → EndsAt events client k ⊎ (EndsAt events client k → ⊥)
ends_or_not events client k = go (slice_get events k) refl
  where
    go : (at : Option Event) → slice_get events k ≡ at → EndsAt events client k ⊎ (EndsAt events client k → ⊥)
    go None at = inr (λ ends. ⊎_elim (λ returned. cc (at, returned.1)) (λ crash. cc (at, crash)) ends)
    go (Some (call_event other number call)) at =
        inr (λ ends. ⊎_elim (λ returned. cc (at, returned.1)) (λ crash. cc (at, crash)) ends)
    go (Some (return_event other reply)) at =
        ⊎_elim
        (λ same. inl (inl (reply, at ∙ ap (λ (n : ℕ). Some (return_event (record { 0 = n }) reply)) same)))
        (λ differ. inr (λ ends. ⊎_elim (λ returned. differ (cc (at, returned.1))) (λ crash. cc (at, crash)) ends))
        (cases_eq other.0 client.0)
    go (Some crash_event) at = inl (inr at)
    go (Some (ready_event told)) at = inr (λ ends. ⊎_elim (λ returned. cc (at, returned.1))
        (λ crash. cc (at, crash)) ends)

-- a call has an end before some place, or none
pub record HasEndBefore (events : List Event) (client : Client) (p q : ℕ) : Type 0 where
  pub end : ℕ
  pub ends : IsEnd events client p end
  pub before : end < q

pub end_or_none : (events : List Event) (client : Client) (p q : ℕ)
    → HasEndBefore events client p q ⊎ HasNoEnd events client p q
end_or_none events client p zero = inr (λ k low high ends. absurd (omega arith))
end_or_none events client p (suc q) = go (end_or_none events client p q) (ends_or_not events client q) (cases_lt p q)
  where
    go : HasEndBefore events client p q ⊎ HasNoEnd events client p q
        → EndsAt events client q ⊎ (EndsAt events client q → ⊥) → (p < q) ⊎ (q ≤ p)
        → HasEndBefore events client p (suc q) ⊎ HasNoEnd events client p (suc q)
    go before here place =
        ⊎_elim
        (λ (has : HasEndBefore events client p q). inl
        (record { end = has.end; ends = has.ends; before = omega (arith, has.before) }))
        (λ none. ⊎_elim
        (λ ends. ⊎_elim
        (λ lt. inl (record { end = q; ends = record { after = lt; ends = ends; first = none }; before = omega arith }))
        (λ le. inr (λ k low high end. absurd (omega arith)))
        place)
        (λ open_still. inr (λ k low high end. ⊎_elim (λ lt. none k low lt end)
        (λ le. let same : k ≡ q = omega arith in open_still (subst (EndsAt events client) same end))
        (cases_lt k q)))
        here)
        before

-- of two calls of a client the one that begins first precedes the other
pub precedes_own : (events : List Event) → IsHistory events → (client : Client) (p q : ℕ)
    → BeginsAt events client p → BeginsAt events client q → p < q → Precedes events p q
precedes_own events history client p q begins later lt =
    ⊎_elim
    (λ has. record { client = client; begins = begins; end = has.end; ends = has.ends; before = has.before })
    (λ none. absurd ((history.places q _ later.1.1).1.0
    (record { place = p; before = lt; open_from = record { begins = begins; no_end = none } })))
    (end_or_none events client p q)

-- so the client's calls ascend, where no call is named twice
pub ascends_from_new : (events : List Event) (order : List Entry) → IsHistory events
    → KeepsPrecedence events order → EachIndex order (λ i. IsNew order i) → (client : Client)
    → Ascends events order client
ascends_from_new events order history keeps once client = record {
  each = λ i j x y lt at_x at_y begins_x begins_y.
      ⊎_elim
      (λ less. less)
      (λ le. ⊎_elim
      (λ less. let back : j < i = keeps j i y x at_y at_x
      (precedes_own events history client y.place x.place begins_y begins_x less) in absurd (omega arith))
      (λ more.
      let same : x.place ≡ y.place = omega arith in
      let j_lt : j < length order = slice_get_within order j y at_y in
      absurd ((once j j_lt).none y at_y (
        i,
        x,
        omega (arith, length-take j order),
        get_or-take j order i x lt
            ∙ get_or_from_slice_get order i x x at_x,
        same,
      )))
      (cases_lt y.place x.place))
      (cases_lt x.place y.place);
}

-- and no call is named twice, where each client's ascend
pub new_from_ascends : (events : List Event) (order : List Entry) → IsHistory events
    → All (λ entry. IsSome (call_at events entry.place)) order
    → ((client : Client) → client.0 < 16 → Ascends events order client) → EachIndex order (λ i. IsNew order i)
new_from_ascends events order history names ascends i i_lt = record {
  none = λ entry at (k, x, k_lt, is, same).
      let before : k < i = omega (arith, k_lt, length-take i order) in
      let at_k : slice_get order k ≡ Some x = slice_get-get_or order k x (omega arith)
      ∙ ap Some (sym (get_or-take i order k x before) ∙ is) in
      let entry_is : get_or order i entry ≡ entry = get_or_from_slice_get order i entry entry at in
      let named : IsSome (call_at events entry.place) =
      subst (λ (e : Entry). IsSome (call_at events e.place)) entry_is (names i entry i_lt) in
      go entry x k at at_k same before (slice_get events entry.place) refl named;
}
  where
    go : (entry x : Entry) (k : ℕ) → slice_get order i ≡ Some entry → slice_get order k ≡ Some x
        → x.place ≡ entry.place → k < i → (event : Option Event) → slice_get events entry.place ≡ event
        → IsSome (call_of (slice_get events entry.place)) → ⊥
    go entry x k at at_k same before (Some (call_event client number call)) is named =
        let small : client.0 < 16 = (history.places entry.place _ is).0 in
        let begins : BeginsAt events client entry.place = (number, (call, is)) in
        let lt : x.place < entry.place = (ascends client small).each k i x entry before at_k at
        (subst (BeginsAt events client) (sym same) begins) begins in
        omega (arith, same, lt)
    go entry x k at at_k same before (Some (return_event client reply)) is named = cc (ap call_of is, named)
    go entry x k at at_k same before (Some crash_event) is named = cc (ap call_of is, named)
    go entry x k at at_k same before (Some (ready_event told)) is named = cc (ap call_of is, named)
    go entry x k at at_k same before None is named = cc (ap call_of is, named)

-- Where calls end: at each place, and one place before.
use Rattle.std.proofs.Common.{ℕ, ◌≡◌, ◌≢◌, ◌<◌, ◌≤◌, ◌+◌, List, Some, slice_get, get_or, set, length, min, refl, ap, arith, sym}
use Rattle.std.proofs.Common.{◌∙◌, subst, inl, inr, ⊎_elim, get_or-set_same, get_or-set_other}
use Rattle.std.proofs.Math.ListN.{length-set}
use Rattle.std.specs.Prelude.{⊤}
use Rattle.std.proofs.lemmas.Bool.{cases_lt, cases_eq}
use Rattle.std.proofs.lemmas.Option.{same_Some, slice_get_within, slice_get-get_or, get_or_from_slice_get}
use Rattle.words.specs.declared.call.Call.{Call}
use Rattle.words.specs.declared.call.Client.{Client}
use Rattle.words.specs.declared.call.Reply.{Reply}
use Rattle.events.specs.declared.event.Event.{Event}
use Rattle.events.specs.declared.event.Event.TheVariants.{Call as call_event, Return as return_event}
use Rattle.events.specs.declared.event.Event.TheVariants.{Crash as crash_event, Ready as ready_event}
use Rattle.events.specs.History.{CallAt, EndsAt, ReturnAt}
use Rattle.findings.specs.Ends.{AreBelow, AreEndsFrom, AreNextEnds, IsBelow, IsNextEnd}
use Rattle.findings.specs.Facts.{AreEnds, IsEndOf}

-- what stands at a place stands there alone
pub same_event : (events : List Event) (p : ℕ) (one other : Event) → slice_get events p ≡ Some one
    → slice_get events p ≡ Some other → one ≡ other
same_event events p one other at at_too = same_Some one other (sym at ∙ at_too)

-- the event ends a call of the client
abbrev pub EndsIt : Event → Client → Type 0
EndsIt (call_event client number call) other = ⊥
EndsIt (return_event client reply) other = client ≡ other
EndsIt crash_event other = ⊤
EndsIt (ready_event told) other = ⊥

pub ends_it : (events : List Event) (p : ℕ) (event : Event) (client : Client) → slice_get events p ≡ Some event
    → EndsAt events client p → EndsIt event client
ends_it events p event client at ends =
    ⊎_elim
    (λ returned. subst (λ (e : Event). EndsIt e client) (same_event events p _ event returned.1 at) refl)
    (λ crash. subst (λ (e : Event). EndsIt e client) (same_event events p _ event crash at) tt)
    ends

-- one place before: something else stands there, or an end
next_other : (events : List Event) (client : Client) (p t : ℕ) (event : Event) → slice_get events p ≡ Some event
    → (EndsIt event client → ⊥) → IsNextEnd events client (p + 1) t → IsNextEnd events client p t
next_other events client p t event at other next = record {
  from = omega (arith, next.from);
  first = λ k low high ends. ⊎_elim
      (λ (later : p < k). next.first k (omega arith) high ends)
      (λ (le : k ≤ p). let here : k ≡ p = omega arith in
      other (ends_it events p event client at (subst (EndsAt events client) here ends)))
      (cases_lt p k);
  ends = next.ends;
  within = next.within;
}

next_here : (events : List Event) (client : Client) (p t : ℕ) → t ≡ p → p < length events
    → EndsAt events client p → IsNextEnd events client p t
next_here events client p t same lt ends = record {
  from = omega arith;
  first = λ k low high end. absurd (omega arith);
  ends = λ less. subst (EndsAt events client) (sym same) ends;
  within = omega arith;
}

-- the same place by another name
pub next_at : (events : List Event) (client : Client) (p t u : ℕ) → t ≡ u → IsNextEnd events client p t
    → IsNextEnd events client p u
next_at events client p t u same next = subst (IsNextEnd events client p) same next

-- so it is of each client, after something that ends no call
pub nexts_other : (events : List Event) (p : ℕ) (returns : List ℕ) (crash : ℕ) (event : Event)
    → slice_get events p ≡ Some event → ((client : Client) → EndsIt event client → ⊥)
    → AreNextEnds events (p + 1) returns crash → AreNextEnds events p returns crash
nexts_other events p returns crash event at other next = record {
  each = λ client d lt. next_other events client p _ event at (other client) (next.each client d lt);
}

-- after a Return
pub nexts_return : (events : List Event) (p : ℕ) (returns : List ℕ) (crash : ℕ) (who : Client) (reply : Reply)
    → slice_get events p ≡ Some (return_event who reply) → p < length events → who.0 < length returns
    → AreNextEnds events (p + 1) returns crash → AreNextEnds events p (set returns who.0 p) crash
nexts_return events p returns crash who reply at lt below next = record {
  each = λ client d small.
      let was : client.0 < length returns = omega (arith, small, length-set returns who.0 p) in
      let old : IsNextEnd events client (p + 1) (min (get_or returns client.0 d) crash) = next.each client d was in
      ⊎_elim
      (λ (same : client.0 ≡ who.0).
      let now : get_or (set returns who.0 p) client.0 d ≡ p =
      ap (λ (n : ℕ). get_or (set returns who.0 p) n d) same ∙ get_or-set_same returns who.0 p d below in
      let high : p + 1 ≤ crash = omega (arith, old.from) in
      let clients : who ≡ client = ap (λ (n : ℕ). record { 0 = n }) (sym same) in
      let ends : EndsAt events client p =
      inl (reply, subst (λ (c : Client). ReturnAt events p c reply) clients at) in
      next_here events client p _ (omega (arith, now, high)) lt ends)
      (λ (differ : client.0 ≢ who.0).
      let now : get_or (set returns who.0 p) client.0 d ≡ get_or returns client.0 d =
      get_or-set_other returns who.0 client.0 p d differ in
      let kept : IsNextEnd events client p (min (get_or returns client.0 d) crash) =
      next_other events client p _ (return_event who reply) at
      (λ (clients : who ≡ client). differ (ap (λ (c : Client). c.0) (sym clients))) old in
      next_at events client p _ _ (ap (λ (n : ℕ). min n crash) (sym now)) kept)
      (cases_eq client.0 who.0);
}

-- after a Crash
pub nexts_crash : (events : List Event) (p : ℕ) (returns : List ℕ) (crash : ℕ)
    → slice_get events p ≡ Some crash_event → p < length events
    → AreNextEnds events (p + 1) returns crash → AreNextEnds events p returns p
nexts_crash events p returns crash at lt next = record {
  each = λ client d small.
      let old : IsNextEnd events client (p + 1) (min (get_or returns client.0 d) crash) = next.each client d small in
      next_here events client p _ (omega (arith, old.from)) lt (inr at);
}

-- behind all events nothing ends a call
pub nexts_past : (events : List Event) (returns : List ℕ) (n : ℕ) → n ≡ length events
    → ((k : ℕ) (d : ℕ) → k < length returns → get_or returns k d ≡ n) → AreNextEnds events n returns n
nexts_past events returns n is all = record {
  each = λ client d small.
      let here : get_or returns client.0 d ≡ n = all client.0 d small in
      record {
        from = omega (arith, here);
        first = λ k low high ends. absurd (omega (arith, here));
        ends = λ less. absurd (omega (arith, here));
        within = omega (arith, here);
      };
}

-- the end of a call, by the next end of its client
pub end_of_call : (events : List Event) (p number t : ℕ) (client : Client) (call : Call)
    → CallAt events p client number call → IsNextEnd events client (p + 1) t → IsEndOf events p t
end_of_call events p number t client call at next = record {
  some = λ lt. record {
    client = client;
    begins = (number, (call, at));
    ends = record {
      after = omega (arith, next.from);
      ends = next.ends lt;
      first = λ k low high ends. next.first k (omega arith) high ends;
    };
  };
  none = λ le. record {
    none = λ e has.
        let events_same : call_event client number call ≡ call_event has.client _ _ =
        same_event events p _ _ at has.begins.1.1 in
        let clients : client ≡ has.client = cc events_same in
        let ends : EndsAt events client e = subst (λ (c : Client). EndsAt events c e) (sym clients) has.ends.ends in
        let lt : e < length events = ends_within events client e ends in
        next.first e (omega (arith, has.ends.after)) (omega arith) ends;
  };
}
  where
    ends_within : (events : List Event) (client : Client) (e : ℕ) → EndsAt events client e → e < length events
    ends_within events client e ends =
        ⊎_elim (λ returned. slice_get_within events e _ returned.1) (λ crash. slice_get_within events e _ crash) ends

-- what is no Call does not end
pub end_of_other : (events : List Event) (p t : ℕ) (event : Event) → slice_get events p ≡ Some event
    → ((client : Client) (number : ℕ) (call : Call) → event ≡ call_event client number call → ⊥)
    → length events ≤ t → IsEndOf events p t
end_of_other events p t event at other le = record {
  some = λ lt. absurd (omega arith);
  none = λ _. record {
    none = λ e has. other has.client _ _ (same_event events p _ _ at has.begins.1.1);
  };
}

-- ends from one place before
pub ends_more : (events : List Event) (p : ℕ) (ends : List ℕ) (e : ℕ) → p < length ends
    → IsEndOf events p e → AreEndsFrom events (p + 1) ends → AreEndsFrom events p (set ends p e)
ends_more events p ends e lt is so_far = record {
  count = length-set ends p e ∙ so_far.count;
  each = λ q f low at.
      let inside : q < length (set ends p e) = slice_get_within (set ends p e) q f at in
      let was : q < length ends = omega (arith, inside, length-set ends p e) in
      let read : get_or (set ends p e) q f ≡ f = get_or_from_slice_get (set ends p e) q f f at in
      ⊎_elim
      (λ (same : q ≡ p).
      let now : e ≡ f = sym (get_or-set_same ends p e f lt)
      ∙ ap (λ (n : ℕ). get_or (set ends p e) n f) (sym same) ∙ read in
      subst (λ (n : ℕ). IsEndOf events n f) (sym same) (subst (IsEndOf events p) now is))
      (λ (differ : q ≢ p).
      let old : get_or ends q f ≡ f = sym (get_or-set_other ends p q e f differ) ∙ read in
      so_far.each q f (omega arith) (slice_get-get_or ends q f was ∙ ap Some old))
      (cases_eq q p);
}

-- ends behind all events, and from the first place on
pub ends_past : (events : List Event) (ends : List ℕ) (n : ℕ) → n ≡ length events → length ends ≡ n
    → AreEndsFrom events n ends
ends_past events ends n is count = record {
  count = count ∙ is;
  each = λ q e low at. let lt : q < length ends = slice_get_within ends q e at in absurd (omega (arith, count));
}

pub ends_all : (events : List Event) (ends : List ℕ) → AreEndsFrom events 0 ends → AreEnds events ends
ends_all events ends from = record { count = from.count; each = λ p e at. from.each p e (omega arith) at }

-- clients of one event more are below a number
below_larger : (event : Event) (n m : ℕ) → n ≤ m → IsBelow n event → IsBelow m event
below_larger (call_event client number call) n m le lt = omega (arith, lt)
below_larger (return_event client reply) n m le lt = omega (arith, lt)
below_larger crash_event n m le lt = tt
below_larger (ready_event told) n m le lt = tt

pub below_more : (events : List Event) (p n m : ℕ) (here : Event) → slice_get events p ≡ Some here → n ≤ m
    → IsBelow m here → ((k : ℕ) (event : Event) → k < p → slice_get events k ≡ Some event → IsBelow n event)
    → (k : ℕ) (event : Event) → k < p + 1 → slice_get events k ≡ Some event → IsBelow m event
below_more events p n m here at le now so_far k event lt at_k =
    ⊎_elim
    (λ (old : k < p). below_larger event n m le (so_far k event old at_k))
    (λ (new : p ≤ k). let same : k ≡ p = omega arith in
    subst (IsBelow m) (same_event events p here event at (ap (slice_get events) (sym same) ∙ at_k)) now)
    (cases_lt k p)

pub below_all : (events : List Event) (p n : ℕ) → length events ≤ p
    → ((k : ℕ) (event : Event) → k < p → slice_get events k ≡ Some event → IsBelow n event) → AreBelow n events
below_all events p n le each k d lt = each k (get_or events k d) (omega arith) (slice_get-get_or events k d lt)

pub below_at : (events : List Event) (p n : ℕ) (event : Event) → AreBelow n events → slice_get events p ≡ Some event
    → IsBelow n event
below_at events p n event below at =
    subst (IsBelow n) (get_or_from_slice_get events p event event at) (below p event (slice_get_within events p event at))

-- the end at a place of the list
pub end_at : (events : List Event) (ends : List ℕ) (p e d : ℕ) → AreEnds events ends → p < length ends
    → e ≡ get_or ends p d → IsEndOf events p e
end_at events ends p e d are lt is = are.each p e (slice_get-get_or ends p d lt ∙ ap Some (sym is))

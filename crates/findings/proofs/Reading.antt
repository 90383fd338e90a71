-- What a recording says of each call: where it ends, and what is known of it.
use Rattle.std.proofs.Common.{ℕ, zero, suc, ◌≡◌, ◌<◌, ◌≤◌, ◌+◌, ◌-◌, ◌⊎◌, List, Option, Some, None, slice_get, length}
use Rattle.std.proofs.Common.{inl, inr, refl, ap, arith, subst, sym, ◌∙◌}
use Rattle.std.proofs.lemmas.Bool.{cases_lt, cases_eq}
use Rattle.std.proofs.lemmas.Option.{slice_get_within}
use Rattle.words.specs.declared.call.Call.{Call}
use Rattle.words.specs.declared.call.Client.{Client}
use Rattle.words.specs.declared.call.Reply.{Reply}
use Rattle.words.specs.declared.told.Outcome.{Outcome}
use Rattle.words.specs.declared.told.Outcome.TheVariants.{NotTaken, Taken}
use Rattle.events.specs.declared.event.Event.{Event}
use Rattle.events.specs.declared.event.Event.TheVariants.{Call as call_event, Return as return_event}
use Rattle.events.specs.declared.event.Event.TheVariants.{Crash as crash_event, Ready as ready_event}
use Rattle.events.specs.History.{CallAt, ReturnAt, BeginsAt, EndsAt, HasNoEnd, IsEnd, Precedes}
use Rattle.events.specs.Replay.{call_at, call_of}
use Rattle.findings.specs.Findings.{IsLearnt, IsReturned, IsKnown, IsOverBy}

-- the call that begins at a place
pub record CallHere (events : List Event) (p : ℕ) : Type 0 where
  pub client : Client
  pub number : ℕ
  pub call : Call
  pub at : CallAt events p client number call

pub call_here_or : (events : List Event) (p : ℕ) → CallHere events p ⊎ (call_at events p ≡ None)
call_here_or events p = go (slice_get events p) refl
  where
    go : (at : Option Event) → slice_get events p ≡ at → CallHere events p ⊎ (call_at events p ≡ None)
    go None at = inr (ap call_of at)
    go (Some (call_event client number call)) at =
        inl (record { client = client; number = number; call = call; at = at })
    go (Some (return_event client reply)) at = inr (ap call_of at)
    go (Some crash_event) at = inr (ap call_of at)
    go (Some (ready_event told)) at = inr (ap call_of at)

pub begins_call : (events : List Event) (p : ℕ) (call : Call) → call_at events p ≡ Some call
    → (client : Client) × BeginsAt events client p
begins_call events p call is = go (call_here_or events p)
  where
    go : CallHere events p ⊎ (call_at events p ≡ None) → (client : Client) × BeginsAt events client p
    go (inl here) = (here.client, (here.number, (here.call, here.at)))
    go (inr fail) = absurd (let both : Some call ≡ None = sym is ∙ fail in cc (both))

pub call_begins : (events : List Event) (p : ℕ) (client : Client) → BeginsAt events client p
    → (call : Call) × (call_at events p ≡ Some call)
call_begins events p client begins = (begins.1.0, ap call_of begins.1.1)

same_client : (events : List Event) (p : ℕ) (a b : Client) → BeginsAt events a p → BeginsAt events b p → a ≡ b
same_client events p a b one other =
    let both : Some (call_event a one.0 one.1.0) ≡ Some (call_event b other.0 other.1.0) = sym one.1.1 ∙ other.1.1 in
    cc (both)

ends_or : (events : List Event) (client : Client) (k : ℕ)
    → EndsAt events client k ⊎ (EndsAt events client k → ⊥)
ends_or events client k = go (slice_get events k) refl
  where
    none_of : {at : Option Event} → slice_get events k ≡ at
        → ((reply : Reply) → at ≡ Some (return_event client reply) → ⊥) → (at ≡ Some crash_event → ⊥)
        → EndsAt events client k → ⊥
    none_of at no_return no_crash (inl (reply, returns)) = no_return reply (sym at ∙ returns)
    none_of at no_return no_crash (inr crash) = no_crash (sym at ∙ crash)

    go : (at : Option Event) → slice_get events k ≡ at → EndsAt events client k ⊎ (EndsAt events client k → ⊥)
    go None at = inr (none_of at (λ reply is. cc (is)) (λ is. cc (is)))
    go (Some (call_event other number call)) at = inr (none_of at (λ reply is. cc (is)) (λ is. cc (is)))
    go (Some (return_event other reply)) at = by (cases_eq other.0 client.0)
      where
        by : (other.0 ≡ client.0) ⊎ (other.0 ≡ client.0 → ⊥)
            → EndsAt events client k ⊎ (EndsAt events client k → ⊥)
        by (inl same) =
            inl (inl (reply, at ∙ ap (λ (n : ℕ). Some (return_event (record { 0 = n }) reply)) same))
        by (inr differ) = inr (none_of at (λ answer is. differ (cc (is))) (λ is. cc (is)))
    go (Some crash_event) at = inl (inr at)
    go (Some (ready_event told)) at = inr (none_of at (λ reply is. cc (is)) (λ is. cc (is)))

ends_within : (events : List Event) (client : Client) (k : ℕ) → EndsAt events client k → k < length events
ends_within events client k (inl (reply, returns)) = slice_get_within events k (return_event client reply) returns
ends_within events client k (inr crash) = slice_get_within events k crash_event crash

-- a client's call has an end, or none
pub record EndOf (events : List Event) (client : Client) (p : ℕ) : Type 0 where
  pub at : ℕ
  pub after : p < at
  pub within : at ≤ length events
  pub how : IsEnd events client p at
      ⊎ ((at ≡ length events) × ((k : ℕ) → p < k → EndsAt events client k → ⊥))

first_end : (events : List Event) (client : Client) (p c k : ℕ) → p < k → HasNoEnd events client p k
    → k + c ≡ length events → EndOf events client p
first_end events client p zero k lt fail all = record {
  at = k;
  after = lt;
  within = omega (arith, all);
  how = inr (
    omega (arith, all),
    (λ j after ends.
        let below : j < length events = ends_within events client j ends in fail j after (omega (arith, below, all)) ends),
  );
}
first_end events client p (suc c) k lt fail all =
    go (ends_or events client k)
    (λ more. first_end events client p c (suc k) (omega (arith, lt)) more (omega (arith, all)))
  where
    go : EndsAt events client k ⊎ (EndsAt events client k → ⊥)
        → (HasNoEnd events client p (suc k) → EndOf events client p) → EndOf events client p
    go (inl ends) again = record {
      at = k;
      after = lt;
      within = omega (arith, all);
      how = inl (record { after = lt; ends = ends; first = fail });
    }
    go (inr not) again = again (λ j low high ends. by j low high ends (cases_lt j k))
      where
        by : (j : ℕ) → p < j → j < suc k → EndsAt events client j → (j < k) ⊎ (k ≤ j) → ⊥
        by j low high ends (inl less) = fail j low less ends
        by j low high ends (inr more) =
            let same : j ≡ k = omega (arith, high, more) in not (subst (EndsAt events client) same ends)

end_of : (events : List Event) (client : Client) (p : ℕ) → p < length events → EndOf events client p
end_of events client p lt = go (rest (suc p) (length events) lt)
  where
    rest : (a b : ℕ) → a ≤ b → (c : ℕ) × (a + c ≡ b)
    rest zero b le = (b, omega arith)
    rest (suc a) b le =
        let was : (c : ℕ) × (a + c ≡ b) = rest a b (omega (arith, le)) in (was.0 - 1, omega (arith, was.1, le))

    go : (c : ℕ) × (suc p + c ≡ length events) → EndOf events client p
    go (c, all) = first_end events client p c (suc p) (omega arith) (λ k low high. absurd (omega (arith, low, high))) all

-- where the call that begins at a place ends, and the length where it does not, or none begins
pub record PlaceEnd (events : List Event) (p : ℕ) : Type 0 where
  pub at : ℕ
  pub after : p < length events → p < at
  pub within : at ≤ length events
  pub how : (client : Client) → BeginsAt events client p → IsEnd events client p at
      ⊎ ((at ≡ length events) × ((k : ℕ) → p < k → EndsAt events client k → ⊥))
  pub none : call_at events p ≡ None → at ≡ length events

pub place_end : (events : List Event) (p : ℕ) → PlaceEnd events p
place_end events p = go (call_here_or events p)
  where
    go : CallHere events p ⊎ (call_at events p ≡ None) → PlaceEnd events p
    go (inl here) =
        let lt : p < length events = slice_get_within events p (call_event here.client here.number here.call) here.at in
        let is : EndOf events here.client p = end_of events here.client p lt in
        record {
          at = is.at;
          after = λ below. is.after;
          within = is.within;
          how = λ client begins.
              let same : here.client ≡ client =
              same_client events p here.client client (here.number, (here.call, here.at)) begins in
              subst (λ (c : Client). IsEnd events c p is.at
              ⊎ ((is.at ≡ length events) × ((k : ℕ) → p < k → EndsAt events c k → ⊥))) same is.how;
          none = λ fail. absurd (let both : Some here.call ≡ None = sym (ap call_of here.at) ∙ fail in cc (both));
        }
    go (inr fail) = record {
      at = length events;
      after = λ below. below;
      within = omega arith;
      how = λ client begins. absurd (let is : (call : Call) × (call_at events p ≡ Some call) =
          call_begins events p client begins in
          let both : Some is.0 ≡ None = sym is.1 ∙ fail in cc (both));
      none = λ fail_too. refl;
    }

abbrev pub end_at : List Event → ℕ → ℕ
end_at events p = (place_end events p).at

one_end : (events : List Event) (client : Client) (p d e : ℕ) → IsEnd events client p d → IsEnd events client p e
    → d ≡ e
one_end events client p d e one other = go (cases_lt d e) (cases_lt e d)
  where
    go : (d < e) ⊎ (e ≤ d) → (e < d) ⊎ (d ≤ e) → d ≡ e
    go (inl less) side = absurd (other.first d one.after less one.ends)
    go (inr le) (inl less) = absurd (one.first e other.after less other.ends)
    go (inr le) (inr more) = omega (arith, le, more)

-- the end of a call is that place
pub end_is : (events : List Event) (client : Client) (p e : ℕ) → BeginsAt events client p → IsEnd events client p e
    → end_at events p ≡ e
end_is events client p e begins ends = go ((place_end events p).how client begins)
  where
    go : IsEnd events client p (end_at events p)
        ⊎ ((end_at events p ≡ length events) × ((k : ℕ) → p < k → EndsAt events client k → ⊥))
        → end_at events p ≡ e
    go (inl is) = one_end events client p (end_at events p) e is ends
    go (inr fail) = absurd (fail.1 e ends.after ends.ends)

-- a call without one ends behind all
pub end_none : (events : List Event) (client : Client) (p : ℕ) → BeginsAt events client p
    → ((k : ℕ) → p < k → k < length events → EndsAt events client k → ⊥) → length events ≡ end_at events p
end_none events client p begins fail = go ((place_end events p).how client begins)
  where
    go : IsEnd events client p (end_at events p)
        ⊎ ((end_at events p ≡ length events) × ((k : ℕ) → p < k → EndsAt events client k → ⊥))
        → length events ≡ end_at events p
    go (inl is) = absurd (fail (end_at events p) is.after (ends_within events client (end_at events p) is.ends) is.ends)
    go (inr none) = sym none.0

pub is_end : (events : List Event) (client : Client) (p : ℕ) → BeginsAt events client p
    → end_at events p < length events → IsEnd events client p (end_at events p)
is_end events client p begins lt = go ((place_end events p).how client begins)
  where
    go : IsEnd events client p (end_at events p)
        ⊎ ((end_at events p ≡ length events) × ((k : ℕ) → p < k → EndsAt events client k → ⊥))
        → IsEnd events client p (end_at events p)
    go (inl is) = is
    go (inr fail) = absurd (omega (arith, lt, fail.0))

pub precedes_from : (events : List Event) (p b : ℕ) (call : Call) → call_at events p ≡ Some call
    → b ≤ length events → end_at events p < b → Precedes events p b
precedes_from events p b call is le lt =
    let begins : (client : Client) × BeginsAt events client p = begins_call events p call is in
    record {
      client = begins.0;
      begins = begins.1;
      end = end_at events p;
      ends = is_end events begins.0 p begins.1 (omega (arith, le, lt));
      before = lt;
    }

pub precedes_to : (events : List Event) (p b : ℕ) → Precedes events p b → end_at events p < b
precedes_to events p b is =
    let same : end_at events p ≡ is.end = end_is events is.client p is.end is.begins is.ends in
    omega (arith, same, is.before)

pub over_from : (events : List Event) (p e : ℕ) (call : Call) → call_at events p ≡ Some call
    → e < length events → end_at events p ≤ e → IsOverBy events p e
over_from events p e call is lt le =
    let begins : (client : Client) × BeginsAt events client p = begins_call events p call is in
    record {
      client = begins.0;
      begins = begins.1;
      end = end_at events p;
      ends = is_end events begins.0 p begins.1 (omega (arith, le, lt));
      by = le;
    }

-- a call is over by its end, or that is behind all
pub over_or_all : (events : List Event) (p : ℕ) (call : Call) → call_at events p ≡ Some call
    → IsOverBy events p (end_at events p) ⊎ (length events ≤ end_at events p)
over_or_all events p call is = go (cases_lt (end_at events p) (length events))
  where
    go : (end_at events p < length events) ⊎ (length events ≤ end_at events p)
        → IsOverBy events p (end_at events p) ⊎ (length events ≤ end_at events p)
    go (inl lt) = inl (over_from events p (end_at events p) call is lt (omega arith))
    go (inr le) = inr le

-- what is known of a call
pub record NothingKnown (events : List Event) (learnt : List (Option Outcome)) (p : ℕ) : Type 0 where
  pub no_reply : (reply : Reply) → IsKnown events learnt p reply → ⊥
  pub not_refused : IsLearnt learnt p NotTaken → ⊥

pub data Knowledge (events : List Event) (learnt : List (Option Outcome)) (p : ℕ) : Type 0 where
  replied : (reply : Reply) → IsKnown events learnt p reply → Knowledge events learnt p
  refused : IsLearnt learnt p NotTaken → Knowledge events learnt p
  unknown : NothingKnown events learnt p → Knowledge events learnt p

pub return_is : (events : List Event) (p e : ℕ) (client : Client) (reply : Reply) → BeginsAt events client p
    → IsEnd events client p e → IsReturned events p reply → ReturnAt events e client reply
return_is events p e client reply begins ends is =
    let same : is.client ≡ client = same_client events p is.client client is.begins begins in
    let its_end : IsEnd events client p is.end = subst (λ (c : Client). IsEnd events c p is.end) same is.ends in
    let place : is.end ≡ e = one_end events client p is.end e its_end ends in
    subst (λ (c : Client). ReturnAt events e c reply) same
    (subst (λ (k : ℕ). ReturnAt events k is.client reply) place is.returns)

pub knowledge : (events : List Event) (learnt : List (Option Outcome)) (p : ℕ) → Knowledge events learnt p
knowledge events learnt p = go (slice_get learnt p) refl
  where
    not_learnt : ((outcome : Outcome) → IsLearnt learnt p outcome → ⊥)
        → ((reply : Reply) → IsReturned events p reply → ⊥) → Knowledge events learnt p
    not_learnt none_learnt none_returned = unknown (record {
      no_reply = no_reply;
      not_refused = none_learnt NotTaken;
    })
      where
        no_reply : (reply : Reply) → IsKnown events learnt p reply → ⊥
        no_reply reply (inl returned) = none_returned reply returned
        no_reply reply (inr heard) = none_learnt (Taken reply) heard

    by_end : (here : CallHere events p) → ((outcome : Outcome) → IsLearnt learnt p outcome → ⊥)
        → IsEnd events here.client p (end_at events p)
        ⊎ ((end_at events p ≡ length events) × ((k : ℕ) → p < k → EndsAt events here.client k → ⊥))
        → Knowledge events learnt p
    by_end here none_learnt (inr fail) = not_learnt none_learnt (λ reply is.
        let same : is.client ≡ here.client =
        same_client events p is.client here.client is.begins (here.number, (here.call, here.at)) in
        fail.1 is.end is.ends.after (subst (λ (c : Client). EndsAt events c is.end) same is.ends.ends))
    by_end here none_learnt (inl ends) = by ends.ends
      where
        by : EndsAt events here.client (end_at events p) → Knowledge events learnt p
        by (inl (reply, returns)) = replied reply (inl (record {
          client = here.client;
          begins = (here.number, (here.call, here.at));
          end = end_at events p;
          ends = ends;
          returns = returns;
        }))
        by (inr crash) = not_learnt none_learnt (λ reply is.
            let returns : ReturnAt events (end_at events p) here.client reply =
            return_is events p (end_at events p) here.client reply (here.number, (here.call, here.at)) ends is in
            let both : Some (return_event here.client reply) ≡ Some crash_event = sym returns ∙ crash in cc (both))

    by_call : CallHere events p ⊎ (call_at events p ≡ None) → ((outcome : Outcome) → IsLearnt learnt p outcome → ⊥)
        → Knowledge events learnt p
    by_call (inl here) none_learnt =
        by_end here none_learnt ((place_end events p).how here.client (here.number, (here.call, here.at)))
    by_call (inr fail) none_learnt = not_learnt none_learnt (λ reply is.
        let its : (call : Call) × (call_at events p ≡ Some call) = call_begins events p is.client is.begins in
        let both : Some its.0 ≡ None = sym its.1 ∙ fail in cc (both))

    go : (at : Option (Option Outcome)) → slice_get learnt p ≡ at → Knowledge events learnt p
    go (Some (Some (Taken reply))) at = replied reply (inr at)
    go (Some (Some NotTaken)) at = refused at
    go (Some None) at = by_call (call_here_or events p)
        (λ outcome heard. let both : ◌≡◌ {A = Option (Option Outcome)} (Some None) (Some (Some outcome)) = sym at ∙ heard in cc (both))
    go None at = by_call (call_here_or events p)
        (λ outcome heard. let both : ◌≡◌ {A = Option (Option Outcome)} None (Some (Some outcome)) = sym at ∙ heard in cc (both))

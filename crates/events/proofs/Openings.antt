-- Calls that have no end yet.
use Rattle.std.proofs.Common.{ℕ, ◌≡◌, ◌<◌, ◌≤◌, List, [], ◌∷◌, ◌++◌, Some, slice_get, length, inr, refl, arith, subst}
use Rattle.std.proofs.Common.{sym, ◌∙◌, ⊎_elim}
use Rattle.std.specs.Prelude.{⊤}
use Rattle.std.proofs.lemmas.Bool.{cases_lt}
use Rattle.std.proofs.lemmas.List.{length_push}
use Rattle.std.proofs.lemmas.Option.{same_Some}
use Rattle.words.specs.declared.call.Client.{Client}
use Rattle.events.specs.declared.event.Effect.{Effect}
use Rattle.events.specs.declared.event.Event.{Event}
use Rattle.events.specs.declared.event.Event.TheVariants.{Call as call_event, Return as return_event}
use Rattle.events.specs.declared.event.Event.TheVariants.{Crash as crash_event, Ready as ready_event}
use Rattle.events.specs.History.{BeginsAt, EndsAt, IsOpenFrom, IsDown, MayStand}
use Rattle.events.specs.Trace.{IsEffect, IsPending}
use Rattle.events.proofs.Lists.{get_last}
use Rattle.events.proofs.Growing.{begins_longer, begins_within, no_end_longer, ends_before, open_less}

-- the event ends a call of the client
abbrev pub EndsBy : Event → Client → Type 0
EndsBy (call_event client number call) other = ⊥
EndsBy (return_event client reply) other = client ≡ other
EndsBy crash_event other = ⊤
EndsBy (ready_event told) other = ⊥

same_last : (events : List Event) (event other : Event)
    → slice_get (events ++ event ∷ []) (length events) ≡ Some other → other ≡ event
same_last events event other at = same_Some other event (sym at ∙ get_last events event)

-- so it does where it is the last
pub ends_by_last : (events : List Event) (event : Event) (client : Client)
    → EndsAt (events ++ event ∷ []) client (length events) → EndsBy event client
ends_by_last events event client ends =
    ⊎_elim
    (λ returned. subst (λ (e : Event). EndsBy e client) (same_last events event _ returned.1) refl)
    (λ crash. subst (λ (e : Event). EndsBy e client) (same_last events event _ crash) tt)
    ends

-- a call without an end has none after another event that ends none of its client
pub open_push : (events : List Event) (event : Event) (client : Client) (p : ℕ) → (EndsBy event client → ⊥)
    → IsOpenFrom events client (length events) p
    → IsOpenFrom (events ++ event ∷ []) client (length (events ++ event ∷ [])) p
open_push events event client p other open_from = record {
  begins = begins_longer events (event ∷ []) client p open_from.begins;
  no_end = λ k low high ends.
      ⊎_elim
      (λ lt. open_from.no_end k low lt (ends_before events (event ∷ []) client k lt ends))
      (λ le.
      let last : k ≡ length events = omega (arith, length_push events event) in
      other (ends_by_last events event client (subst (EndsAt (events ++ event ∷ []) client) last ends)))
      (cases_lt k (length events));
}

-- so an effect that does not count yet is pending still
pub pending_push : (events : List Event) (event : Event) (effect : Effect)
    → (pending : IsPending events effect) → (EndsBy event pending.client → ⊥)
    → IsPending (events ++ event ∷ []) effect
pending_push events event effect pending other = record {
  empty = pending.empty;
  client = pending.client;
  open_from = open_push events event pending.client effect.place other pending.open_from;
}

-- an effect is one still when there are more events
pub effect_longer : (events more : List Event) (effect : Effect) → length events ≤ length (events ++ more)
    → IsEffect events effect → IsEffect (events ++ more) effect
effect_longer events more effect le is = record {
  client = is.client;
  within = record {
    begins = begins_longer events more is.client effect.place is.within.begins;
    no_end = no_end_longer events more is.client effect.place effect.moment is.before is.within.no_end;
  };
  after = is.after;
  before = omega (arith, is.before, le);
}

-- a client has no two calls without an end
pub no_two_open : (events : List Event)
    → ((p : ℕ) (event : Event) → slice_get events p ≡ Some event → MayStand events p event)
    → (client : Client) (n p q : ℕ) → IsOpenFrom events client n p → IsOpenFrom events client n q → q < n
    → p < q → ⊥
no_two_open events places client n p q one two within lt =
    (places q _ two.begins.1.1).1.0 (record {
      place = p;
      before = lt;
      open_from = open_less events client n q p (omega arith) one;
    })

pub open_once : (events : List Event)
    → ((p : ℕ) (event : Event) → slice_get events p ≡ Some event → MayStand events p event)
    → (client : Client) (p q : ℕ) → IsOpenFrom events client (length events) p
    → IsOpenFrom events client (length events) q → p ≡ q
open_once events places client p q one two =
    ⊎_elim
    (λ lt. absurd (no_two_open events places client (length events) p q one two
    (begins_within events client q two.begins) lt))
    (λ le. ⊎_elim
    (λ lt. absurd (no_two_open events places client (length events) q p two one
    (begins_within events client p one.begins) lt))
    (λ other. omega arith)
    (cases_lt q p))
    (cases_lt p q)

-- nor does the system lie between a Crash and the next Ready while a call has no end
pub open_not_down : (events : List Event)
    → ((p : ℕ) (event : Event) → slice_get events p ≡ Some event → MayStand events p event)
    → (client : Client) (p : ℕ) → IsOpenFrom events client (length events) p → IsDown events (length events)
    → ⊥
open_not_down events places client p open_from down =
    ⊎_elim
    (λ lt. open_from.no_end down.place lt down.before (inr down.crash))
    (λ le. ⊎_elim
    (λ lt. (places p _ open_from.begins.1.1).1.1 (record {
      place = down.place;
      before = lt;
      crash = down.crash;
      no_ready = λ k told low high. down.no_ready k told low
          (let within : p < length events = begins_within events client p open_from.begins in omega arith);
    }))
    (λ other.
    let same : p ≡ down.place = omega arith in
    let begins : BeginsAt events client down.place =
    subst (λ (n : ℕ). BeginsAt events client n) same open_from.begins in
    cc (begins.1.1, down.crash))
    (cases_lt down.place p))
    (cases_lt p down.place)

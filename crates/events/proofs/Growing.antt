-- What stays of a history when events are added at its end.
use Rattle.std.proofs.Common.{ℕ, zero, suc, ◌≡◌, ◌<◌, ◌≤◌, List, [], ◌∷◌, ◌++◌, Some, slice_get, length, inl, inr}
use Rattle.std.proofs.Common.{arith, subst, sym, ⊎_elim}
use Rattle.std.proofs.lemmas.Option.{slice_get_within}
use Rattle.words.specs.declared.call.Call.{Call}
use Rattle.words.specs.declared.call.Client.{Client}
use Rattle.events.specs.declared.event.Event.{Event}
use Rattle.events.specs.declared.event.Event.TheVariants.{Call as call_event, Return as return_event}
use Rattle.events.specs.declared.event.Event.TheVariants.{Crash as crash_event, Ready as ready_event}
use Rattle.events.specs.History.{BeginsAt, EndsAt, HasNoEnd, IsEnd, IsOpenFrom, IsUnderWay, IsDown, MayStand}
use Rattle.events.specs.Replay.{call_at}
use Rattle.events.proofs.Lists.{get_longer, get_before, get_push_cases}

-- a call that began somewhere begins there still, and the other way round at an old place
pub begins_longer : (events more : List Event) (client : Client) (p : ℕ) → BeginsAt events client p
    → BeginsAt (events ++ more) client p
begins_longer events more client p begins = (begins.0, (begins.1.0, get_longer events more p _ begins.1.1))

pub begins_before : (events more : List Event) (client : Client) (p : ℕ) → p < length events
    → BeginsAt (events ++ more) client p → BeginsAt events client p
begins_before events more client p lt begins = (begins.0, (begins.1.0, get_before events more p _ lt begins.1.1))

-- a call begins at a place of the history
pub begins_within : (events : List Event) (client : Client) (p : ℕ) → BeginsAt events client p → p < length events
begins_within events client p begins = slice_get_within events p _ begins.1.1

-- what ended calls ends them still, and the other way round
pub ends_longer : (events more : List Event) (client : Client) (p : ℕ) → EndsAt events client p
    → EndsAt (events ++ more) client p
ends_longer events more client p ends = ⊎_elim (λ returned. inl (returned.0, get_longer events more p _ returned.1))
    (λ crash. inr (get_longer events more p _ crash)) ends

pub ends_before : (events more : List Event) (client : Client) (p : ℕ) → p < length events
    → EndsAt (events ++ more) client p → EndsAt events client p
ends_before events more client p lt ends = ⊎_elim
    (λ returned. inl (returned.0, get_before events more p _ lt returned.1))
    (λ crash. inr (get_before events more p _ lt crash)) ends

-- a call without an end up to an old place has none still, and the other way round
pub no_end_longer : (events more : List Event) (client : Client) (p q : ℕ) → q ≤ length events
    → HasNoEnd events client p q → HasNoEnd (events ++ more) client p q
no_end_longer events more client p q le none k low high ends =
    none k low high (ends_before events more client k (omega arith) ends)

pub no_end_before : (events more : List Event) (client : Client) (p q : ℕ)
    → HasNoEnd (events ++ more) client p q → HasNoEnd events client p q
no_end_before events more client p q none k low high ends = none k low high (ends_longer events more client k ends)

-- an end is an end still, and one that stands at an old place was one
pub is_end_longer : (events more : List Event) (client : Client) (p e : ℕ) → e < length events
    → IsEnd events client p e → IsEnd (events ++ more) client p e
is_end_longer events more client p e lt end = record {
  after = end.after;
  ends = ends_longer events more client e end.ends;
  first = no_end_longer events more client p e (omega arith) end.first;
}

pub is_end_before : (events more : List Event) (client : Client) (p e : ℕ) → e < length events
    → IsEnd (events ++ more) client p e → IsEnd events client p e
is_end_before events more client p e lt end = record {
  after = end.after;
  ends = ends_before events more client e lt end.ends;
  first = no_end_before events more client p e end.first;
}

-- a call that is open up to an old place
pub open_longer : (events more : List Event) (client : Client) (p q : ℕ) → p ≤ length events
    → IsOpenFrom events client p q → IsOpenFrom (events ++ more) client p q
open_longer events more client p q le open_from = record {
  begins = begins_longer events more client q open_from.begins;
  no_end = no_end_longer events more client q p le open_from.no_end;
}

pub open_before : (events more : List Event) (client : Client) (p q : ℕ) → q < length events
    → IsOpenFrom (events ++ more) client p q → IsOpenFrom events client p q
open_before events more client p q lt open_from = record {
  begins = begins_before events more client q lt open_from.begins;
  no_end = no_end_before events more client q p open_from.no_end;
}

-- open for longer is open for less
pub open_less : (events : List Event) (client : Client) (p r q : ℕ) → r ≤ p → IsOpenFrom events client p q
    → IsOpenFrom events client r q
open_less events client p r q le open_from = record {
  begins = open_from.begins;
  no_end = λ k low high ends. open_from.no_end k low (omega arith) ends;
}

pub under_way_longer : (events more : List Event) (client : Client) (p : ℕ) → p ≤ length events
    → IsUnderWay events client p → IsUnderWay (events ++ more) client p
under_way_longer events more client p le way = record {
  place = way.place;
  before = way.before;
  open_from = open_longer events more client p way.place le way.open_from;
}

pub under_way_before : (events more : List Event) (client : Client) (p : ℕ) → p ≤ length events
    → IsUnderWay (events ++ more) client p → IsUnderWay events client p
under_way_before events more client p le way = record {
  place = way.place;
  before = way.before;
  open_from = open_before events more client p way.place (omega (arith, way.before)) way.open_from;
}

pub down_before : (events more : List Event) (p : ℕ) → p ≤ length events → IsDown (events ++ more) p → IsDown events p
down_before events more p le down = record {
  place = down.place;
  before = down.before;
  crash = get_before events more down.place _ (omega (arith, down.before)) down.crash;
  no_ready = λ k told low high ready. down.no_ready k told low high (get_longer events more k _ ready);
}

-- what might stand at an old place, or at the end, still may
pub may_stand_longer : (events more : List Event) (p : ℕ) (event : Event) → p ≤ length events
    → MayStand events p event → MayStand (events ++ more) p event
may_stand_longer events more p (call_event client number call) le may = (
  may.0,
  (
    (λ way. may.1.0 (under_way_before events more client p le way)),
    (λ down. may.1.1 (down_before events more p le down)),
  ),
)
may_stand_longer events more p (return_event client reply) le may =
    (under_way_longer events more client p le may.0, (λ down. may.1 (down_before events more p le down)))
may_stand_longer events more p crash_event le may = may
may_stand_longer events more p (ready_event told) le may = may

-- one more event, which may stand at the end
pub places_push : (events : List Event) (event : Event) → MayStand events (length events) event
    → ((p : ℕ) (e : Event) → slice_get events p ≡ Some e → MayStand events p e) → (p : ℕ) (e : Event)
    → slice_get (events ++ event ∷ []) p ≡ Some e → MayStand (events ++ event ∷ []) p e
places_push events event last places p e at =
    ⊎_elim
    (λ old. let lt : p < length events = slice_get_within events p e old in
    may_stand_longer events (event ∷ []) p e (omega arith) (places p e old))
    (λ new. subst (λ (q : ℕ). MayStand (events ++ event ∷ []) q e) (sym new.0)
    (subst (MayStand (events ++ event ∷ []) (length events)) new.1
    (may_stand_longer events (event ∷ []) (length events) event (omega arith) last)))
    (get_push_cases events event p e at)

-- the call at a place is the same call still
pub call_at_longer : (events more : List Event) (p : ℕ) (call : Call) → call_at events p ≡ Some call
    → call_at (events ++ more) p ≡ Some call
call_at_longer [] more p call e = cc
call_at_longer (event ∷ events) more zero call e = e
call_at_longer (event ∷ events) more (suc p) call e = call_at_longer events more p call e

-- A trace with one more event.
use Rattle.std.proofs.Common.{ℕ, ◌≡◌, ◌<◌, ◌+◌, true, false, List, [], ◌∷◌, ◌++◌, length, ap, arith, subst, sym, ◌∙◌}
use Rattle.std.proofs.Common.{⊎_elim}
use Rattle.std.specs.Prelude.{All, Contains}
use Rattle.std.proofs.lemmas.List.{length_push}
use Rattle.std.proofs.lemmas.List.Elements.{All-weaker, All-contains, All-contains_itself}
use Rattle.std.proofs.lemmas.Option.{slice_get_within}
use Rattle.words.specs.PlainQueue.{Value}
use Rattle.words.specs.declared.call.Call.{Call}
use Rattle.words.specs.declared.call.Client.{Client}
use Rattle.words.specs.declared.call.Kind.{Kind}
use Rattle.words.specs.declared.call.Reply.{Reply}
use Rattle.words.specs.declared.told.Told.{Told}
use Rattle.events.specs.declared.event.Effect.{Effect}
use Rattle.events.specs.declared.event.Event.{Event}
use Rattle.events.specs.declared.event.Event.TheVariants.{Call as call_event, Return as return_event}
use Rattle.events.specs.declared.event.Event.TheVariants.{Crash as crash_event, Ready as ready_event}
use Rattle.events.specs.declared.event.Entry.{Entry}
use Rattle.events.specs.Effects.{order_of}
use Rattle.events.specs.History.{HasNoEnd, IsOpenFrom, IsUnderWay, IsDown, MayStand}
use Rattle.events.specs.Trace.{IsTrace, IsNumberOf, IsEffect, IsPending, entries_of}
use Rattle.events.specs.Orders.{IsTakenAs}
use Rattle.events.specs.Telling.{TellsRightly}
use Rattle.events.proofs.Lists.{get_push_cases}
use Rattle.events.proofs.Members.{in_from_contains, same_by_number}
use Rattle.events.proofs.Growing.{begins_within, begins_before, no_end_before, is_end_before, open_before, open_less}
use Rattle.events.proofs.Growing.{places_push}
use Rattle.events.proofs.GrowingTold.{rightly_longer, more_by_none}
use Rattle.events.proofs.GrowingReplay.{runs_from_replays, replays_from_runs, runs_longer}
use Rattle.events.proofs.EffectLists.{IsOfEffect, effect_of_entry}
use Rattle.events.proofs.Openings.{EndsBy, effect_longer, pending_push, open_once, open_not_down}

-- what a Ready at the end tells: sixteen clients, rightly, while no call has no end
pub record IsToldNow (kind : Kind) (told : List Told) (events : List Event) (order : List Entry)
    (tells : List Told) : Type 0 where
  pub sixteen : length tells ≡ 16
  pub rightly : TellsRightly kind told events order (length events) tells
  pub idle : (client : Client) (p : ℕ) → IsOpenFrom events client (length events) p → ⊥

-- what an event at the end of a trace has to be
pub record IsNextEvent (kind : Kind) (told : List Told) (events : List Event) (effects : List Effect)
    (event : Event) : Type 0 where
  pub stands : MayStand events (length events) event
  pub number : (client : Client) (number : ℕ) (call : Call) → event ≡ call_event client number call
      → IsNumberOf kind number
  pub pending : All (λ effect. effect.settled ≡ false → IsPending (events ++ event ∷ []) effect) effects
  pub answer : (client : Client) (reply : Reply) (p : ℕ) → event ≡ return_event client reply
      → IsOpenFrom events client (length events) p → IsTakenAs (order_of effects) p reply
  pub ready : (tells : List Told) → event ≡ ready_event tells → IsToldNow kind told events (order_of effects) tells

-- an event that is so keeps a trace
pub trace_push : (kind : Kind) (base : List Value) (told : List Told) (events : List Event) (effects : List Effect)
    (event : Event)
    → IsTrace kind base told events effects → IsNextEvent kind told events effects event
    → IsTrace kind base told (events ++ event ∷ []) effects
trace_push kind base told events effects event trace next =
    let longer : length (events ++ event ∷ []) ≡ length events + 1 = length_push events event in
    record {
      places = places_push events event next.stands trace.places;
      numbers = λ p number client call at.
          ⊎_elim (λ old. trace.numbers p number client call old) (λ new. next.number client number call new.1)
          (get_push_cases events event p _ at);
      within = All-weaker (λ x. IsEffect events x) (λ x. IsEffect (events ++ event ∷ []) x)
          (λ x is. effect_longer events (event ∷ []) x (omega (arith, longer)) is) effects trace.within;
      once = trace.once;
      ascending = trace.ascending;
      pending = next.pending;
      replays = replays_from_runs (events ++ event ∷ []) base (entries_of effects)
          (runs_longer events (event ∷ []) base (entries_of effects)
          (runs_from_replays events base (entries_of effects) trace.replays));
      answers = λ p lt. record {
        taken = λ e client reply begins end returned.
            ⊎_elim
            (λ old.
            let e_lt : e < length events = slice_get_within events e _ old in
            let p_lt : p < length events = omega (arith, end.after) in
            (trace.answers p p_lt).taken e client reply (begins_before events (event ∷ []) client p p_lt begins)
            (is_end_before events (event ∷ []) client p e e_lt end) old)
            (λ new.
            let p_lt : p < length events = omega (arith, end.after, new.0) in
            next.answer client reply p new.1 (record {
              begins = begins_before events (event ∷ []) client p p_lt begins;
              no_end = subst (HasNoEnd events client p) new.0 (no_end_before events (event ∷ []) client p e end.first);
            }))
            (get_push_cases events event e _ returned);
      };
      sixteen = λ q tells at. ⊎_elim (λ old. trace.sixteen q tells old) (λ new. (next.ready tells new.1).sixteen)
          (get_push_cases events event q _ at);
      tells = λ q lt. record {
        told = λ tells at.
            ⊎_elim
            (λ old.
            let within : q < length events = slice_get_within events q _ old in
            rightly_longer kind told events (event ∷ []) q (order_of effects) (order_of effects) q tells
            (omega arith) (omega arith) (more_by_none q (order_of effects)) ((trace.tells q within).told tells old))
            (λ new.
            let here : TellsRightly kind told (events ++ event ∷ []) (order_of effects) (length events) tells =
            rightly_longer kind told events (event ∷ []) (length events) (order_of effects) (order_of effects)
            (length events) tells (omega arith) (omega arith) (more_by_none (length events) (order_of effects))
            (next.ready tells new.1).rightly in
            subst (λ (n : ℕ). TellsRightly kind told (events ++ event ∷ []) (order_of effects) n tells)
            (sym new.0) here)
            (get_push_cases events event q _ at);
      };
      fresh = λ q lt. record {
        fresh = λ tells client p at before open_from.
            let p_lt : p < length events = omega (arith, longer) in
            let still : IsOpenFrom events client (length events) p =
            open_less events client (length (events ++ event ∷ [])) (length events) p (omega (arith, longer))
            (open_before events (event ∷ []) client (length (events ++ event ∷ [])) p p_lt open_from) in
            ⊎_elim
            (λ old. (trace.fresh q (slice_get_within events q _ old)).fresh tells client p old before still)
            (λ new. (next.ready tells new.1).idle client p still)
            (get_push_cases events event q _ at);
      };
    }

-- where an event ends no call, pending effects stay so
pending_all : (kind : Kind) (base : List Value) (told : List Told) (events : List Event) (effects : List Effect)
    (event : Event)
    → IsTrace kind base told events effects → ((client : Client) → EndsBy event client → ⊥)
    → All (λ effect. effect.settled ≡ false → IsPending (events ++ event ∷ []) effect) effects
pending_all kind base told events effects event trace none =
    All-weaker (λ x. x.settled ≡ false → IsPending events x)
    (λ x. x.settled ≡ false → IsPending (events ++ event ∷ []) x)
    (λ x is s. let pending : IsPending events x = is s in
    pending_push events event x pending (none pending.client)) effects trace.pending

-- the number of a Call is one of the kind; what a Ready tells is told now
abbrev pub IsNumberIn : Kind → Event → Type 0
IsNumberIn kind (call_event client number call) = IsNumberOf kind number
IsNumberIn kind (return_event client reply) = ⊥
IsNumberIn kind crash_event = ⊥
IsNumberIn kind (ready_event told) = ⊥

abbrev pub IsToldAt : Kind → List Told → List Event → List Effect → Event → Type 0
IsToldAt kind told events effects (call_event client number call) = ⊥
IsToldAt kind told events effects (return_event client reply) = ⊥
IsToldAt kind told events effects crash_event = ⊥
IsToldAt kind told events effects (ready_event tells) = IsToldNow kind told events (order_of effects) tells

-- a client that has no call under way calls
pub called : (kind : Kind) (base : List Value) (told : List Told) (events : List Event) (effects : List Effect)
    (client : Client) (number : ℕ) (call : Call)
    → IsTrace kind base told events effects → client.0 < 16 → (IsUnderWay events client (length events) → ⊥)
    → (IsDown events (length events) → ⊥) → IsNumberOf kind number
    → IsTrace kind base told (events ++ call_event client number call ∷ []) effects
called kind base told events effects client number call trace small idle up right =
    trace_push kind base told events effects (call_event client number call) trace (record {
      stands = (small, (idle, up));
      number = λ other n c same. subst (λ (e : Event). IsNumberIn kind e) same right;
      pending = pending_all kind base told events effects (call_event client number call) trace (λ other ends. ends);
      answer = λ other reply p same open_from. cc same;
      ready = λ tells same. cc same;
    })

-- a call is answered, with the reply with which it is in the order
pub answered : (kind : Kind) (base : List Value) (told : List Told) (events : List Event) (effects : List Effect)
    (client : Client) (reply : Reply) (p : ℕ)
    → IsTrace kind base told events effects → IsOpenFrom events client (length events) p
    → IsTakenAs (order_of effects) p reply
    → IsTrace kind base told (events ++ return_event client reply ∷ []) effects
answered kind base told events effects client reply p trace open_from taken =
    let here : (q : ℕ) → IsOpenFrom events client (length events) q
    → p ≡ q = λ q other. open_once events trace.places client p q open_from other in
    let of : IsOfEffect effects (record { place = p; reply = reply }) =
    effect_of_entry effects (record { place = p; reply = reply }) (in_from_contains (order_of effects) _ taken) in
    trace_push kind base told events effects (return_event client reply) trace (record {
      stands = (
        record {
          place = p;
          before = begins_within events client p open_from.begins;
          open_from = open_from;
        },
        (λ down. open_not_down events trace.places client p open_from down),
      );
      number = λ other n c same. cc same;
      pending = All-weaker (Contains effects)
          (λ x. x.settled ≡ false → IsPending (events ++ return_event client reply ∷ []) x) (λ x contained not.
          let pending : IsPending events x =
          All-contains (λ e. e.settled ≡ false → IsPending events e) effects x trace.pending contained not in
          pending_push events (return_event client reply) x pending (λ same.
          let still : IsOpenFrom events client (length events) x.place =
          subst (λ (c : Client). IsOpenFrom events c (length events) x.place) (sym same) pending.open_from in
          let one : of.effect ≡ x = same_by_number
          (λ (e : Effect). e.place) effects trace.once of.effect x of.contained contained
          (ap (λ (e : Entry). e.place) of.same ∙ here x.place still) in
          cc (of.settled, not, ap (λ (e : Effect). e.settled) one))) effects (All-contains_itself effects);
      answer = λ other r q same still.
          let same_client : client ≡ other = cc same in
          let same_reply : reply ≡ r = cc same in
          let one : p ≡ q = here q (subst (λ (c : Client). IsOpenFrom events c (length events) q)
          (sym same_client) still) in
          subst (λ (n : ℕ). IsTakenAs (order_of effects) n r) one
          (subst (IsTakenAs (order_of effects) p) same_reply taken);
      ready = λ tells same. cc same;
    })

-- everything stops; effects that do not count are left out before
pub crashed : (kind : Kind) (base : List Value) (told : List Told) (events : List Event) (effects : List Effect)
    → IsTrace kind base told events effects → All (λ x. x.settled ≡ true) effects
    → IsTrace kind base told (events ++ crash_event ∷ []) effects
crashed kind base told events effects trace settled =
    trace_push kind base told events effects crash_event trace (record {
      stands = tt;
      number = λ client n call same. cc same;
      pending = All-weaker (λ x. x.settled ≡ true)
          (λ x. x.settled ≡ false → IsPending (events ++ crash_event ∷ []) x)
          (λ x is not. cc (is, not)) effects settled;
      answer = λ client reply p same open_from. cc same;
      ready = λ tells same. cc same;
    })

-- recovery is done, and clients are told
pub ready : (kind : Kind) (base : List Value) (told : List Told) (events : List Event) (effects : List Effect)
    (tells : List Told)
    → IsTrace kind base told events effects → IsToldNow kind told events (order_of effects) tells
    → IsTrace kind base told (events ++ ready_event tells ∷ []) effects
ready kind base told events effects tells trace now =
    trace_push kind base told events effects (ready_event tells) trace (record {
      stands = tt;
      number = λ client n call same. cc same;
      pending = pending_all kind base told events effects (ready_event tells) trace (λ other ends. ends);
      answer = λ client reply p same open_from. cc same;
      ready = λ others same. subst (IsToldAt kind told events effects) same now;
    })

-- a trace begins without events and effects
pub begun : (kind : Kind) (base : List Value) (told : List Told) → IsTrace kind base told [] []
begun kind base told = record {
  places = λ p event at. cc at;
  numbers = λ p number client call at. cc at;
  within = λ k d lt. absurd (omega (arith, lt));
  once = λ i j d lt within. absurd (omega (arith, within));
  ascending = λ i j d lt within. absurd (omega (arith, within));
  pending = λ k d lt. absurd (omega (arith, lt));
  replays = λ i lt. absurd (omega (arith, lt));
  answers = λ p lt. absurd (omega (arith, lt));
  sixteen = λ q tells at. cc at;
  tells = λ q lt. absurd (omega (arith, lt));
  fresh = λ q lt. absurd (omega (arith, lt));
}

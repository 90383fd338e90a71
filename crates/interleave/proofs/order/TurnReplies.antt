-- A client in turn, whose call goes on alone, is answered as by the plain queue.
use Rattle.std.proofs.Common.{◌≡◌, ℕ, false, List, [], ◌∷◌, ◌++◌, Option, Some, None, Result, Ok, Err, slice_get, refl, sym, ap, ◌∙◌, subst, ◌<◌, ◌≤◌, ◌==◌, inl, inr, Bool, true, if◌then◌else◌, length, arith}
use Rattle.std.specs.Prelude.{IsSome}
use Rattle.std.proofs.lemmas.List.{append-nil, length_push}
use Rattle.std.proofs.lemmas.Option.{slice_get_within}
use Rattle.words.specs.PlainQueue.{reply_of, served, Value}
use Rattle.words.specs.declared.call.Call.{Call}
use Rattle.words.specs.declared.call.Client.{Client}
use Rattle.words.specs.declared.call.Reply.{Reply}
use Rattle.words.specs.declared.refusal.Refusal.{Refusal}
use Rattle.words.specs.declared.refusal.Refusal.TheVariants.{NoRoom, NoMemory}
use Rattle.words.specs.declared.told.Told.{Told}
use Rattle.events.specs.Explains.{Explains}
use Rattle.events.specs.History.{BeginsAt, IsUnderWay}
use Rattle.events.specs.Orders.{InOrder}
use Rattle.events.specs.Parts.{IsPartOf}
use Rattle.events.specs.Replay.{call_at, queue_after}
use Rattle.events.specs.declared.event.Entry.{Entry}
use Rattle.events.specs.declared.event.Event.{Event}
use Rattle.events.specs.declared.event.Event.TheVariants.{Call as call_event, Return as return_event}
use Rattle.events.proofs.Facts.{get_last, get_push_cases, open_before, open_less}
use Rattle.protocol.specs.declared.acts.Act.TheVariants.{Step}
use Rattle.protocol.specs.declared.UnderWay.{UnderWay}
use Rattle.interleave.specs.Calls.{waiting_result}
use Rattle.interleave.specs.Holds.{IsExplained}
use Rattle.interleave.specs.OneEvent.{return_events}
use Rattle.interleave.specs.Standing.{EndedCallsStay}
use Rattle.interleave.specs.State.{State, is_down, used_by, after_bump_load, after_call_began, number_to_start}
use Rattle.interleave.specs.State.{start_with, start_result_with, after_start, start_result, step_with, after_step}
use Rattle.interleave.specs.State.{step_result, kept_content, order_in}
use Rattle.interleave.specs.Turn.{IsInTurn, IsServedAlone, NobodyCalls}
use Rattle.interleave.proofs.machine.Acts.{act_adds_one}
use Rattle.interleave.proofs.order.Ends.{begins_as_it_is}
use Rattle.interleave.proofs.order.Standing.{ended_by_order, ended_then}
use Rattle.interleave.proofs.order.Turns.{begins_if_call, turn_served}

-- a step adds the Return of what it answers
pub step_adds : (w : State) (client : Client) (answer : Option Reply) → step_result false w client ≡ Ok answer
    → (after_step false w client).log.events ≡ w.log.events ++ return_events (Ok answer) client
step_adds w client answer is =
    act_adds_one w (Step client) ∙ ap (λ r. w.log.events ++ return_events r client) is

pub step_adds_none : (w : State) (client : Client) → step_result false w client ≡ Ok None
    → (after_step false w client).log.events ≡ w.log.events
step_adds_none w client is = step_adds w client None is ∙ append-nil w.log.events

-- a step leaves what the history began with
pub base_stepped : (w : State) (client : Client)
    → ((after_step false w client).base ≡ w.base) × ((after_step false w client).told ≡ w.told)
base_stepped w client = go (waiting_result (is_down w) (slice_get w.calls client.0))
  where
    go : (r : Result UnderWay Refusal)
        → ((step_with false w client r).base ≡ w.base) × ((step_with false w client r).told ≡ w.told)
    go (Err refusal) = (refl, refl)
    go (Ok u) = (refl, refl)

-- a call went on alone from the one world to the other, and did not answer yet
pub record WentOn (old now : State) : Type 0 where
  pub events : now.log.events ≡ old.log.events
  pub base : now.base ≡ old.base
  pub told : now.told ≡ old.told
  pub ended : EndedCallsStay old now

pub went_nowhere : (old now : State) → now ≡ old → WentOn old now
went_nowhere old now same = record {
  events = ap (λ (w : State). w.log.events) same;
  base = ap (λ (w : State). w.base) same;
  told = ap (λ (w : State). w.told) same;
  ended = ended_by_order old now (ap order_in same);
}

-- one step more
pub ended_on : (old now new : State) → WentOn old now → EndedCallsStay now new → EndedCallsStay old new
ended_on old now new went ended =
    ended_then old now new (begins_as_it_is old.log.events now.log.events went.events) went.ended ended

pub went_further : (old now new : State) (client : Client) → WentOn old now → new ≡ after_step false now client
    → step_result false now client ≡ Ok None → EndedCallsStay now new → WentOn old new
went_further old now new client went is answers ended = record {
  events = ap (λ (w : State). w.log.events) is ∙ step_adds_none now client answers ∙ went.events;
  base = ap (λ (w : State). w.base) is ∙ (base_stepped now client).0 ∙ went.base;
  told = ap (λ (w : State). w.told) is ∙ (base_stepped now client).1 ∙ went.told;
  ended = ended_on old now new went ended;
}

-- once the one call that was under way is answered, nobody calls
nobody_after : (events : List Event) (client : Client) (reply : Reply)
    → ((other : Client) → IsUnderWay events other (length events) → other ≡ client) → (other : Client)
    → IsUnderWay (events ++ return_event client reply ∷ []) other (length (events ++ return_event client reply ∷ [])) → ⊥
nobody_after events client reply alone other way =
    elim (get_push_cases events (return_event client reply) way.place _ way.open_from.begins.1.1) [
      | inl old ↦
          let within : way.place < length events = slice_get_within events way.place _ old in
          let longer = length_push events (return_event client reply) in
          let less = open_less (events ++ return_event client reply ∷ []) other (length (events ++ return_event client reply ∷ []))
          (length events) way.place (omega (arith, longer)) way.open_from in
          let same : other ≡ client = alone other (record {
            place = way.place;
            before = within;
            open_from = open_before events (return_event client reply ∷ []) other (length events) way.place within less;
          }) in
          way.open_from.no_end (length events) within (omega (arith, longer))
          (inl (
            reply,
            subst (λ (x : Client). slice_get (events ++ return_event client reply ∷ []) (length events) ≡ Some (return_event x reply))
                (sym same) (get_last events (return_event client reply)),
          ))
      | inr new ↦ absurd (cc (new.1))
    ]

-- in turn, and answered by the last step
pub answered_in_turn : (old now new : State) (client : Client) (call : Call) (reply : Reply) → IsInTurn old client call
    → IsExplained old → IsExplained new → WentOn old now → new ≡ after_step false now client
    → step_result false now client ≡ Ok (Some reply) → IsPartOf (order_in old) (order_in new)
    → EndedCallsStay now new
    → IsServedAlone old call reply new
answered_in_turn old now new client call reply turn was is went left answers part ended =
    let base : new.base ≡ old.base = ap (λ (w : State). w.base) left ∙ (base_stepped now client).0 ∙ went.base in
    let told : new.told ≡ old.told = ap (λ (w : State). w.told) left ∙ (base_stepped now client).1 ∙ went.told in
    let events : new.log.events ≡ old.log.events ++ return_event client reply ∷ [] =
    ap (λ (w : State). w.log.events) left ∙ step_adds now client (Some reply) answers
    ∙ ap (λ (es : List Event). es ++ return_event client reply ∷ []) went.events in
    let explains : Explains old.base old.told (old.log.events ++ return_event client reply ∷ []) (order_in new) =
    subst (λ (es : List Event). Explains old.base old.told es (order_in new)) events
    (subst (λ (b : List Value). Explains b old.told new.log.events (order_in new)) base
    (subst (λ (ts : List Told). Explains new.base ts new.log.events (order_in new)) told is.explains)) in
    let both = turn_served old.base old.told old.log.events (order_in old) (order_in new) client reply was.history
    was.explains explains part (ended_on old now new went ended) turn.place turn.number call turn.begins turn.last
    turn.alone turn.fresh in
    let holds : kept_content new
    ≡ queue_after (old.log.events ++ return_event client reply ∷ []) old.base (order_in new) =
    is.agrees ∙ ap (λ (b : List Value). queue_after new.log.events b (order_in new)) base
    ∙ ap (λ (es : List Event). queue_after es old.base (order_in new)) events in
    record {
      answer = both.0 ∙ ap (λ (q : List Value). reply_of q call) (sym was.agrees);
      content = holds ∙ both.1 ∙ ap (λ (q : List Value). served q call) (sym was.agrees);
      nobody = subst (λ (es : List Event). (other : Client) → IsUnderWay es other (length es) → ⊥) (sym events)
          (nobody_after old.log.events client reply turn.alone);
    }

-- a call that begins while nobody has one is its client's in turn
begun_in_turn : (w : State) (client : Client) (number : ℕ) (call : Call) → IsExplained w → NobodyCalls w
    → IsInTurn (after_call_began w client number call) client call
begun_in_turn w client number call explained nobody = record {
  place = length w.log.events;
  number = number;
  begins = get_last w.log.events (call_event client number call);
  last = omega (arith, length_push w.log.events (call_event client number call));
  alone = λ other way. elim (get_push_cases w.log.events (call_event client number call) way.place _ way.open_from.begins.1.1) [
    | inl old ↦
        let within : way.place < length w.log.events = slice_get_within w.log.events way.place _ old in
        let events : List Event = w.log.events ++ call_event client number call ∷ [] in
        let longer : length w.log.events ≤ length events =
        omega (arith, length_push w.log.events (call_event client number call)) in
        absurd (nobody other (record {
          place = way.place;
          before = within;
          open_from = open_before w.log.events (call_event client number call ∷ []) other (length w.log.events)
              way.place within
              (open_less events other (length events) (length w.log.events) way.place longer way.open_from);
        }))
    | inr new ↦ cc (new.1)
  ];
  fresh = λ there. new_place there;
}
  where
    new_place : InOrder (order_in w) (length w.log.events) → ⊥
    new_place (k, x, lt, is, place) =
        let some : IsSome (call_at w.log.events (length w.log.events)) =
        subst (λ (p : ℕ). IsSome (call_at w.log.events p)) place
        (subst (λ (e : Entry). IsSome (call_at w.log.events e.place)) is (explained.explains.is_order.calls k x lt)) in
        let b : (c : Client) × BeginsAt w.log.events c (length w.log.events) =
        begins_if_call w.log.events (length w.log.events) some in
        omega (arith, slice_get_within w.log.events (length w.log.events) _ b.1.1.1)

-- so it is after a start that is accepted
pub started_in_turn : (full : Bool) (w : State) (client : Client) (number : ℕ) (call : Call) → IsExplained w
    → start_result full w client number call ≡ Ok tt → NobodyCalls w
    → IsInTurn (after_start full w client number call) client call
started_in_turn full w client number call explained is nobody = from_check (number_to_start w client number call) is
  where
    from_check : (r : Result ℕ Refusal) → start_result_with full w client r ≡ Ok tt
        → IsInTurn (start_with full w client call r) client call
    from_check (Err refusal) e = cc
    from_check (Ok n) e = both (used_by w client == w.shape.records) full e
      where
        both : (a b : Bool)
            → (let r : Result Unit Refusal = if a then Err NoRoom else (if b then Err NoMemory else Ok tt) in r) ≡ Ok tt
            → IsInTurn (if a then after_bump_load w
            else (if b then after_bump_load w else after_call_began w client n call)) client call
        both true b e2 = cc
        both false true e2 = cc
        both false false e2 = begun_in_turn w client n call explained nobody

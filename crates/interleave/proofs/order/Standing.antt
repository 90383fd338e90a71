-- What each act leaves standing: calls that had ended, and what clients were told of their announced calls.
use Rattle.std.proofs.Common.{◌≡◌, ℕ, ◌<◌, ◌≤◌, ◌==◌, inl, inr, Bool, true, false, if◌then◌else◌, List, [], ◌∷◌, ◌++◌, length, Option, Some, None, Result, Ok, Err, slice_get, get_or, refl, ap, ◌∙◌, subst, arith}
use Rattle.std.proofs.lemmas.List.{length_push}
use Rattle.std.proofs.lemmas.Option.{slice_get_within, slice_get-get_or}
use Rattle.words.specs.declared.call.Call.{Call}
use Rattle.words.specs.declared.call.Client.{Client}
use Rattle.words.specs.declared.call.Reply.{Reply}
use Rattle.words.specs.declared.refusal.Refusal.{Refusal}
use Rattle.words.specs.declared.told.Told.{Told}
use Rattle.words.specs.declared.told.Told.TheVariants.{None as told_none}
use Rattle.arena.specs.Layout.{place_at}
use Rattle.arena.specs.declared.place.Place.{Place}
use Rattle.stepper.specs.declared.resume.After.{After}
use Rattle.stepper.specs.declared.resume.After.TheVariants.{More, Done}
use Rattle.helping.specs.declared.op.Op.{Op}
use Rattle.recover.specs.declared.recovery.Recovery.{Recovery}
use Rattle.events.specs.Effects.{order_of}
use Rattle.events.specs.History.{BeginsAt, IsOpenFrom, MayStand}
use Rattle.events.specs.Orders.{IsTakenAs}
use Rattle.events.specs.Parts.{IsPartOf}
use Rattle.events.specs.declared.event.Entry.{Entry}
use Rattle.events.specs.declared.event.Event.{Event}
use Rattle.events.specs.declared.event.Event.TheVariants.{Ready as ready_event}
use Rattle.events.proofs.Facts.{contains_from_in, get_push_cases, in_from_contains, in_order_from_taken, in_part}
use Rattle.events.proofs.Facts.{open_before, open_less, taken_from_in_order}
use Rattle.protocol.specs.Machine.{World, MayStep, with_step, with_eviction, next_of, next_recovery, events_after}
use Rattle.protocol.specs.Machine.{recovery_events}
use Rattle.protocol.specs.declared.UnderWay.{UnderWay}
use Rattle.protocol.specs.invariants.Worlds.{Inv}
use Rattle.protocol.proofs.Facts.{explained, inv_evicted, inv_stepped, is_recovering, part_evicted, part_stepped}
use Rattle.protocol.proofs.Facts.{told_is}
use Rattle.interleave.specs.Calls.{waiting_result}
use Rattle.interleave.specs.Holds.{Holds, from_invariant}
use Rattle.interleave.specs.Queue.{told_in}
use Rattle.interleave.specs.Turn.{NobodyCalls}
use Rattle.interleave.specs.Standing.{HasEnded, IsBeginningOf, EndedCallsStay, AllHaveEnded, AreToldOfAnnouncedBy}
use Rattle.interleave.specs.Standing.{UnannouncedAreOut, IsToldForGood}
use Rattle.interleave.specs.State.{State, machine, order_in, is_down, is_ready, used_by, after_bump_load}
use Rattle.interleave.specs.State.{after_call_began, after_one_access, number_to_start, start_with, step_with}
use Rattle.interleave.specs.State.{evict_with, recover_with, recover_result_with, after_start, after_step, after_evict}
use Rattle.interleave.specs.State.{after_crash, after_recover, recover_result, queue_at_ready, AreToldOfAnnounced}
use Rattle.interleave.proofs.order.Ends.{ended_closed, ended_or_open, ended_longer, begins_itself, stood_before}
use Rattle.interleave.proofs.order.Entries.{comes_stepped, comes_evicted}
use Rattle.interleave.proofs.machine.Holding.{may_step, waiting_is, explained_world, holds_after_recover}
use Rattle.interleave.proofs.words.KeptWords.{told_again, told_of_announced}
use Rattle.interleave.proofs.recovery.Tellings.{AreAlike, announced_alike, cut_off_announced}

-- where the order is as it was
pub ended_by_order : (old new : State) → order_in new ≡ order_in old → EndedCallsStay old new
ended_by_order old new same = λ p reply ended taken. subst (λ (o : List Entry). IsTakenAs o p reply) same taken

-- over two acts, the history growing by the first
pub ended_then : (old now new : State) → IsBeginningOf old.log.events now.log.events → EndedCallsStay old now
    → EndedCallsStay now new → EndedCallsStay old new
ended_then old now new grown one other = λ p reply ended taken.
    one p reply ended (other p reply (ended_longer old.log.events now.log.events p grown ended) taken)

-- a step of the machine's call, and an eviction
ended_stepped : (w : World) → Inv w → (client : Client) (u : UnderWay) → MayStep w client u → (p : ℕ) (reply : Reply)
    → HasEnded w.log.events p → IsTakenAs (order_of (with_step w client u).log.effects) p reply
    → IsTakenAs (order_of w.log.effects) p reply
ended_stepped w inv client u may =
    stood_before w.log.events w.log.effects (with_step w client u).log.effects (comes_stepped w inv client u may)
    (part_stepped w inv client u may)
    (explained (with_step w client u) (inv_stepped w inv client u may)).1.is_order.once

ended_evicted : (w : World) → Inv w → (place : Place) → (p : ℕ) (reply : Reply)
    → HasEnded w.log.events p → IsTakenAs (order_of (with_eviction w place).log.effects) p reply
    → IsTakenAs (order_of w.log.effects) p reply
ended_evicted w inv place =
    stood_before w.log.events w.log.effects (with_eviction w place).log.effects (comes_evicted w inv place)
    (part_evicted w inv place) (explained (with_eviction w place) (inv_evicted w inv place)).1.is_order.once

-- whatever a step answers
pub ended_after_step : (full : Bool) (w : State) (client : Client) → Holds w
    → EndedCallsStay w (after_step full w client)
ended_after_step full w client holds = from_waiting (waiting_result (is_down w) (slice_get w.calls client.0)) refl
  where
    from_waiting : (r : Result UnderWay Refusal) → waiting_result (is_down w) (slice_get w.calls client.0) ≡ r
        → EndedCallsStay w (step_with full w client r)
    from_waiting (Err refusal) e = λ p reply ended taken. taken
    from_waiting (Ok u) e = by_memory full
      where
        by_memory : (f : Bool) → EndedCallsStay w (if f then w else after_one_access w client u)
        by_memory true = λ p reply ended taken. taken
        by_memory false = ended_stepped (machine w) (from_invariant _ holds.inv) client u
            (may_step w client u holds (waiting_is _ _ u e))

pub ended_after_evict : (w : State) (word : ℕ) → Holds w → EndedCallsStay w (after_evict w word)
ended_after_evict w word holds = from_place (place_at w.shape word)
  where
    from_place : (o : Option Place) → EndedCallsStay w (evict_with w word o)
    from_place None = λ p reply ended taken. taken
    from_place (Some place) = ended_evicted (machine w) (from_invariant _ holds.inv) place

-- the history grows by each act
grown_by : (old rest : List Event) → IsBeginningOf old (old ++ rest)
grown_by old rest = record { rest = rest; is = refl }

pub grown_by_start : (full : Bool) (w : State) (client : Client) (number : ℕ) (call : Call)
    → IsBeginningOf w.log.events (after_start full w client number call).log.events
grown_by_start full w client number call = from_check (number_to_start w client number call)
  where
    from_check : (r : Result ℕ Refusal) → IsBeginningOf w.log.events (start_with full w client call r).log.events
    from_check (Err refusal) = begins_itself w.log.events
    from_check (Ok n) = both (used_by w client == w.shape.records) full
      where
        both : (a b : Bool) → IsBeginningOf w.log.events
            (if a then after_bump_load w
            else (if b then after_bump_load w else after_call_began w client n call)).log.events
        both true b = begins_itself w.log.events
        both false true = begins_itself w.log.events
        both false false = grown_by w.log.events _

pub grown_by_step : (full : Bool) (w : State) (client : Client)
    → IsBeginningOf w.log.events (after_step full w client).log.events
grown_by_step full w client = from_waiting (waiting_result (is_down w) (slice_get w.calls client.0))
  where
    goes_on : (a : After Op Reply) → IsBeginningOf w.log.events (events_after w.log.events client a)
    goes_on (More op) = begins_itself w.log.events
    goes_on (Done reply) = grown_by w.log.events _

    from_waiting : (r : Result UnderWay Refusal) → IsBeginningOf w.log.events (step_with full w client r).log.events
    from_waiting (Err refusal) = begins_itself w.log.events
    from_waiting (Ok u) = by_memory full
      where
        by_memory : (f : Bool)
            → IsBeginningOf w.log.events (if f then w else after_one_access w client u).log.events
        by_memory true = begins_itself w.log.events
        by_memory false = goes_on (next_of (machine w) u)

pub grown_by_evict : (w : State) (word : ℕ) → IsBeginningOf w.log.events (after_evict w word).log.events
grown_by_evict w word = from_place (place_at w.shape word)
  where
    from_place : (o : Option Place) → IsBeginningOf w.log.events (evict_with w word o).log.events
    from_place None = begins_itself w.log.events
    from_place (Some place) = begins_itself w.log.events

pub grown_by_crash : (full : Bool) (w : State) → IsBeginningOf w.log.events (after_crash full w).log.events
grown_by_crash true w = begins_itself w.log.events
grown_by_crash false w = grown_by w.log.events _

pub grown_by_recover : (full : Bool) (w : State) → IsBeginningOf w.log.events (after_recover full w).log.events
grown_by_recover full w = go w.recovery full
  where
    goes_on : (a : After Recovery (List Told)) → IsBeginningOf w.log.events (recovery_events w.log.events a)
    goes_on (More r) = begins_itself w.log.events
    goes_on (Done told) = grown_by w.log.events _

    go : (o : Option Recovery) (f : Bool) → IsBeginningOf w.log.events (recover_with f w o).log.events
    go None f = begins_itself w.log.events
    go (Some r) true = begins_itself w.log.events
    go (Some r) false = goes_on (next_recovery (machine w) r)

-- once recovery has ended, every call has
ended_at_ready : (w : World) → Inv w → (r : Recovery) → w.recovery ≡ Some r → (tells : List Told) (client : Client)
    (p : ℕ) → BeginsAt (w.log.events ++ ready_event tells ∷ []) client p
    → HasEnded (w.log.events ++ ready_event tells ∷ []) p
ended_at_ready w inv r e tells client p begins =
    let events : List Event = w.log.events ++ ready_event tells ∷ [] in
    let longer : length w.log.events ≤ length events =
    omega (arith, length_push w.log.events (ready_event tells)) in
    elim (ended_or_open (w.log.events ++ ready_event tells ∷ []) client p begins) [
      | inl ended ↦ ended
      | inr open_from ↦ elim (get_push_cases w.log.events (ready_event tells) p _ begins.1.1) [
        | inl old ↦
            let within : p < length w.log.events = slice_get_within w.log.events p _ old in
            let less : IsOpenFrom events client (length w.log.events) p =
            open_less events client (length events) (length w.log.events) p longer open_from in
            absurd ((is_recovering w inv r e).idle client p
            (open_before w.log.events (ready_event tells ∷ []) client (length w.log.events) p within less))
        | inr new ↦ absurd (cc (new.1))
      ]
    ]

pub all_have_ended : (full : Bool) (w : State) → Holds w → recover_result full w ≡ Ok true
    → AllHaveEnded (after_recover full w)
all_have_ended full w holds is = go w.recovery refl full is
  where
    ends : (r : Recovery) → w.recovery ≡ Some r → (next : After Recovery (List Told))
        → next_recovery (machine w) r ≡ next → is_ready next ≡ true → (client : Client) (p : ℕ)
        → BeginsAt (recovery_events w.log.events next) client p → HasEnded (recovery_events w.log.events next) p
    ends r e (More x) is_next ready client p begins = cc
    ends r e (Done tells) is_next ready client p begins =
        ended_at_ready (machine w) (from_invariant _ holds.inv) r e tells client p begins

    go : (o : Option Recovery) → w.recovery ≡ o → (f : Bool) → recover_result_with f w o ≡ Ok true
        → AllHaveEnded (recover_with f w o)
    go None e f is2 = cc
    go (Some r) e true is2 = cc
    go (Some r) e false is2 = ends r e (next_recovery (machine w) r) refl
        (let same : is_ready (next_recovery (machine w) r) ≡ true = cc in same)

-- what was told of an announced call, every call having ended, is right as long as calls that have ended stay
pub told_for_good : (w later : State) → AllHaveEnded w → IsPartOf (order_in w) (order_in later)
    → EndedCallsStay w later → AreToldOfAnnounced w → AreToldOfAnnouncedBy later w
told_for_good w later all part stays tells = λ client told at.
    announced_alike w.shape (machine w).memory.kept w.told w.log later.log.effects client told alike
    (tells client told at)
  where
    alike : AreAlike w.log.events (order_in w) (order_in later)
    alike = record {
      kept = λ p reply taken.
          let x : Entry = record { place = p; reply = reply } in
          contains_from_in (order_in later) x (in_part x part (in_from_contains (order_in w) x taken));
      back = λ client p begins there.
          let t : (reply : Reply) × IsTakenAs (order_in later) p reply =
          taken_from_in_order (order_in later) p there in
          in_order_from_taken (order_in w) p t.0 (stays p t.0 (all client p begins) t.1);
    }

-- a call that was cut off and is not the announced one is in no order from then on
pub unannounced_are_out : (full : Bool) (w : State) → Holds w → recover_result full w ≡ Ok true
    → UnannouncedAreOut (order_in (after_recover full w)) (after_recover full w)
unannounced_are_out full w holds is = λ client p number begins cut other there.
    let v : State = after_recover full w in
    let keeps : Holds v = holds_after_recover full w holds in
    let places : (p : ℕ) (event : Event) → slice_get v.log.events p ≡ Some event → MayStand v.log.events p event =
    (explained_world v keeps).history.places in
    let small : client.0 < 16 = (places p _ begins.begins).0 in
    let now : slice_get (told_in v.queue) client.0 ≡ Some (get_or (told_in v.queue) client.0 told_none) =
    slice_get-get_or (told_in v.queue) client.0 told_none (omega (arith, small, sixteen_told full w holds is)) in
    other (cut_off_announced v.shape (machine v).memory.kept v.told v.log client
    (get_or (told_in v.queue) client.0 told_none) places
    (told_of_announced full w holds is client _ now) p number begins cut there)
  where
    sixteen_told : (f : Bool) (w : State) → Holds w → recover_result f w ≡ Ok true
        → length (told_in (after_recover f w).queue) ≡ 16
    sixteen_told f w holds is = go w.recovery refl f is
      where
        ends : (r : Recovery) → w.recovery ≡ Some r → (next : After Recovery (List Told))
            → next_recovery (machine w) r ≡ next → is_ready next ≡ true
            → length (told_in (queue_at_ready w.queue next)) ≡ 16
        ends r e (More x) is_next ready = cc
        ends r e (Done tells) is_next ready =
            ap (λ (ts : List Told). length ts) (told_again w.queue tells)
            ∙ (told_is (machine w) (from_invariant _ holds.inv) r e tells is_next).0

        go : (o : Option Recovery) → w.recovery ≡ o → (f : Bool) → recover_result_with f w o ≡ Ok true
            → length (told_in (recover_with f w o).queue) ≡ 16
        go None e f is2 = cc
        go (Some r) e true is2 = cc
        go (Some r) e false is2 = ends r e (next_recovery (machine w) r) refl
            (let same : is_ready (next_recovery (machine w) r) ≡ true = cc in same)

pub unannounced_for_good : (w later : State) → EndedCallsStay w later → UnannouncedAreOut (order_in w) w
    → UnannouncedAreOut (order_in later) w
unannounced_for_good w later stays out = λ client p number begins cut other there.
    let t : (reply : Reply) × IsTakenAs (order_in later) p reply = taken_from_in_order (order_in later) p there in
    let ended : HasEnded w.log.events p = record {
      client = client;
      begins = (number, (begins.call, begins.begins));
      end = cut.end;
      ends = cut.ends;
    } in
    out client p number begins cut other (in_order_from_taken (order_in w) p t.0 (stays p t.0 ended t.1))

-- so what is told when recovery ends stands for good
pub told_stands : (full : Bool) (w : State) → Holds w → recover_result full w ≡ Ok true
    → IsToldForGood (after_recover full w)
told_stands full w holds is = λ later on.
    let v : State = after_recover full w in (
      told_for_good v later (all_have_ended full w holds is) on.part on.ended (told_of_announced full w holds is),
      unannounced_for_good v later on.ended (unannounced_are_out full w holds is),
    )

-- and nobody calls then
pub nobody_at_ready : (full : Bool) (w : State) → Holds w → recover_result full w ≡ Ok true
    → NobodyCalls (after_recover full w)
nobody_at_ready full w holds is = λ client way.
    let v : State = after_recover full w in
    ended_closed v.log.events client way.place
    (all_have_ended full w holds is client way.place way.open_from.begins) way.open_from

-- How a row that follows the histories of a session goes on to, act by act, and so do all rows.
use Rattle.std.proofs.Common.{◌≡◌, ◌≢◌, ◌++◌, ℕ, zero, suc, ◌<◌, ◌≤◌, true, false, List, [], ◌∷◌, length, length-append, Option, Some, None, slice_get, slice_set, Bool, inl, inr, refl, sym, ap, ◌∙◌, subst, arith, true≢false}
use Rattle.std.proofs.lemmas.Bool.{cases_eq}
use Rattle.std.proofs.lemmas.List.{append-nil, length_push}
use Rattle.std.proofs.lemmas.Option.{same_Some}
use Rattle.words.specs.declared.call.Client.{Client}
use Rattle.words.specs.declared.call.Reply.{Reply}
use Rattle.arena.specs.declared.broker.SlotId.{SlotId}
use Rattle.events.specs.History.{IsHistory}
use Rattle.events.specs.declared.event.Event.{Event}
use Rattle.events.specs.declared.event.Event.TheVariants.{Call as call_event, Return as return_event}
use Rattle.events.specs.declared.event.Event.TheVariants.{Crash as crash_event}
use Rattle.events.proofs.Facts.{begins_within, get_last, get_push_cases, no_end_longer}
use Rattle.interleave.specs.State.{State}
use Rattle.named.specs.Brokers.{is_down, world_at}
use Rattle.named.proofs.Facts.{get_set_other}
use Rattle.session.specs.Promises.{IsReplyAt, KeepsNumbers}
use Rattle.session.specs.Requests.{number_or_zero}
use Rattle.session.specs.Sessions.{Sessioned}
use Rattle.workers.specs.Answers.{entry_of}
use Rattle.workers.specs.Following.{AreFollowed, IsFollowed, AreOpenCutOff}
use Rattle.workers.specs.Lists.{HasEndedAs, HasNoNumberZero, HasNotReturned, IsCutOff, IsKeptReply, IsListOf, LastIsOf}
use Rattle.workers.specs.Lists.{OnlyLastIsOpen, RanAt, ends_open, events_at, events_of, is_open, with_end}
use Rattle.workers.specs.declared.entry.End.{End}
use Rattle.workers.specs.declared.entry.End.TheVariants.{Answered, Interrupted, Open}
use Rattle.workers.specs.declared.entry.Entry.{Entry}
use Rattle.workers.specs.declared.entry.Request.{Request}
use Rattle.workers.proofs.guard.Acts.{CallsNow, HasNext, IsCarriedFor, IsCrashed, IsLost, IsNotOf, IsStillFor}
use Rattle.workers.proofs.guard.Acts.{RepliesStay}
use Rattle.workers.proofs.histories.Histories.{cut_off_if_lost, cut_off_longer, end_or_none, list_answered, list_called}
use Rattle.workers.proofs.histories.Histories.{list_elsewhere, list_ended_elsewhere, list_interrupted, list_longer}
use Rattle.workers.proofs.histories.Histories.{ran_within}
use Rattle.workers.proofs.lists.LastCalls.{all_ended, last_is_open, length_with_end, with_end_at}

-- each history of a session that keeps its numbers may arise
nothing_arises : IsHistory []
nothing_arises = record {
  places = λ p event at. cc at;
  numbers = λ durable k d lt. absurd (omega (arith, lt));
}

pub histories : (s : Sessioned) → KeepsNumbers s → (slot : ℕ) → IsHistory (events_at s.broker slot)
histories s keeps slot = go (world_at s.broker slot) refl
  where
    go : (o : Option State) → world_at s.broker slot ≡ o → IsHistory (events_of o)
    go (Some w) here = (keeps.broker.explained slot w here).history
    go None none = nothing_arises

-- a reply that was kept is kept still
kept_stays : (old new : Sessioned) (client : Client) (e : Entry) → RepliesStay old new → IsKeptReply old client e
    → IsKeptReply new client e
kept_stays old new client e replies is = record {
  number = is.number;
  number_is = is.number_is;
  reply = is.reply;
  end_is = is.end_is;
  right = replies e.queue.0 is.number client is.reply is.right;
}

-- an open call of a row is cut off by a crash
open_cut_off : {crashes : Bool} (since slot : ℕ) (client : Client) (old new : List Event) (row : List Entry)
    → IsStillFor crashes client old new
    → IsListOf since slot old client row → IsCrashed old new → (k place : ℕ) (e : Entry) → slice_get row k ≡ Some e
    → RanAt e slot place → e.end ≡ Open → IsCutOff new client place
open_cut_off since slot client old new row still of (inl empty) k place e at ran opens =
    let within : place < length old = ran_within since slot old client row of k place e at ran in
    absurd (omega (arith, within, ap (λ (es : List Event). length es) empty))
open_cut_off since slot client old new row still of (inr crashed) k place e at ran opens =
    elim (end_or_none old client place) [
      | inl end ↦ elim end.1.ends [
        | inl returned ↦
            let not : HasNotReturned old client place =
            subst (HasEndedAs old client place) opens (of.right k place e at ran).ended in
            absurd (not end.0 returned.0 end.1 returned.1)
        | inr crash ↦
            cut_off_longer client old new still place (record { end = end.0; ends = end.1; crash = crash })
      ]
      | inr none ↦ subst (λ (es : List Event). IsCutOff es client place) (sym crashed) (record {
        end = length old;
        ends = record {
          after = ran_within since slot old client row of k place e at ran;
          ends = inr (get_last old crash_event);
          first = no_end_longer old (crash_event ∷ []) client place (length old) (omega arith) none;
        };
        crash = get_last old crash_event;
      })
    ]

-- an act that is not of the client
pub followed_carried : {crashes : Bool} (since : ℕ → ℕ) (client : Client) (old new : Sessioned) (row : List Entry)
    → IsCarriedFor crashes client old new → IsFollowed since old client row → IsFollowed since new client row
followed_carried since client old new row carried is = record {
  recorded = record {
    ran = λ slot.
        list_longer (since slot) slot client (events_at old.broker slot) (events_at new.broker slot) row
        (carried.events slot) (is.recorded.ran slot);
    kept = λ k e at none. kept_stays old new client e carried.replies (is.recorded.kept k e at none);
    numbered = is.recorded.numbered;
  };
  only_last = is.only_last;
  stopped = λ down k slot place e at ran opens. elim (carried.down down) [
    | inl was ↦
        cut_off_longer client (events_at old.broker slot) (events_at new.broker slot) (carried.events slot) place
        (is.stopped was k slot place e at ran opens)
    | inr crashed ↦
        open_cut_off (since slot) slot client (events_at old.broker slot) (events_at new.broker slot) row
        (carried.events slot) (is.recorded.ran slot) (crashed.1 slot) k place e at ran opens
  ];
}

-- no entry of a row is open, and one more at its end may be
only_last_push : (row : List Entry) (x : Entry) → OnlyLastIsOpen row → ends_open row ≡ false
    → OnlyLastIsOpen (row ++ x ∷ [])
only_last_push row x only_last ended k e at less = elim (get_push_cases row x k e at) [
  | inl was ↦ all_ended row only_last ended k e was
  | inr new ↦ absurd (omega (arith, new.0, less, length_push row x))
]

-- one event came to the history of a slot: what holds of it there, and in the others as they were
by_slot : (P : ℕ → List Event → Type 0) (old new : Sessioned) (slot : ℕ) (event : Event) → HasNext old new slot event
    → P slot (events_at new.broker slot)
    → ((other : ℕ) → other ≢ slot → P other (events_at old.broker other))
    → (other : ℕ) → P other (events_at new.broker other)
by_slot P old new slot event next here others other = elim (cases_eq other slot) [
  | inl same ↦ subst (λ (n : ℕ). P n (events_at new.broker n)) (sym same) here
  | inr apart ↦ subst (P other) (sym (next.others other apart)) (others other apart)
]

-- while the broker is ready nothing is stopped
up_stops_none : (s : Sessioned) (client : Client) (row : List Entry) → is_down s.broker ≡ false
    → AreOpenCutOff s client row
up_stops_none s client row up down = absurd (true≢false (sym down ∙ up))

-- a number from 1 on comes to the list
numbered_push : (row : List Entry) (added : Entry) → (added.number ≡ Some 0 → ⊥) → HasNoNumberZero row
    → HasNoNumberZero (row ++ added ∷ [])
numbered_push row added above numbered k e at none = elim (get_push_cases row added k e at) [
  | inl was ↦ numbered k e was none
  | inr it ↦ above (ap (λ (z : Entry). z.number) it.1 ∙ none)
]

-- another end leaves the numbers
numbered_with_end : (end : End) (row : List Entry) → HasNoNumberZero row → HasNoNumberZero (with_end end row)
numbered_with_end end row numbered k e at none = elim (with_end_at end row k e at) [
  | inl same ↦ numbered k e same.0 none
  | inr last ↦ numbered k last.was last.at (ap (λ (z : Entry). z.number) (sym last.is) ∙ none)
]

-- a call of the client's begins
pub followed_called : (since : ℕ → ℕ) (client : Client) (old new : Sessioned) (row : List Entry) (slot : ℕ)
    (queue : SlotId) (r : Request) → HasNext old new slot (call_event client (number_or_zero r.number) r.call)
    → since slot ≤ length (events_at old.broker slot) → ends_open row ≡ false → queue.0 ≡ slot
    → (r.number ≡ Some 0 → ⊥) → IsFollowed since old client row
    → IsFollowed since new client (row ++ entry_of queue r (Some (length (events_at old.broker slot))) Open ∷ [])
followed_called since client old new row slot queue r next late ended here above is = record {
  recorded = record {
    ran = by_slot (λ other es. IsListOf (since other) other es client (row ++ added ∷ [])) old new slot
        (call_event client (number_or_zero r.number) r.call) next
        (list_called (since slot) slot client (events_at old.broker slot) (events_at new.broker slot) row queue r
        late (is.recorded.ran slot) here next.here)
        (λ other apart.
        list_elsewhere (since other) other client (events_at old.broker other) row added
        (λ place ran. apart (sym ran.0 ∙ here)) (is.recorded.ran other));
    kept = λ k e at none. elim (get_push_cases row added k e at) [
      | inl was ↦ kept_stays old new client e next.replies (is.recorded.kept k e was none)
      | inr it ↦ absurd (cc (ap (λ (z : Entry). z.place) it.1, none))
    ];
    numbered = numbered_push row added above is.recorded.numbered;
  };
  only_last = only_last_push row added is.only_last ended;
  stopped = up_stops_none new client (row ++ added ∷ []) next.up;
}
  where
    added : Entry
    added = entry_of queue r (Some (length (events_at old.broker slot))) Open

-- a call that was answered with the reply that was kept for its number
pub followed_kept : (since : ℕ → ℕ) (client : Client) (s : Sessioned) (row : List Entry) (queue : SlotId) (r : Request)
    (number : ℕ) → r.number ≡ Some number → (reply : Reply) → IsReplyAt s queue.0 client number reply
    → ends_open row ≡ false → (r.number ≡ Some 0 → ⊥) → IsFollowed since s client row
    → IsFollowed since s client (row ++ entry_of queue r None (Answered reply) ∷ [])
followed_kept since client s row queue r number number_is reply right ended above is = record {
  recorded = record {
    ran = λ slot.
        list_elsewhere (since slot) slot client (events_at s.broker slot) row added (λ place ran. cc (ran.1))
        (is.recorded.ran slot);
    kept = λ k e at none. elim (get_push_cases row added k e at) [
      | inl was ↦ is.recorded.kept k e was none
      | inr it ↦ subst (IsKeptReply s client) it.1 kept_now
    ];
    numbered = numbered_push row added above is.recorded.numbered;
  };
  only_last = only_last_push row added is.only_last ended;
  stopped = λ down k slot place e at ran opens. elim (get_push_cases row added k e at) [
    | inl was ↦ is.stopped down k slot place e was ran opens
    | inr it ↦ absurd (cc (it.1, opens))
  ];
}
  where
    added : Entry
    added = entry_of queue r None (Answered reply)

    kept_now : IsKeptReply s client added
    kept_now = record { number = number; number_is = number_is; reply = reply; end_is = refl; right = right }

-- where the last call has another end, the others are ended still
only_last_ended : (row : List Entry) (end : End) → OnlyLastIsOpen row → OnlyLastIsOpen (with_end end row)
only_last_ended row end only_last k e at less = elim (with_end_at end row k e at) [
  | inl same ↦ only_last k e same.0 same.1
  | inr it ↦ absurd (omega (arith, it.last, less, length_with_end end row))
]

-- a row whose last call is open, with another end of it
module _ (since : ℕ → ℕ) (client : Client) (old : Sessioned) (row : List Entry) (opens : ends_open row ≡ true)
    (is : IsFollowed since old client row) where
  -- the last entry is the open one
  last_opens : (k : ℕ) (e : Entry) → slice_get row k ≡ Some e → suc k ≡ length row → e.end ≡ Open
  last_opens k e at last =
      let it = last_is_open row opens in
      let same : k ≡ it.before = omega (arith, last, it.length_is) in
      let entry : e ≡ it.entry = cc (at, it.at, ap (λ (n : ℕ). slice_get row n) same) in
      ap (λ (z : Entry). z.end) entry ∙ it.is_open

  -- it ran, so that no kept reply is changed
  kept_with_end : (end : End) (new : Sessioned) → RepliesStay old new → (k : ℕ) (e : Entry)
      → slice_get (with_end end row) k ≡ Some e → e.place ≡ None → IsKeptReply new client e
  kept_with_end end new replies k e at none = elim (with_end_at end row k e at) [
    | inl same ↦ kept_stays old new client e replies (is.recorded.kept k e same.0 none)
    | inr it ↦
        let kept = is.recorded.kept k it.was it.at (ap (λ (z : Entry). z.place) (sym it.is) ∙ none) in
        let open_end : it.was.end ≡ Open = last_opens k it.was it.at it.last in
        absurd (cc (open_end, kept.end_is))
  ]

  -- the history of another slot does not change
  ran_elsewhere : (end : End) (slot : ℕ) → LastIsOf slot row → (other : ℕ) → other ≢ slot
      → IsListOf (since other) other (events_at old.broker other) client (with_end end row)
  ran_elsewhere end slot last_of other apart =
      list_ended_elsewhere (since other) other client (events_at old.broker other) row end
      (λ k place e at last ran. apart (sym ran.0 ∙ last_of k e at last)) (is.recorded.ran other)

  -- the call is answered
  pub answered_followed : (new : Sessioned) (slot : ℕ) (reply : Reply) → KeepsNumbers old
      → HasNext old new slot (return_event client reply) → CallsNow (events_at old.broker slot) client
      → LastIsOf slot row → IsFollowed since new client (with_end (Answered reply) row)
  answered_followed new slot reply keeps next way last_of = record {
    recorded = record {
      ran = by_slot (λ other es. IsListOf (since other) other es client (with_end (Answered reply) row)) old new slot
          (return_event client reply) next
          (list_answered (since slot) slot client (events_at old.broker slot) (events_at new.broker slot) row reply
          (histories old keeps slot) is.only_last way next.here (is.recorded.ran slot))
          (ran_elsewhere (Answered reply) slot last_of);
      kept = kept_with_end (Answered reply) new next.replies;
      numbered = numbered_with_end (Answered reply) row is.recorded.numbered;
    };
    only_last = only_last_ended row (Answered reply) is.only_last;
    stopped = up_stops_none new client (with_end (Answered reply) row) next.up;
  }

  -- it was under way until a crash
  lost_cut_off : (slot : ℕ) → IsLost old slot client → (k place : ℕ) (e : Entry) → slice_get row k ≡ Some e
      → suc k ≡ length row → RanAt e slot place → IsCutOff (events_at old.broker slot) client place
  lost_cut_off slot (inl down) k place e at last ran = is.stopped down k slot place e at ran (last_opens k e at last)
  lost_cut_off slot (inr idle) k place e at last ran =
      cut_off_if_lost (since slot) (events_at old.broker slot) client e place
      ((is.recorded.ran slot).right k place e at ran) (last_opens k e at last) idle

  stopped_with_end : (end : End) → is_open end ≡ false → AreOpenCutOff old client (with_end end row)
  stopped_with_end end ended down k slot place e at ran open_end = elim (with_end_at end row k e at) [
    | inl same ↦ is.stopped down k slot place e same.0 ran open_end
    | inr it ↦
        let same : end ≡ Open = ap (λ (z : Entry). z.end) (sym it.is) ∙ open_end in
        absurd (true≢false (ap is_open (sym same) ∙ ended))
  ]

  pub interrupted_followed : (slot : ℕ) → IsLost old slot client → LastIsOf slot row
      → IsFollowed since old client (with_end Interrupted row)
  interrupted_followed slot lost last_of = record {
    recorded = record {
      ran = λ other. elim (cases_eq other slot) [
        | inl same ↦
            subst
            (λ (n : ℕ). IsListOf (since n) n (events_at old.broker n) client (with_end Interrupted row))
            (sym same)
            (list_interrupted (since slot) slot client (events_at old.broker slot) row (lost_cut_off slot lost)
            (is.recorded.ran slot))
        | inr apart ↦ ran_elsewhere Interrupted slot last_of other apart
      ];
      kept = kept_with_end Interrupted old (λ at number who reply right. right);
      numbered = numbered_with_end Interrupted row is.recorded.numbered;
    };
    only_last = only_last_ended row Interrupted is.only_last;
    stopped = stopped_with_end Interrupted refl;
  }

-- the open call is answered
pub followed_answered : (since : ℕ → ℕ) (client : Client) (old new : Sessioned) (row : List Entry) (slot : ℕ)
    (reply : Reply) → KeepsNumbers old → HasNext old new slot (return_event client reply)
    → CallsNow (events_at old.broker slot) client → ends_open row ≡ true
    → ((k : ℕ) (e : Entry) → slice_get row k ≡ Some e → suc k ≡ length row → e.queue.0 ≡ slot)
    → IsFollowed since old client row → IsFollowed since new client (with_end (Answered reply) row)
followed_answered since client old new row slot reply keeps next way opens last_of is =
    answered_followed since client old row opens is new slot reply keeps next way last_of

-- it is found to be interrupted
pub followed_interrupted : (since : ℕ → ℕ) (client : Client) (s : Sessioned) (row : List Entry) (slot : ℕ)
    → IsLost s slot client → ends_open row ≡ true
    → ((k : ℕ) (e : Entry) → slice_get row k ≡ Some e → suc k ≡ length row → e.queue.0 ≡ slot)
    → IsFollowed since s client row → IsFollowed since s client (with_end Interrupted row)
followed_interrupted since client s row slot lost opens last_of is =
    interrupted_followed since client s row opens is slot lost last_of

-- an empty row, since the histories' ends
pub followed_empty : (since : ℕ → ℕ) (s : Sessioned) (client : Client)
    → ((slot : ℕ) → since slot ≡ length (events_at s.broker slot)) → IsFollowed since s client []
followed_empty since s client ends = record {
  recorded = record {
    ran = λ slot. record {
      right = λ k place e at ran. cc at;
      ascend = λ j k p q e f less at_j at_k ran_e ran_f. cc at_j;
      all = λ place late begins.
          let within : place < length (events_at s.broker slot) =
          begins_within (events_at s.broker slot) client place begins in
          absurd (omega (arith, within, late, ends slot));
    };
    kept = λ k e at none. cc at;
    numbered = λ k e at none. cc at;
  };
  only_last = λ k e at less. cc at;
  stopped = λ down k slot place e at ran opens. cc at;
}

-- a history that goes on is not shorter
pub still_grows : {crashes : Bool} (client : Client) (old new : List Event) → IsStillFor crashes client old new → length old ≤ length new
still_grows client old new still =
    omega (arith, ap (λ (es : List Event). length es) still.is, length-append old still.rest)

-- an act that is of no client
pub rows_carried : {crashes : Bool} (since : ℕ → ℕ) (old new : Sessioned) (rows : List (List Entry))
    → ((t : ℕ) → IsCarriedFor crashes (record { 0 = t }) old new) → AreFollowed since old rows → AreFollowed since new rows
rows_carried since old new rows carried are = record {
  begun = λ slot.
      let begun = are.begun slot in
      let grows =
      still_grows (record { 0 = 0 }) (events_at old.broker slot) (events_at new.broker slot)
      ((carried 0).events slot) in
      omega (arith, begun, grows);
  each = λ t row at. followed_carried since (record { 0 = t }) old new row (carried t) (are.each t row at);
}

-- what was written stands there
pub set_here : {A : Type 0} (rows : List A) (t : ℕ) (was row : A)
    → slice_get (slice_set rows t was) t ≡ Some row → was ≡ row
set_here [] t was row at = cc at
set_here (x ∷ rows) zero was row at = same_Some was row at
set_here (x ∷ rows) (suc t) was row at = set_here rows t was row at

-- an act of one client, whose row is written
pub row_changed : {crashes : Bool} (since : ℕ → ℕ) (old new : Sessioned) (rows : List (List Entry)) (t : ℕ) (row' : List Entry)
    → ((slot : ℕ) → since slot ≤ length (events_at new.broker slot))
    → ((u : ℕ) → u ≢ t → IsCarriedFor crashes (record { 0 = u }) old new) → IsFollowed since new (record { 0 = t }) row'
    → AreFollowed since old rows → AreFollowed since new (slice_set rows t row')
row_changed since old new rows t row' begun carried its are = record {
  begun = begun;
  each = λ u row at. elim (cases_eq u t) [
    | inl same ↦
        let here : slice_get (slice_set rows t row') t ≡ Some row =
        subst (λ (n : ℕ). slice_get (slice_set rows t row') n ≡ Some row) same at in
        let row_is : row' ≡ row = set_here rows t row' row here in
        subst (λ (n : ℕ). IsFollowed since new (record { 0 = n }) row) (sym same)
        (subst (λ (r : List Entry). IsFollowed since new (record { 0 = t }) r) row_is its)
    | inr apart ↦
        followed_carried since (record { 0 = u }) old new row (carried u apart)
        (are.each u row (sym (get_set_other rows t row' u apart) ∙ at))
  ];
}

-- a history to which nothing came, or what is not of the client
still_same : {crashes : Bool} (u : Client) (events : List Event) → IsStillFor crashes u events events
still_same u events = record { rest = []; is = sym (append-nil events); none = λ k x at. cc at }

one_of_none : (crashes : Bool) (u : Client) (event : Event) → IsNotOf crashes u event → (k : ℕ) (x : Event)
    → slice_get (event ∷ []) k ≡ Some x → IsNotOf crashes u x
one_of_none crashes u event apart zero x at = subst (IsNotOf crashes u) (same_Some event x at) apart
one_of_none crashes u event apart (suc k) x at = cc at

-- an event that is not of the client
pub next_carried : {crashes : Bool} (old new : Sessioned) (slot : ℕ) (event : Event) (u : Client) → HasNext old new slot event
    → IsNotOf crashes u event → IsCarriedFor crashes u old new
next_carried {crashes} old new slot event u next apart = record {
  events = by_slot (λ other es. IsStillFor crashes u (events_at old.broker other) es) old new slot event next (record {
    rest = event ∷ [];
    is = next.here;
    none = one_of_none crashes u event apart;
  }) (λ other ne. still_same u (events_at old.broker other));
  replies = next.replies;
  down = λ down. absurd (true≢false (sym down ∙ next.up));
}

-- nothing happened
pub same_carried : {crashes : Bool} (u : Client) (s : Sessioned) → IsCarriedFor crashes u s s
same_carried u s = record {
  events = λ slot. still_same u (events_at s.broker slot);
  replies = λ slot number client reply right. right;
  down = λ down. inl down;
}

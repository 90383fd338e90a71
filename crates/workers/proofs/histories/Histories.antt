-- What one history says of a client's calls and of its list, as the history grows and as the list does.
use Rattle.std.proofs.Common.{◌≡◌, ◌⊎◌, ◌++◌, Bool, ℕ, zero, suc, ◌<◌, ◌≤◌, List, [], ◌∷◌, length, Some, slice_get, inl, inr, refl, sym, ap, ◌∙◌, subst, arith}
use Rattle.std.proofs.lemmas.Bool.{cases_lt}
use Rattle.std.proofs.lemmas.List.{length_push}
use Rattle.std.proofs.lemmas.Option.{same_Some, slice_get_within}
use Rattle.words.specs.declared.call.Call.{Call}
use Rattle.words.specs.declared.call.Client.{Client}
use Rattle.words.specs.declared.call.Reply.{Reply}
use Rattle.arena.specs.declared.broker.SlotId.{SlotId}
use Rattle.events.specs.History.{BeginsAt, CallAt, HasNoEnd, IsEnd, IsHistory}
use Rattle.events.specs.declared.event.Event.{Event}
use Rattle.events.specs.declared.event.Event.TheVariants.{Call as call_event, Return as return_event}
use Rattle.events.proofs.Facts.{begins_before, get_last, get_longer, get_push_cases, no_end_longer, open_less}
use Rattle.session.specs.Requests.{number_or_zero}
use Rattle.workers.specs.Answers.{entry_of}
use Rattle.workers.specs.Lists.{HasEndedAs, HasEntryAt, HasNotReturned, HasReturned, IsCutOff, IsListOf, IsRunRight}
use Rattle.workers.specs.Lists.{OnlyLastIsOpen, RanAt, with_end}
use Rattle.workers.specs.declared.entry.End.{End}
use Rattle.workers.specs.declared.entry.End.TheVariants.{Answered, Interrupted, Open}
use Rattle.workers.specs.declared.entry.Entry.{Entry}
use Rattle.workers.specs.declared.entry.Request.{Request}
use Rattle.workers.proofs.guard.Acts.{CallsNow, IsNotOf, IsStillFor}
use Rattle.workers.proofs.histories.Endings.{NoReturnIn, closed_grown, cut_off_grown, end_or_none_before, ended_grown}
use Rattle.workers.proofs.histories.Endings.{get_added}
use Rattle.workers.proofs.histories.Endings.{not_returned_grown, returned_grown}
use Rattle.workers.proofs.lists.LastCalls.{last_or_before, with_end_at, with_end_before, with_end_last}

-- the end of the client's call at p, or none up to the end of the history
pub end_or_none : (events : List Event) (client : Client) (p : ℕ)
    → ((e : ℕ) × IsEnd events client p e) ⊎ HasNoEnd events client p (length events)
end_or_none events client p = end_or_none_before events client p (length events)

-- an open call that is not under way any more was cut off
pub cut_off_if_lost : (since : ℕ) (events : List Event) (client : Client) (e : Entry) (place : ℕ)
    → IsRunRight since events client e place → e.end ≡ Open → (CallsNow events client → ⊥)
    → IsCutOff events client place
cut_off_if_lost since events client e place right is_open lost = elim (end_or_none events client place) [
  | inl end ↦ elim end.1.ends [
    | inl returned ↦ absurd (open_not_returned end.0 returned.0 end.1 returned.1)
    | inr crash ↦ record { end = end.0; ends = end.1; crash = crash }
  ]
  | inr none ↦ absurd (lost (record {
    place = place;
    before = slice_get_within events place _ right.call;
    open_from = record { begins = (number_or_zero e.number, (e.call, right.call)); no_end = none };
  }))
]
  where
    open_not_returned : HasNotReturned events client place
    open_not_returned = subst (HasEndedAs events client place) is_open right.ended

-- a history that went on by no call and no return of the client
no_return : {crashes : Bool} (client : Client) (old new : List Event) → (still : IsStillFor crashes client old new)
    → NoReturnIn client still.rest
no_return client old new still k reply at = still.none k (return_event client reply) at refl

module _ {crashes : Bool} (client : Client) (old new : List Event) (still : IsStillFor crashes client old new)
    (place : ℕ) where
  pub returned_longer : (reply : Reply) → HasReturned old client place reply → HasReturned new client place reply
  returned_longer reply returned =
      subst (λ (es : List Event). HasReturned es client place reply) (sym still.is)
      (returned_grown client old still.rest place reply returned)

  pub cut_off_longer : IsCutOff old client place → IsCutOff new client place
  cut_off_longer cut =
      subst (λ (es : List Event). IsCutOff es client place) (sym still.is)
      (cut_off_grown client old still.rest place cut)

  pub not_returned_longer : HasNotReturned old client place → HasNotReturned new client place
  not_returned_longer not =
      subst (λ (es : List Event). HasNotReturned es client place) (sym still.is)
      (not_returned_grown client old still.rest place (no_return client old new still) not)

  pub ended_longer : (end : End) → HasEndedAs old client place end → HasEndedAs new client place end
  ended_longer end ended =
      subst (λ (es : List Event). HasEndedAs es client place end) (sym still.is)
      (ended_grown client old still.rest place (no_return client old new still) end ended)

-- where an entry of the list ran, the history has an event
pub ran_within : (since slot : ℕ) (events : List Event) (client : Client) (list : List Entry)
    → IsListOf since slot events client list → (k place : ℕ) (e : Entry) → slice_get list k ≡ Some e
    → RanAt e slot place → place < length events
ran_within since slot events client list of k place e at ran =
    slice_get_within events place _ (of.right k place e at ran).call

-- a call began there before, if none of the client was added
begins_still : (crashes : Bool) (client : Client) (old rest : List Event)
    → ((k : ℕ) (x : Event) → slice_get rest k ≡ Some x → IsNotOf crashes client x) → (place : ℕ)
    → BeginsAt (old ++ rest) client place → BeginsAt old client place
begins_still crashes client old rest none place begins = elim (cases_lt place (length old)) [
  | inl lt ↦ begins_before old rest client place lt begins
  | inr le ↦
      let added = get_added old rest place (call_event client begins.0 begins.1.0) le begins.1.1 in
      absurd (none added.0 (call_event client begins.0 begins.1.0) added.1 refl)
]

-- so a client's list fits what went on without it
pub list_longer : {crashes : Bool} (since slot : ℕ) (client : Client) (old new : List Event) (list : List Entry)
    → IsStillFor crashes client old new → IsListOf since slot old client list → IsListOf since slot new client list
list_longer {crashes} since slot client old new list still of = record {
  right = λ k place e at ran.
      let was = of.right k place e at ran in
      record {
        late = was.late;
        call = subst (λ (es : List Event). CallAt es place client (number_or_zero e.number) e.call) (sym still.is)
            (get_longer old still.rest place _ was.call);
        ended = ended_longer client old new still place e.end was.ended;
      };
  ascend = of.ascend;
  all = λ place late begins.
      of.all place late (begins_still crashes client old still.rest still.none place
      (subst (λ (es : List Event). BeginsAt es client place) still.is begins));
}

-- an entry of a list is one of a longer list
entry_longer : (list more : List Entry) (slot place : ℕ) → HasEntryAt list slot place
    → HasEntryAt (list ++ more) slot place
entry_longer list more slot place has = record {
  index = has.index;
  entry = has.entry;
  at = get_longer list more has.index has.entry has.at;
  ran = has.ran;
}

-- one entry more that did not run in this slot
pub list_elsewhere : (since slot : ℕ) (client : Client) (events : List Event) (list : List Entry) (x : Entry)
    → ((place : ℕ) → RanAt x slot place → ⊥) → IsListOf since slot events client list
    → IsListOf since slot events client (list ++ x ∷ [])
list_elsewhere since slot client events list x apart of = record {
  right = λ k place e at ran. of.right k place e (old k place e at ran) ran;
  ascend = λ j k p q e f less at_j at_k ran_e ran_f.
      of.ascend j k p q e f less (old j p e at_j ran_e) (old k q f at_k ran_f) ran_e ran_f;
  all = λ place late begins. entry_longer list (x ∷ []) slot place (of.all place late begins);
}
  where
    old : (k place : ℕ) (e : Entry) → slice_get (list ++ x ∷ []) k ≡ Some e → RanAt e slot place
        → slice_get list k ≡ Some e
    old k place e at ran = elim (get_push_cases list x k e at) [
      | inl was ↦ was
      | inr new ↦ absurd (apart place (subst (λ (z : Entry). RanAt z slot place) (sym new.1) ran))
    ]

-- a call of the client is no return
no_return_called : (client : Client) (number : ℕ) (call : Call)
    → NoReturnIn client (call_event client number call ∷ [])
no_return_called client number call zero reply at = cc at
no_return_called client number call (suc k) reply at = cc at

-- a call that has just begun is an open entry at the end of the list
module _ (since slot : ℕ) (client : Client) (old : List Event) (list : List Entry) (queue : SlotId)
    (r : Request) (late : since ≤ length old) (of : IsListOf since slot old client list)
    (here : queue.0 ≡ slot) where
  abbrev call_now : Event
  call_now = call_event client (number_or_zero r.number) r.call

  abbrev grown : List Event
  grown = old ++ call_now ∷ []

  abbrev added : Entry
  added = entry_of queue r (Some (length old)) Open

  added_right : IsRunRight since grown client added (length old)
  added_right = record {
    late = late;
    call = get_last old call_now;
    ended = λ end reply ends returns.
        let within : end < length grown = slice_get_within grown end _ returns in
        absurd (omega (arith, within, ends.after, length_push old call_now));
  }

  called_right : (k place : ℕ) (e : Entry) → slice_get (list ++ added ∷ []) k ≡ Some e → RanAt e slot place
      → IsRunRight since grown client e place
  called_right k place e at ran = elim (get_push_cases list added k e at) [
    | inl was ↦
        let right = of.right k place e was ran in
        record {
          late = right.late;
          call = get_longer old (call_now ∷ []) place _ right.call;
          ended =
              ended_grown client old (call_now ∷ []) place (no_return_called client (number_or_zero r.number) r.call) e.end
              right.ended;
        }
    | inr new ↦
        let there : length old ≡ place =
        same_Some (length old) place (ap (λ (z : Entry). z.place) new.1 ∙ ran.1) in
        subst (λ (z : Entry). IsRunRight since grown client z place) new.1
        (subst (λ (p : ℕ). IsRunRight since grown client added p) there added_right)
  ]

  called_ascend : (j k p q : ℕ) (e f : Entry) → j < k → slice_get (list ++ added ∷ []) j ≡ Some e
      → slice_get (list ++ added ∷ []) k ≡ Some f → RanAt e slot p → RanAt f slot q → p < q
  called_ascend j k p q e f less at_j at_k ran_e ran_f = elim (get_push_cases list added j e at_j) [
    | inl was ↦ elim (get_push_cases list added k f at_k) [
      | inl later ↦ of.ascend j k p q e f less was later ran_e ran_f
      | inr new ↦
          let there : length old ≡ q =
          same_Some (length old) q (ap (λ (z : Entry). z.place) new.1 ∙ ran_f.1) in
          let within : p < length old = ran_within since slot old client list of j p e was ran_e in
          omega (arith, there, within)
    ]
    | inr new ↦
        let within : k < length (list ++ added ∷ []) = slice_get_within (list ++ added ∷ []) k f at_k in
        absurd (omega (arith, within, new.0, less, length_push list added))
  ]

  called_all : (place : ℕ) → since ≤ place → BeginsAt grown client place → HasEntryAt (list ++ added ∷ []) slot place
  called_all place late begins = elim (get_push_cases old call_now place _ begins.1.1) [
    | inl was ↦
        entry_longer list (added ∷ []) slot place (of.all place late (begins.0, (begins.1.0, was)))
    | inr new ↦ record {
      index = length list;
      entry = added;
      at = get_last list added;
      ran = (here, ap (λ (p : ℕ). Some p) (sym new.0));
    }
  ]

  called_grown : IsListOf since slot grown client (list ++ added ∷ [])
  called_grown = record { right = called_right; ascend = called_ascend; all = called_all }

-- a call begins
pub list_called : (since slot : ℕ) (client : Client) (old new : List Event) (list : List Entry) (queue : SlotId)
    (r : Request) → since ≤ length old → IsListOf since slot old client list → queue.0 ≡ slot
    → new ≡ old ++ call_event client (number_or_zero r.number) r.call ∷ []
    → IsListOf since slot new client (list ++ entry_of queue r (Some (length old)) Open ∷ [])
list_called since slot client old new list queue r late of here is =
    subst
    (λ (es : List Event). IsListOf since slot es client
    (list ++ entry_of queue r (Some (length old)) Open ∷ []))
    (sym is) (called_grown since slot client old list queue r late of here)

-- the list, where its last entry has another end: what that entry's place and the others' ends have to be
module _ (since slot : ℕ) (client : Client) (old new : List Event) (list : List Entry) (end : End)
    (of : IsListOf since slot old client list) where
  -- the entry that stood there, of the same call
  record WasThere (k : ℕ) (e : Entry) : Type 0 where
    was : Entry
    at : slice_get list k ≡ Some was
    queue : was.queue ≡ e.queue
    place : was.place ≡ e.place

  was_there : (k : ℕ) (e : Entry) → slice_get (with_end end list) k ≡ Some e → WasThere k e
  was_there k e at = elim (with_end_at end list k e at) [
    | inl same ↦ record { was = e; at = same.0; queue = refl; place = refl }
    | inr last ↦ record {
      was = last.was;
      at = last.at;
      queue = ap (λ (z : Entry). z.queue) (sym last.is);
      place = ap (λ (z : Entry). z.place) (sym last.is);
    }
  ]

  ran_there : (k place : ℕ) (e : Entry) → (there : WasThere k e) → RanAt e slot place → RanAt there.was slot place
  ran_there k place e there ran = (ap (λ (q : SlotId). q.0) there.queue ∙ ran.0, there.place ∙ ran.1)

  entry_with_end : (place : ℕ) → HasEntryAt list slot place → HasEntryAt (with_end end list) slot place
  entry_with_end place has = elim (last_or_before list has.index has.entry has.at) [
    | inl before ↦ record {
      index = has.index;
      entry = has.entry;
      at = with_end_before end list has.index has.entry has.at before;
      ran = has.ran;
    }
    | inr last ↦ record {
      index = has.index;
      entry = record has.entry { end = end };
      at = with_end_last end list has.index has.entry has.at last;
      ran = has.ran;
    }
  ]

  list_with_end : ((place : ℕ) → BeginsAt new client place → BeginsAt old client place)
      → ((k place : ℕ) (e : Entry) → slice_get list k ≡ Some e → suc k < length list → RanAt e slot place
      → IsRunRight since old client e place → IsRunRight since new client e place)
      → ((k place : ℕ) (e : Entry) → slice_get list k ≡ Some e → suc k ≡ length list → RanAt e slot place
      → IsRunRight since old client e place → IsRunRight since new client (record e { end = end }) place)
      → IsListOf since slot new client (with_end end list)
  list_with_end began others last = record {
    right = λ k place e at ran. elim (with_end_at end list k e at) [
      | inl same ↦ others k place e same.0 same.1 ran (of.right k place e same.0 ran)
      | inr it ↦
          let own : RanAt it.was slot place =
          subst (λ (z : Entry). RanAt z slot place) it.is ran in
          subst (λ (z : Entry). IsRunRight since new client z place) (sym it.is)
          (last k place it.was it.at it.last own (of.right k place it.was it.at own))
    ];
    ascend = λ j k p q e f less at_j at_k ran_e ran_f.
        let first = was_there j e at_j in
        let second = was_there k f at_k in
        of.ascend j k p q first.was second.was less first.at second.at (ran_there j p e first ran_e)
        (ran_there k q f second ran_f);
    all = λ place late begins. entry_with_end place (of.all place late (began place begins));
  }

-- the last entry did not run in this slot
pub list_ended_elsewhere : (since slot : ℕ) (client : Client) (events : List Event) (list : List Entry) (end : End)
    → ((k place : ℕ) (e : Entry) → slice_get list k ≡ Some e → suc k ≡ length list → RanAt e slot place → ⊥)
    → IsListOf since slot events client list → IsListOf since slot events client (with_end end list)
list_ended_elsewhere since slot client events list end apart of =
    list_with_end since slot client events events list end of (λ place begins. begins)
    (λ k place e at less ran right. right) (λ k place e at last ran right. absurd (apart k place e at last ran))

-- a crash ended it
pub list_interrupted : (since slot : ℕ) (client : Client) (events : List Event) (list : List Entry)
    → ((k place : ℕ) (e : Entry) → slice_get list k ≡ Some e → suc k ≡ length list → RanAt e slot place
    → IsCutOff events client place)
    → IsListOf since slot events client list → IsListOf since slot events client (with_end Interrupted list)
list_interrupted since slot client events list cut of =
    list_with_end since slot client events events list Interrupted of (λ place begins. begins)
    (λ k place e at less ran right. right)
    (λ k place e at last ran right. record {
      late = right.late;
      call = right.call;
      ended = cut k place e at last ran;
    })

-- the call that is under way is the last entry's, if that ran here
module _ (since slot : ℕ) (client : Client) (old : List Event) (list : List Entry) (arises : IsHistory old)
    (of : IsListOf since slot old client list) (way : CallsNow old client) where
  none_later : (k place : ℕ) (e : Entry) → slice_get list k ≡ Some e → suc k ≡ length list → RanAt e slot place
      → place < way.place → ⊥
  none_later k place e at last ran less =
      let right = of.right k place e at ran in
      let has : HasEntryAt list slot way.place =
      of.all way.place (omega (arith, right.late, less)) way.open_from.begins in
      let within : has.index < length list = slice_get_within list has.index has.entry has.at in
      elim (cases_lt has.index k) [
        | inl before ↦
            let lt : way.place < place =
            of.ascend has.index k way.place place has.entry e before has.at at has.ran ran in
            omega (arith, lt, less)
        | inr le ↦
            let same : has.index ≡ k = omega (arith, within, le, last) in
            let entry : has.entry ≡ e = cc (has.at, at, ap (λ (n : ℕ). slice_get list n) same) in
            let there : way.place ≡ place =
            same_Some way.place place (sym has.ran.1 ∙ ap (λ (z : Entry). z.place) entry ∙ ran.1) in
            omega (arith, there, less)
      ]

  under_way_at : (k place : ℕ) (e : Entry) → slice_get list k ≡ Some e → suc k ≡ length list → RanAt e slot place
      → way.place ≡ place
  under_way_at k place e at last ran =
      let call = (of.right k place e at ran).call in
      let within : place < length old = slice_get_within old place _ call in
      elim (cases_lt way.place place) [
        | inl before ↦ absurd ((arises.places place _ call).1.0 (record {
          place = way.place;
          before = before;
          open_from = open_less old client (length old) place way.place (omega (arith, within)) way.open_from;
        }))
        | inr le ↦ elim (cases_lt place way.place) [
          | inl later ↦ absurd (none_later k place e at last ran later)
          | inr other ↦ omega (arith, le, other)
        ]
      ]

  module _ (reply : Reply) (only_last : OnlyLastIsOpen list) where
    abbrev reply_now : Event
    reply_now = return_event client reply

    returned_now : (place : ℕ) → way.place ≡ place → place < length old
        → HasReturned (old ++ reply_now ∷ []) client place reply
    returned_now place same within = record {
      end = length old;
      ends = record {
        after = within;
        ends = inl (reply, get_last old reply_now);
        first = no_end_longer old (reply_now ∷ []) client place (length old) (omega arith)
            (subst (λ (p : ℕ). HasNoEnd old client p (length old)) same way.open_from.no_end);
      };
      returns = get_last old reply_now;
    }

    answered_grown : IsListOf since slot (old ++ reply_now ∷ []) client (with_end (Answered reply) list)
    answered_grown = list_with_end since slot client old (old ++ reply_now ∷ []) list (Answered reply) of
        (λ place begins. elim (get_push_cases old reply_now place _ begins.1.1) [
          | inl was ↦ (begins.0, (begins.1.0, was))
          | inr new ↦ absurd (cc (new.1))
        ])
        (λ k place e at less ran right. record {
          late = right.late;
          call = get_longer old (reply_now ∷ []) place _ right.call;
          ended = closed_grown client old (reply_now ∷ []) place e.end (only_last k e at less) right.ended;
        })
        (λ k place e at last ran right. record {
          late = right.late;
          call = get_longer old (reply_now ∷ []) place _ right.call;
          ended =
              returned_now place (under_way_at k place e at last ran) (slice_get_within old place _ right.call);
        })

-- it is answered
pub list_answered : (since slot : ℕ) (client : Client) (old new : List Event) (list : List Entry) (reply : Reply)
    → IsHistory old → OnlyLastIsOpen list → CallsNow old client → new ≡ old ++ return_event client reply ∷ []
    → IsListOf since slot old client list → IsListOf since slot new client (with_end (Answered reply) list)
list_answered since slot client old new list reply arises only_last way is of =
    subst (λ (es : List Event). IsListOf since slot es client (with_end (Answered reply) list)) (sym is)
    (answered_grown since slot client old list arises of way reply only_last)

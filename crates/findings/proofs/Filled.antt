-- Findings are explained by an order exactly if some filling of the Readys makes it explain the history.
use Rattle.std.proofs.Common.{ℕ, zero, suc, ◌≡◌, ◌<◌, ◌≤◌, ◌+◌, ◌⊎◌, List, []}
use Rattle.std.proofs.Common.{◌∷◌, Option, Some, None, slice_get, get_or}
use Rattle.std.proofs.Common.{length, inl, inr, refl, ap, arith, subst, sym, ◌∙◌, ⊎_elim}
use Rattle.std.specs.Prelude.{EachIndex, replicate}
use Rattle.std.proofs.lemmas.Bool.{cases_lt, cases_eq}
use Rattle.std.proofs.lemmas.Option.{slice_get_within}
use Rattle.words.specs.declared.call.Call.{Call}
use Rattle.words.specs.declared.call.Client.{Client}
use Rattle.words.specs.declared.call.Kind.TheVariants.{Log}
use Rattle.words.specs.declared.call.Reply.{Reply}
use Rattle.words.specs.declared.told.Outcome.{Outcome}
use Rattle.words.specs.declared.told.Outcome.TheVariants.{NotTaken, Taken}
use Rattle.words.specs.declared.told.Told.{Told}
use Rattle.words.specs.declared.told.Told.TheVariants.{None as told_none, Verdict as told_verdict}
use Rattle.events.specs.declared.event.Event.{Event}
use Rattle.events.specs.declared.event.Event.TheVariants.{Call as call_event, Return as return_event}
use Rattle.events.specs.declared.event.Event.TheVariants.{Crash as crash_event, Ready as ready_event}
use Rattle.events.specs.declared.event.Entry.{Entry}
use Rattle.events.specs.Explains.{Explains}
use Rattle.events.specs.History.{CallAt, ReturnAt, CrashAt, ReadyAt, BeginsAt, IsEnd, MayStand, IsDurable}
use Rattle.events.specs.Orders.{IsTakenAs, InOrder, IsNew}
use Rattle.events.specs.Telling.{IsOutcome, Says, IsToldSome, IsToldBase, TellsAt}
use Rattle.events.specs.Telling.{IsNextReady}
use Rattle.events.proofs.Facts.{in_order_from_taken, one_reply, told_if_interrupted}
use Rattle.findings.specs.Findings.{IsLearnt, Agrees, ExplainsFindings}
use Rattle.findings.specs.Filling.{IsInterrupted, IsRecorded, HasEventsOf, TellsOutcome, IsFilling, told_nothing}
use Rattle.findings.specs.Filling.{SomeFillingIsExplained}
use Rattle.findings.proofs.Same.{same_begins, same_end, same_places, same_order, same_answers, same_replays}
use Rattle.findings.proofs.Same.{same_precedence, not_durable}

-- from a filling

same_items : (n k : ℕ) (x y : Told) → slice_get (replicate n x) k ≡ Some y → x ≡ y
same_items zero k x y at = cc
same_items (suc n) zero x y at = cc
same_items (suc n) (suc k) x y at = same_items n k x y at

item_there : (n k : ℕ) (x : Told) → k < n → slice_get (replicate n x) k ≡ Some x
item_there zero k x lt = absurd (omega arith)
item_there (suc n) zero x lt = refl
item_there (suc n) (suc k) x lt = item_there n k x (omega arith)

next_ready_there : (a b : List Event) → HasEventsOf a b → HasEventsOf b a → (e q : ℕ) (tells : List Told)
    → IsNextReady a e q tells → (told : List Told) × IsNextReady b e q told
next_ready_there a b there back e q tells next =
    let now : (told : List Told) × ReadyAt b q told = there.readys q tells next.ready in (
      now.0,
      record {
        after = next.after;
        ready = now.1;
        first = λ k other low high ready.
            let was : (told : List Told) × ReadyAt a k told = back.readys k other ready in
            next.first k was.0 low high was.1;
      },
    )

numbers_there : (a b : List Event) → HasEventsOf b a
    → ((p number : ℕ) (client : Client) (call : Call) → CallAt a p client number call → number ≡ p + 1)
    → (p number : ℕ) (client : Client) (call : Call) → CallAt b p client number call → number ≡ p + 1
numbers_there a b back numbers p number client call at =
    numbers p number client call (back.calls p number client call at)

-- what was learnt is so in an order that explains a filling
filling_agrees : (events : List Event) (learnt : List (Option Outcome)) (filled : List Event) (order : List Entry)
    → IsRecorded events learnt → IsFilling events learnt filled → Explains [] told_nothing filled order
    → Agrees learnt order
filling_agrees events learnt filled order recorded fills explains = record {
  each = λ p outcome is.
      let was : IsInterrupted events p = recorded.interrupted p outcome is in
      let calls : CallAt filled p was.client was.number was.call =
      fills.there.calls p was.number was.client was.call was.begins in
      let ends : IsEnd filled was.client p was.end =
      same_end events filled fills.there fills.back was.client p was.end was.ends in
      let crash : CrashAt filled was.end = fills.there.crashes was.end was.crash in
      let next : (told : List Told) × IsNextReady filled was.end was.ready told =
      next_ready_there events filled fills.there fills.back was.end was.ready was.tells was.next in
      let verdict : slice_get next.0 was.client.0
      ≡ Some (told_verdict (record { number = was.number; outcome = outcome })) =
      (fills.tells p outcome is).tells was.client was.number was.end was.ready was.call next.0 calls ends crash
      next.1 in
      let numbers = numbers_there events filled fills.back recorded.numbers in
      let rightly = (explains.verdicts (not_durable filled numbers) was.ready
      (slice_get_within filled was.ready _ next.1.ready)).told next.0 next.1.ready in
      ⊎_elim
      (λ (some : IsToldSome Log filled order was.client was.ready
      (told_verdict (record { number = was.number; outcome = outcome }))).
      let one : was.number ≡ p + 1 = numbers p was.number was.client was.call calls in
      let other : some.tells.number ≡ some.place + 1 = numbers some.place some.tells.number was.client
      some.tells.begins.call some.tells.begins.begins in
      let same : some.place ≡ p = omega (arith, one, other, some.tells.says.0) in
      subst (λ (n : ℕ). IsOutcome order n outcome) same some.tells.says.1)
      (λ (old : IsToldBase Log told_nothing filled order was.client was.ready
      (told_verdict (record { number = was.number; outcome = outcome }))).
      let none : told_none ≡ told_verdict (record { number = was.number; outcome = outcome }) =
      same_items 16 was.client.0 told_none _ old.same in
      cc (none))
      (rightly.each was.client (told_verdict (record { number = was.number; outcome = outcome })) verdict);
}

-- so the order explains the findings
pub findings_from_filling : (events : List Event) (learnt : List (Option Outcome)) (order : List Entry)
    → IsRecorded events learnt → SomeFillingIsExplained events learnt order → ExplainsFindings events learnt order
findings_from_filling events learnt order recorded some =
    let there : HasEventsOf some.filled events = some.fills.back in
    let back : HasEventsOf events some.filled = some.fills.there in
    record {
      is_order = same_order some.filled events there back order some.explains.is_order;
      answers = same_answers some.filled events there back order some.explains.answers;
      replays = same_replays some.filled events there back [] order some.explains.replays;
      precedence = same_precedence some.filled events there back order some.explains.precedence;
      agrees = filling_agrees events learnt some.filled order recorded some.fills some.explains;
    }

-- to a filling: each client's last call before a place

record HasLast (events : List Event) (client : Client) (q : ℕ) : Type 0 where
  place : ℕ
  before : place < q
  number : ℕ
  call : Call
  begins : CallAt events place client number call
  none : (r : ℕ) → place < r → r < q → BeginsAt events client r → ⊥

record HasNone (events : List Event) (client : Client) (q : ℕ) : Type 0 where
  none : (r : ℕ) → r < q → BeginsAt events client r → ⊥

begins_or_not : (events : List Event) (client : Client) (k : ℕ)
    → BeginsAt events client k ⊎ (BeginsAt events client k → ⊥)
begins_or_not events client k = go (slice_get events k) refl
  where
    go : (at : Option Event) → slice_get events k ≡ at → BeginsAt events client k ⊎ (BeginsAt events client k → ⊥)
    go None at = inr (λ begins. cc (at, begins.1.1))
    go (Some (call_event other number call)) at =
        ⊎_elim
        (λ (same : other.0 ≡ client.0).
        inl (number, (call, at ∙ ap (λ (n : ℕ). Some (call_event (record { 0 = n }) number call)) same)))
        (λ differ. inr (λ begins. differ (cc (at, begins.1.1))))
        (cases_eq other.0 client.0)
    go (Some (return_event other reply)) at = inr (λ begins. cc (at, begins.1.1))
    go (Some crash_event) at = inr (λ begins. cc (at, begins.1.1))
    go (Some (ready_event told)) at = inr (λ begins. cc (at, begins.1.1))

last_or_none : (events : List Event) (client : Client) (q : ℕ) → HasLast events client q ⊎ HasNone events client q
last_or_none events client zero = inr (record { none = λ r lt begins. absurd (omega arith) })
last_or_none events client (suc q) = go (begins_or_not events client q) (last_or_none events client q)
  where
    at_most : (r : ℕ) → r < suc q → (BeginsAt events client q → ⊥) → BeginsAt events client r → r < q
    at_most r lt none begins = ⊎_elim (λ (less : r < q). less)
        (λ (ge : q ≤ r). let same : r ≡ q = omega arith in absurd (none (subst (BeginsAt events client) same begins)))
        (cases_lt r q)

    go : BeginsAt events client q ⊎ (BeginsAt events client q → ⊥)
        → HasLast events client q ⊎ HasNone events client q
        → HasLast events client (suc q) ⊎ HasNone events client (suc q)
    go here before =
        ⊎_elim
        (λ (begins : BeginsAt events client q). inl (record {
          place = q;
          before = omega arith;
          number = begins.0;
          call = begins.1.0;
          begins = begins.1.1;
          none = λ r low high other. absurd (omega arith);
        }))
        (λ (none : BeginsAt events client q → ⊥). ⊎_elim
        (λ (last : HasLast events client q). inl (record {
          place = last.place;
          before = omega (arith, last.before);
          number = last.number;
          call = last.call;
          begins = last.begins;
          none = λ r low high begins. last.none r low (at_most r high none begins) begins;
        }))
        (λ (no : HasNone events client q).
        inr (record { none = λ r high begins. no.none r (at_most r high none begins) begins }))
        before)
        here

-- whether a call is in the order, and how
taken_or_not : (order : List Entry) (p : ℕ) → ((reply : Reply) × IsTakenAs order p reply) ⊎ (InOrder order p → ⊥)
taken_or_not [] p = inr (λ (k, x, lt, is, place). absurd (omega (arith, lt)))
taken_or_not (x ∷ xs) p = go (cases_eq x.place p) (taken_or_not xs p)
  where
    neither : (x.place ≡ p → ⊥) → (InOrder xs p → ⊥) → (k : ℕ) (y : Entry) → k < length (x ∷ xs)
        → get_or (x ∷ xs) k y ≡ y → y.place ≡ p → ⊥
    neither differ none zero y lt is place = differ (ap (λ (e : Entry). e.place) is ∙ place)
    neither differ none (suc k) y lt is place = none (k, y, omega (arith, lt), is, place)

    go : (x.place ≡ p) ⊎ (x.place ≡ p → ⊥)
        → ((reply : Reply) × IsTakenAs xs p reply) ⊎ (InOrder xs p → ⊥)
        → ((reply : Reply) × IsTakenAs (x ∷ xs) p reply) ⊎ (InOrder (x ∷ xs) p → ⊥)
    go here later =
        ⊎_elim
        (λ (same : x.place ≡ p). inl (
          x.reply,
          (
            0,
            omega arith,
            ap (λ (n : ℕ). let e : Entry = record { place = n; reply = x.reply } in e) same,
          ),
        ))
        (λ (differ : x.place ≡ p → ⊥). ⊎_elim
        (λ (taken : (reply : Reply) × IsTakenAs xs p reply).
        inl (taken.0, (suc taken.1.0, omega (arith, taken.1.1), taken.1.2)))
        (λ (none : InOrder xs p → ⊥). inr (λ (k, y, lt, is, place). neither differ none k y lt is place))
        later)
        here

outcome_of : (order : List Entry) (p : ℕ) → ((reply : Reply) × IsTakenAs order p reply) ⊎ (InOrder order p → ⊥)
    → Outcome
outcome_of order p (inl taken) = Taken taken.0
outcome_of order p (inr none) = NotTaken

outcome_is : (order : List Entry) (p : ℕ)
    → (t : ((reply : Reply) × IsTakenAs order p reply) ⊎ (InOrder order p → ⊥))
    → IsOutcome order p (outcome_of order p t)
unfolding outcome_of
outcome_is order p (inl taken) = taken.1
outcome_is order p (inr none) = none

outcome_same : (order : List Entry) (p : ℕ) → EachIndex order (λ i. IsNew order i)
    → (t : ((reply : Reply) × IsTakenAs order p reply) ⊎ (InOrder order p → ⊥)) → (outcome : Outcome)
    → IsOutcome order p outcome → outcome_of order p t ≡ outcome
unfolding outcome_of
outcome_same order p once (inl taken) (Taken reply) is = ap Taken (one_reply order once p taken.0 reply taken.1 is)
outcome_same order p once (inl taken) NotTaken is = absurd (is (in_order_from_taken order p taken.0 taken.1))
outcome_same order p once (inr none) (Taken reply) is = absurd (none (in_order_from_taken order p reply is))
outcome_same order p once (inr none) NotTaken is = refl

told_by : (events : List Event) (order : List Entry) (client : Client) (q : ℕ)
    → HasLast events client q ⊎ HasNone events client q → Told
told_by events order client q (inl last) =
    told_verdict
    (record { number = last.place + 1; outcome = outcome_of order last.place (taken_or_not order last.place) })
told_by events order client q (inr none) = told_none

-- so many items of a function, from one number on
items_from : (ℕ → Told) → ℕ → ℕ → List Told
items_from f zero k = []
items_from f (suc n) k = f k ∷ items_from f n (suc k)

length_items : (f : ℕ → Told) (n k : ℕ) → length (items_from f n k) ≡ n
unfolding items_from
length_items f zero k = refl
length_items f (suc n) k = ap suc (length_items f n (suc k))

items_at : (f : ℕ → Told) (n k i : ℕ) → i < n → slice_get (items_from f n k) i ≡ Some (f (k + i))
unfolding items_from
items_at f zero k i lt = absurd (omega arith)
items_at f (suc n) k zero lt = let same : k ≡ k + 0 = omega arith in ap (λ (m : ℕ). Some (f m)) same
items_at f (suc n) k (suc i) lt =
    let same : suc k + i ≡ k + suc i = omega arith in
    items_at f n (suc k) i (omega arith) ∙ ap (λ (m : ℕ). Some (f m)) same

-- what a Ready at q tells
tells_of : List Event → List Entry → ℕ → List Told
tells_of events order q =
    items_from (λ c. told_by events order (record { 0 = c }) q (last_or_none events (record { 0 = c }) q)) 16 0

length_tells : (events : List Event) (order : List Entry) (q : ℕ) → length (tells_of events order q) ≡ 16
unfolding tells_of
length_tells events order q = length_items _ 16 0

tells_at : (events : List Event) (order : List Entry) (q : ℕ) (client : Client) → client.0 < 16
    → slice_get (tells_of events order q) client.0
    ≡ Some (told_by events order client q (last_or_none events client q))
unfolding tells_of
tells_at events order q client lt =
    let same : 0 + client.0 ≡ client.0 = omega arith in
    items_at _ 16 0 client.0 lt
    ∙ ap (λ (c : ℕ). Some (told_by events order (record { 0 = c }) q (last_or_none events (record { 0 = c }) q))) same

filled_event : List Event → List Entry → ℕ → Event → Event
filled_event events order q (call_event client number call) = call_event client number call
filled_event events order q (return_event client reply) = return_event client reply
filled_event events order q crash_event = crash_event
filled_event events order q (ready_event told) = ready_event (tells_of events order q)

filled_from : List Event → List Entry → ℕ → List Event → List Event
filled_from events order k [] = []
filled_from events order k (x ∷ xs) = filled_event events order k x ∷ filled_from events order (suc k) xs

filled_get : (events : List Event) (order : List Entry) (k : ℕ) (xs : List Event) (p : ℕ) (x : Event)
    → slice_get xs p ≡ Some x → slice_get (filled_from events order k xs) p ≡ Some (filled_event events order (k + p) x)
unfolding filled_from
filled_get events order k [] p x at = cc
filled_get events order k (y ∷ xs) zero x at =
    let same : k ≡ k + 0 = omega arith in
    let here : y ≡ x = cc (at) in
    ap (λ (m : ℕ). Some (filled_event events order m y)) same
    ∙ ap (λ (e : Event). Some (filled_event events order (k + 0) e)) here
filled_get events order k (y ∷ xs) (suc p) x at =
    let same : suc k + p ≡ k + suc p = omega arith in
    filled_get events order (suc k) xs p x at ∙ ap (λ (m : ℕ). Some (filled_event events order m x)) same

-- what stands in the filled history stood there, filled
record WasFilled (events : List Event) (order : List Entry) (p : ℕ) (y : Event) : Type 0 where
  event : Event
  at : slice_get events p ≡ Some event
  is : y ≡ filled_event events order p event

filled_back : (events : List Event) (order : List Entry) (k : ℕ) (xs : List Event) (p : ℕ) (y : Event)
    → slice_get (filled_from events order k xs) p ≡ Some y
    → (x : Event) × (slice_get xs p ≡ Some x) × (y ≡ filled_event events order (k + p) x)
unfolding filled_from
filled_back events order k [] p y at = cc
filled_back events order k (x ∷ xs) zero y at =
    let same : k ≡ k + 0 = omega arith in
    let here : filled_event events order k x ≡ y = cc (at) in
    (x, refl, sym here ∙ ap (λ (m : ℕ). filled_event events order m x) same)
filled_back events order k (x ∷ xs) (suc p) y at =
    let same : suc k + p ≡ k + suc p = omega arith in
    let found = filled_back events order (suc k) xs p y at in
    (found.0, found.1, found.2 ∙ ap (λ (m : ℕ). filled_event events order m found.0) same)

filling : List Event → List Entry → List Event
filling events order = filled_from events order 0 events

was_filled : (events : List Event) (order : List Entry) (p : ℕ) (y : Event)
    → slice_get (filling events order) p ≡ Some y → WasFilled events order p y
unfolding filling
was_filled events order p y at =
    let found = filled_back events order 0 events p y at in
    let same : 0 + p ≡ p = omega arith in
    record {
      event = found.0;
      at = found.1;
      is = found.2 ∙ ap (λ (m : ℕ). filled_event events order m found.0) same;
    }

is_filled : (events : List Event) (order : List Entry) (p : ℕ) (x : Event) → slice_get events p ≡ Some x
    → slice_get (filling events order) p ≡ Some (filled_event events order p x)
unfolding filling
is_filled events order p x at =
    let same : 0 + p ≡ p = omega arith in
    filled_get events order 0 events p x at ∙ ap (λ (m : ℕ). Some (filled_event events order m x)) same

filling_there : (events : List Event) (order : List Entry) → HasEventsOf events (filling events order)
unfolding filled_event
filling_there events order = record {
  calls = λ p number client call at. is_filled events order p _ at;
  returns = λ p client reply at. is_filled events order p _ at;
  crashes = λ p at. is_filled events order p _ at;
  readys = λ p tells at. (tells_of events order p, is_filled events order p _ at);
}

filling_back : (events : List Event) (order : List Entry) → HasEventsOf (filling events order) events
unfolding filled_event
filling_back events order = record {
  calls = λ p number client call at. call_case p number client call (was_filled events order p _ at);
  returns = λ p client reply at. return_case p client reply (was_filled events order p _ at);
  crashes = λ p at. crash_case p (was_filled events order p _ at);
  readys = λ p tells at. ready_case p tells (was_filled events order p _ at);
}
  where
    call_go : (p number : ℕ) (client : Client) (call : Call) (x : Event) → slice_get events p ≡ Some x
        → call_event client number call ≡ filled_event events order p x → CallAt events p client number call
    call_go p number client call (call_event c n k) at is = at ∙ ap Some (sym is)
    call_go p number client call (return_event c r) at is = cc (is)
    call_go p number client call crash_event at is = cc (is)
    call_go p number client call (ready_event t) at is = cc (is)

    call_case : (p number : ℕ) (client : Client) (call : Call)
        → WasFilled events order p (call_event client number call) → CallAt events p client number call
    call_case p number client call was = call_go p number client call was.event was.at was.is

    return_go : (p : ℕ) (client : Client) (reply : Reply) (x : Event) → slice_get events p ≡ Some x
        → return_event client reply ≡ filled_event events order p x → ReturnAt events p client reply
    return_go p client reply (call_event c n k) at is = cc (is)
    return_go p client reply (return_event c r) at is = at ∙ ap Some (sym is)
    return_go p client reply crash_event at is = cc (is)
    return_go p client reply (ready_event t) at is = cc (is)

    return_case : (p : ℕ) (client : Client) (reply : Reply) → WasFilled events order p (return_event client reply)
        → ReturnAt events p client reply
    return_case p client reply was = return_go p client reply was.event was.at was.is

    crash_go : (p : ℕ) (x : Event) → slice_get events p ≡ Some x → crash_event ≡ filled_event events order p x
        → CrashAt events p
    crash_go p (call_event c n k) at is = cc (is)
    crash_go p (return_event c r) at is = cc (is)
    crash_go p crash_event at is = at
    crash_go p (ready_event t) at is = cc (is)

    crash_case : (p : ℕ) → WasFilled events order p crash_event → CrashAt events p
    crash_case p was = crash_go p was.event was.at was.is

    ready_go : (p : ℕ) (tells : List Told) (x : Event) → slice_get events p ≡ Some x
        → ready_event tells ≡ filled_event events order p x → (told : List Told) × ReadyAt events p told
    ready_go p tells (call_event c n k) at is = cc (is)
    ready_go p tells (return_event c r) at is = cc (is)
    ready_go p tells crash_event at is = cc (is)
    ready_go p tells (ready_event t) at is = (t, at)

    ready_case : (p : ℕ) (tells : List Told) → WasFilled events order p (ready_event tells)
        → (told : List Told) × ReadyAt events p told
    ready_case p tells was = ready_go p tells was.event was.at was.is

-- what a Ready tells there
tells_is : (events : List Event) (order : List Entry) (q : ℕ) (tells : List Told)
    → ReadyAt (filling events order) q tells → tells ≡ tells_of events order q
unfolding filled_event
tells_is events order q tells at = go (was_filled events order q (ready_event tells) at)
  where
    by_event : (x : Event) → ready_event tells ≡ filled_event events order q x → tells ≡ tells_of events order q
    by_event (call_event c n k) is = cc (is)
    by_event (return_event c r) is = cc (is)
    by_event crash_event is = cc (is)
    by_event (ready_event t) is = cc (is)

    go : WasFilled events order q (ready_event tells) → tells ≡ tells_of events order q
    go was = by_event was.event was.is

-- a client is told rightly of its last call
told_rightly : (events : List Event) (learnt : List (Option Outcome)) (order : List Entry)
    → IsRecorded events learnt → (client : Client) → client.0 < 16 → (q : ℕ) (told : Told)
    → (s : HasLast events client q ⊎ HasNone events client q) → told ≡ told_by events order client q s
    → IsToldSome Log (filling events order) order client q told
    ⊎ IsToldBase Log told_nothing (filling events order) order client q told
unfolding told_by
told_rightly events learnt order recorded client small q told (inl last) is = inl (record {
  place = last.place;
  before = last.before;
  tells = record {
    number = last.place + 1;
    begins = record {
      call = last.call;
      begins = subst (λ (n : ℕ). CallAt (filling events order) last.place client n last.call)
          (recorded.numbers last.place last.number client last.call last.begins)
          ((filling_there events order).calls last.place last.number client last.call last.begins);
      told_of = tt;
    };
    last = record {
      none = λ p low high taken. last.none p (omega arith) high
          (same_begins (filling events order) events (filling_back events order) client p
          (taken.number, (taken.begins.call, taken.begins.begins)));
    };
    says = subst (Says Log order last.place (last.place + 1)) (sym is)
        (refl, outcome_is order last.place (taken_or_not order last.place));
  };
})
told_rightly events learnt order recorded client small q told (inr none) is = inr (record {
  none = record {
    none = λ p low high taken. none.none p high
        (same_begins (filling events order) events (filling_back events order) client p
        (taken.number, (taken.begins.call, taken.begins.begins)));
  };
  same = item_there 16 client.0 told_none small ∙ ap Some (sym is);
})

small_client : (told : List Told) (client : Client) (now : Told) → length told ≡ 16 → slice_get told client.0 ≡ Some now
    → client.0 < 16
small_client told client now sixteen at = let lt : client.0 < length told = slice_get_within told client.0 now at in
    omega arith

filling_tells : (events : List Event) (learnt : List (Option Outcome)) (order : List Entry)
    → IsRecorded events learnt → EachIndex (filling events order)
    (λ q. TellsAt Log told_nothing (filling events order) order q)
filling_tells events learnt order recorded q lt = record {
  told = λ tells ready. record {
    each = λ client told at.
        let is : tells ≡ tells_of events order q = tells_is events order q tells ready in
        let sixteen : length tells ≡ 16 = ap length is ∙ length_tells events order q in
        let small : client.0 < 16 = small_client tells client told sixteen at in
        let both : Some told ≡ Some (told_by events order client q (last_or_none events client q)) =
        sym at ∙ ap (λ (xs : List Told). slice_get xs client.0) is ∙ tells_at events order q client small in
        told_rightly events learnt order recorded client small q told (last_or_none events client q) (cc (both));
  };
}

filling_sixteen : (events : List Event) (order : List Entry) (q : ℕ) (told : List Told)
    → ReadyAt (filling events order) q told → length told ≡ 16
filling_sixteen events order q told ready =
    ap length (tells_is events order q told ready) ∙ length_tells events order q

-- no call of the client stands between its interrupted call and the next Ready
none_between : (events : List Event)
    → ((p : ℕ) (event : Event) → slice_get events p ≡ Some event → MayStand events p event)
    → (client : Client) (p e q : ℕ) (tells : List Told) → BeginsAt events client p → IsEnd events client p e
    → CrashAt events e → IsNextReady events e q tells → (r : ℕ) → p < r → r < q → BeginsAt events client r → ⊥
none_between events places client p e q tells begins end crash next r after before later =
    ⊎_elim
    (λ (lt : r < e). (places r _ later.1.1).1.0 (record {
      place = p;
      before = after;
      open_from = record { begins = begins; no_end = λ k low high. end.first k low (omega arith) };
    }))
    (λ (le : e ≤ r). ⊎_elim
    (λ (lt : e < r). (places r _ later.1.1).1.1 (record {
      place = e;
      before = lt;
      crash = crash;
      no_ready = λ k told low high. next.first k told low (omega arith);
    }))
    (λ (more : r ≤ e). let same : r ≡ e = omega arith in let at : BeginsAt events client e =
    subst (BeginsAt events client) same later in cc (at.1.1, crash))
    (cases_lt e r))
    (cases_lt r e)

-- the next Ready tells what was learnt of a call, since it is its client's last one
told_learnt : (events : List Event) (order : List Entry)
    → ((p number : ℕ) (client : Client) (call : Call) → CallAt events p client number call → number ≡ p + 1)
    → EachIndex order (λ i. IsNew order i) → (client : Client) (p number q : ℕ) (call : Call) (outcome : Outcome)
    → CallAt events p client number call → p < q
    → ((r : ℕ) → p < r → r < q → BeginsAt events client r → ⊥) → IsOutcome order p outcome
    → (s : HasLast events client q ⊎ HasNone events client q)
    → told_by events order client q s ≡ told_verdict (record { number = number; outcome = outcome })
unfolding told_by
told_learnt events order numbers once client p number q call outcome at before none is (inl last) =
    let same : last.place ≡ p = ⊎_elim
    (λ (lt : last.place < p). absurd (last.none p lt before (number, (call, at))))
    (λ (le : p ≤ last.place). ⊎_elim
    (λ (lt : p < last.place). absurd (none last.place lt last.before (last.number, (last.call, last.begins))))
    (λ (ge : last.place ≤ p). omega arith)
    (cases_lt p last.place))
    (cases_lt last.place p) in
    let its : number ≡ last.place + 1 = omega (arith, same, numbers p number client call at) in
    let outcomes : outcome_of order last.place (taken_or_not order last.place) ≡ outcome =
    outcome_same order last.place once (taken_or_not order last.place) outcome
    (subst (λ (n : ℕ). IsOutcome order n outcome) (sym same) is) in
    ap (λ (n : ℕ). told_verdict (record {
      number = n;
      outcome = outcome_of order last.place
          (taken_or_not order last.place);
    })) (sym its)
    ∙ ap (λ (o : Outcome). told_verdict (record { number = number; outcome = o })) outcomes
told_learnt events order numbers once client p number q call outcome at before none is (inr nobody) =
    absurd (nobody.none p before (number, (call, at)))

filling_learnt : (events : List Event) (learnt : List (Option Outcome)) (order : List Entry)
    → IsRecorded events learnt → ExplainsFindings events learnt order → (p : ℕ) (outcome : Outcome)
    → IsLearnt learnt p outcome → TellsOutcome (filling events order) p outcome
filling_learnt events learnt order recorded explains p outcome is = record {
  tells = λ client number end ready call told at ends crash next.
      let there : HasEventsOf (filling events order) events = filling_back events order in
      let back : HasEventsOf events (filling events order) = filling_there events order in
      let calls : CallAt events p client number call = there.calls p number client call at in
      let begins : BeginsAt events client p = (number, (call, calls)) in
      let was_end : IsEnd events client p end = same_end (filling events order) events there back client p end ends in
      let was_next = next_ready_there (filling events order) events there back end ready told next in
      let was_crash : CrashAt events end = there.crashes end crash in
      let small : client.0 < 16 = (recorded.arises.places p _ calls).0 in
      let before : p < ready = omega (arith, ends.after, next.after) in
      ap (λ (xs : List Told). slice_get xs client.0) (tells_is events order ready told next.ready)
      ∙ tells_at events order ready client small
      ∙ ap Some
      (told_learnt events order recorded.numbers explains.is_order.once client p number ready call outcome calls
      before
      (none_between events recorded.arises.places client p end ready was_next.0 begins was_end was_crash was_next.1)
      (explains.agrees.each p outcome is) (last_or_none events client ready));
}

pub filling_from_findings : (events : List Event) (learnt : List (Option Outcome)) (order : List Entry)
    → IsRecorded events learnt → ExplainsFindings events learnt order → SomeFillingIsExplained events learnt order
filling_from_findings events learnt order recorded explains =
    let there : HasEventsOf events (filling events order) = filling_there events order in
    let back : HasEventsOf (filling events order) events = filling_back events order in
    let places : (p : ℕ) (event : Event) → slice_get (filling events order) p ≡ Some event
    → MayStand (filling events order) p event =
    same_places events (filling events order) there back recorded.arises.places in
    let not : IsDurable (filling events order) → ⊥ =
    not_durable (filling events order) (numbers_there events (filling events order) back recorded.numbers) in
    record {
      filled = filling events order;
      fills = record {
        there = there;
        back = back;
        sixteen = filling_sixteen events order;
        tells = filling_learnt events learnt order recorded explains;
      };
      arises = record { places = places; numbers = λ durable. absurd (not durable) };
      explains = record {
        is_order = same_order events (filling events order) there back order explains.is_order;
        answers = same_answers events (filling events order) there back order explains.answers;
        replays = same_replays events (filling events order) there back [] order explains.replays;
        precedence = same_precedence events (filling events order) there back order explains.precedence;
        verdicts = λ log. filling_tells events learnt order recorded;
        interrupted = λ log. told_if_interrupted told_nothing (filling events order) order places
            explains.is_order.once (filling_sixteen events order) (filling_tells events learnt order recorded);
        rows = λ durable. absurd (not durable);
      };
    }

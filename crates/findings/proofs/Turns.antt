-- The replay of an order, by what was put so far and how many values were got.
use Rattle.std.proofs.Common.{ℕ, zero, suc, ◌≡◌, ◌<◌, ◌≤◌, ◌+◌, ◌⊎◌, List, [], ◌∷◌, ◌++◌, Option, Some, None, slice_get}
use Rattle.std.proofs.Common.{get_or, length, take, drop, inl, inr, refl, ap, arith}
use Rattle.std.proofs.Common.{subst, sym, ◌∙◌, ⊎_elim, append-nil}
use Rattle.std.proofs.lemmas.Bool.{cases_lt}
use Rattle.std.proofs.lemmas.Option.{slice_get_within, slice_get-get_or, get_or_from_slice_get}
use Rattle.words.specs.PlainQueue.{Value, reply_of}
use Rattle.words.specs.declared.call.Call.{Call}
use Rattle.words.specs.declared.call.Call.TheVariants.{Enq, Deq}
use Rattle.words.specs.declared.call.Reply.{Reply}
use Rattle.words.specs.declared.call.Reply.TheVariants.{Done, Got, Empty}
use Rattle.events.specs.declared.event.Event.{Event}
use Rattle.events.specs.declared.event.Entry.{Entry}
use Rattle.events.specs.Replay.{call_at, queue_after, IsServed, Replays}
use Rattle.events.proofs.Facts.{get_last, get_longer, get_push_cases}
use Rattle.history.specs.Counting.{values_of_call, values_of_order, dequeue_count}
use Rattle.history.proofs.Facts.{IsCounted, counted_more, front_reply, put_more, reply_at_front}

-- what was put before the entry at i, the base first
abbrev pub put_before : List Event → List Value → List Entry → ℕ → List Value
put_before events base order i = base ++ values_of_order events (take i order)

abbrev pub count_at : Option Entry → ℕ
count_at None = 0
count_at (Some entry) = dequeue_count entry.reply

-- how many values were got before it
pub got_before : List Entry → ℕ → ℕ
got_before order zero = 0
got_before order (suc i) = got_before order i + count_at (slice_get order i)

pub got_before_none : (order : List Entry) → got_before order 0 ≡ 0
unfolding got_before
got_before_none order = refl

pub got_before_next : (order : List Entry) (i : ℕ) (x : Entry) → slice_get order i ≡ Some x
    → got_before order (suc i) ≡ got_before order i + dequeue_count x.reply
unfolding got_before
got_before_next order i x at = ap (λ (o : Option Entry). got_before order i + count_at o) at

no_entry : Entry
no_entry = record { place = 0; reply = Done }

-- the entry at a place
pub entry_at : (order : List Entry) (i : ℕ) → i < length order → (x : Entry) × (slice_get order i ≡ Some x)
entry_at order i lt = (get_or order i no_entry, slice_get-get_or order i no_entry lt)

pub put_next : (events : List Event) (base : List Value) (order : List Entry) (i : ℕ) (x : Entry)
    → slice_get order i ≡ Some x
    → put_before events base order (i + 1) ≡ put_before events base order i ++ values_of_call (call_at events x.place)
put_next events base order i x at =
    put_more events base order i x (slice_get_within order i x at)
    ∙ ap (λ (e : Entry). put_before events base order i ++ values_of_call (call_at events e.place))
    (get_or_from_slice_get order i x x at)

-- the queue is what was put, without as many values as were got
pub counted : (events : List Event) (base : List Value) (order : List Entry) → Replays events base order → (i : ℕ)
    → i ≤ length order → IsCounted events base order i (got_before order i)
counted events base order replays zero le = record {
  within = omega (arith, got_before_none order);
  queue = sym (append-nil base) ∙ ap (λ (n : ℕ). drop n (base ++ [])) (sym (got_before_none order));
}
counted events base order replays (suc i) le =
    let lt : i < length order = omega arith in
    let here = entry_at order i lt in
    let so_far = counted events base order replays i (omega arith) in
    let is : get_or order i here.0 ≡ here.0 = get_or_from_slice_get order i here.0 here.0 here.1 in
    let next : IsCounted events base order (i + 1) (got_before order i + dequeue_count here.0.reply) =
    counted_more events base order i (got_before order i) (dequeue_count here.0.reply) here.0 lt so_far
    (subst (IsServed events (queue_after events base (take i order))) (sym is) ((replays i lt).served here.0 here.1))
    (ap (λ (e : Entry). dequeue_count e.reply) (sym is)) in
    let count : got_before order i + dequeue_count here.0.reply ≡ got_before order (suc i) =
    sym (got_before_next order i here.0 here.1) in
    let one : i + 1 ≡ suc i = omega arith in
    subst (λ (n : ℕ). IsCounted events base order n (got_before order (suc i))) one
    (subst (IsCounted events base order (i + 1)) count next)

-- what was put stays put
pub put_longer : (events : List Event) (base : List Value) (order : List Entry) (i j a : ℕ) (value : Value) → i ≤ j
    → j ≤ length order → slice_get (put_before events base order i) a ≡ Some value
    → slice_get (put_before events base order j) a ≡ Some value
put_longer events base order i zero a value le within at =
    let same : i ≡ zero = omega arith in
    subst (λ (n : ℕ). slice_get (put_before events base order n) a ≡ Some value) same at
put_longer events base order i (suc j) a value le within at =
    ⊎_elim
    (λ (lt : i < suc j).
    let here = entry_at order j (omega arith) in
    let before : slice_get (put_before events base order j) a ≡ Some value =
    put_longer events base order i j a value (omega arith) (omega arith) at in
    let one : j + 1 ≡ suc j = omega arith in
    subst (λ (n : ℕ). slice_get (put_before events base order n) a ≡ Some value) one
    (subst (λ (xs : List Value). slice_get xs a ≡ Some value) (sym (put_next events base order j here.0 here.1))
    (get_longer (put_before events base order j) (values_of_call (call_at events here.0.place)) a value before)))
    (λ (ge : suc j ≤ i).
    let same : i ≡ suc j = omega arith in
    subst (λ (n : ℕ). slice_get (put_before events base order n) a ≡ Some value) same at)
    (cases_lt i (suc j))

-- an entry at i puts the value
pub record IsPutAt (events : List Event) (order : List Entry) (i : ℕ) (value : Value) : Type 0 where
  pub entry : Entry
  pub at : slice_get order i ≡ Some entry
  pub puts : call_at events entry.place ≡ Some (Enq value)

-- it stands behind all that was put before
pub put_here : (events : List Event) (base : List Value) (order : List Entry) (k : ℕ) (value : Value)
    → IsPutAt events order k value
    → slice_get (put_before events base order (k + 1)) (length (put_before events base order k)) ≡ Some value
put_here events base order k value put =
    subst (λ (xs : List Value). slice_get xs (length (put_before events base order k)) ≡ Some value)
    (sym (put_next events base order k put.entry put.at
    ∙ ap (λ (o : Option Call). put_before events base order k ++ values_of_call o) put.puts))
    (get_last (put_before events base order k) value)

pub put_before_here : (events : List Event) (base : List Value) (order : List Entry) (k i : ℕ) (value : Value) → k < i
    → i ≤ length order → IsPutAt events order k value
    → slice_get (put_before events base order i) (length (put_before events base order k)) ≡ Some value
put_before_here events base order k i value lt within put =
    put_longer events base order (k + 1) i _ value (omega arith) within (put_here events base order k value put)

pub base_before : (events : List Event) (base : List Value) (order : List Entry) (i a : ℕ) (value : Value)
    → slice_get base a ≡ Some value → slice_get (put_before events base order i) a ≡ Some value
base_before events base order i a value at = get_longer base (values_of_order events (take i order)) a value at

-- an entry before i put the value at this place
pub record IsPutBefore (events : List Event) (base : List Value) (order : List Entry) (i a : ℕ)
    (value : Value) : Type 0 where
  pub index : ℕ
  pub before : index < i
  pub put : IsPutAt events order index value
  pub place : a ≡ length (put_before events base order index)

-- what was put, the base has or an entry put
pub put_from : (events : List Event) (base : List Value) (order : List Entry) (i a : ℕ) (value : Value)
    → i ≤ length order
    → slice_get (put_before events base order i) a ≡ Some value
    → (slice_get base a ≡ Some value) ⊎ IsPutBefore events base order i a value
put_from events base order zero a value le at =
    inl (subst (λ (xs : List Value). slice_get xs a ≡ Some value) (append-nil base) at)
put_from events base order (suc i) a value le at =
    let here = entry_at order i (omega arith) in
    let one : suc i ≡ i + 1 = omega arith in
    go (λ (before : slice_get (put_before events base order i) a ≡ Some value).
    later (put_from events base order i a value (omega arith) before))
    here.0 here.1 (call_at events here.0.place) refl
    (subst (λ (xs : List Value). slice_get xs a ≡ Some value) (put_next events base order i here.0 here.1)
    (subst (λ (n : ℕ). slice_get (put_before events base order n) a ≡ Some value) one at))
  where
    later : (slice_get base a ≡ Some value) ⊎ IsPutBefore events base order i a value
        → (slice_get base a ≡ Some value) ⊎ IsPutBefore events base order (suc i) a value
    later before = ⊎_elim (λ (base_has : slice_get base a ≡ Some value). inl base_has)
        (λ (put : IsPutBefore events base order i a value). inr (record {
          index = put.index;
          before = omega (arith, put.before);
          put = put.put;
          place = put.place;
        }))
        before

    go : (slice_get (put_before events base order i) a ≡ Some value
        → (slice_get base a ≡ Some value) ⊎ IsPutBefore events base order (suc i) a value)
        → (x : Entry) → slice_get order i ≡ Some x → (call : Option Call) → call_at events x.place ≡ call
        → slice_get (put_before events base order i ++ values_of_call call) a ≡ Some value
        → (slice_get base a ≡ Some value) ⊎ IsPutBefore events base order (suc i) a value
    go old x at_x (Some (Enq other)) calls now =
        ⊎_elim
        (λ (before : slice_get (put_before events base order i) a ≡ Some value). old before)
        (λ (new : (a ≡ length (put_before events base order i)) × (other ≡ value)). inr (record {
          index = i;
          before = omega arith;
          put = record { entry = x; at = at_x; puts = calls ∙ ap (λ (v : Value). Some (Enq v)) new.1 };
          place = new.0;
        }))
        (get_push_cases (put_before events base order i) other a value now)
    go old x at_x (Some Deq) calls now =
        old (subst (λ (xs : List Value). slice_get xs a ≡ Some value) (append-nil _) now)
    go old x at_x None calls now =
        old (subst (λ (xs : List Value). slice_get xs a ≡ Some value) (append-nil _) now)

-- the entry at i got the value
pub record IsGotAt (order : List Entry) (i : ℕ) (value : Value) : Type 0 where
  pub entry : Entry
  pub at : slice_get order i ≡ Some entry
  pub got : entry.reply ≡ Got value

front_got : (front : Option Value) (value : Value) → front_reply front ≡ Got value → front ≡ Some value
front_got None value same = cc
front_got (Some other) value same = cc

front_empty : (front : Option Value) → front_reply front ≡ Empty → front ≡ None
front_empty None same = refl
front_empty (Some other) same = cc

past_end : (xs : List Value) (a : ℕ) → slice_get xs a ≡ None → length xs ≤ a
past_end [] a none = omega arith
past_end (x ∷ xs) zero none = cc
past_end (x ∷ xs) (suc a) none = let le : length xs ≤ a = past_end xs a none in omega arith

-- it is the front: the first that was not got before
pub got_front : (events : List Event) (base : List Value) (order : List Entry) → Replays events base order
    → (i : ℕ) (value : Value) → IsGotAt order i value
    → slice_get (put_before events base order i) (got_before order i) ≡ Some value
got_front events base order replays i value got =
    let lt : i < length order = slice_get_within order i got.entry got.at in
    let served = (replays i lt).served got.entry got.at in
    let so_far = counted events base order replays i (omega arith) in
    go served.call (sym got.got ∙ served.reply
    ∙ ap (λ (queue : List Value). reply_of queue served.call) so_far.queue)
  where
    go : (call : Call)
        → Got value ≡ reply_of (drop (got_before order i) (put_before events base order i)) call
        → slice_get (put_before events base order i) (got_before order i) ≡ Some value
    go (Enq other) same = cc
    go Deq same = front_got _ value (sym (same ∙ reply_at_front (put_before events base order i) (got_before order i)))

-- an entry that found nothing has all got before it
pub empty_front : (events : List Event) (base : List Value) (order : List Entry) → Replays events base order
    → (i : ℕ) (x : Entry) → slice_get order i ≡ Some x → x.reply ≡ Empty
    → length (put_before events base order i) ≤ got_before order i
empty_front events base order replays i x at empty =
    let lt : i < length order = slice_get_within order i x at in
    let served = (replays i lt).served x at in
    let so_far = counted events base order replays i (omega arith) in
    go served.call (sym empty ∙ served.reply
    ∙ ap (λ (queue : List Value). reply_of queue served.call) so_far.queue)
  where
    go : (call : Call) → Empty ≡ reply_of (drop (got_before order i) (put_before events base order i)) call
        → length (put_before events base order i) ≤ got_before order i
    go (Enq other) same = cc
    go Deq same = past_end _ _ (front_empty _
        (sym (same ∙ reply_at_front (put_before events base order i) (got_before order i))))

-- an entry before i got the value at place a
pub record IsGotBefore (events : List Event) (base : List Value) (order : List Entry) (i a : ℕ) : Type 0 where
  pub index : ℕ
  pub before : index < i
  pub value : Value
  pub got : IsGotAt order index value
  pub count : got_before order index ≡ a

-- values are got in turn
pub got_in_turn : (events : List Event) (base : List Value) (order : List Entry) (i a : ℕ) → i ≤ length order
    → a < got_before order i → IsGotBefore events base order i a
got_in_turn events base order zero a le lt = absurd (omega (arith, got_before_none order))
got_in_turn events base order (suc i) a le lt =
    let here = entry_at order i (omega arith) in
    ⊎_elim
    (λ (less : a < got_before order i).
    let before = got_in_turn events base order i a (omega arith) less in
    record {
      index = before.index;
      before = omega (arith, before.before);
      value = before.value;
      got = before.got;
      count = before.count;
    })
    (λ (more : got_before order i ≤ a). go here.0 here.1 more here.0.reply refl (got_before_next order i here.0 here.1))
    (cases_lt a (got_before order i))
  where
    go : (x : Entry) → slice_get order i ≡ Some x → got_before order i ≤ a → (reply : Reply) → x.reply ≡ reply
        → got_before order (suc i) ≡ got_before order i + dequeue_count x.reply
        → IsGotBefore events base order (suc i) a
    go x at more (Got value) is next =
        let one : dequeue_count x.reply ≡ 1 = ap dequeue_count is in
        record {
          index = i;
          before = omega arith;
          value = value;
          got = record { entry = x; at = at; got = is };
          count = omega arith;
        }
    go x at more Done is next = let none : dequeue_count x.reply ≡ 0 = ap dequeue_count is in absurd (omega arith)
    go x at more Empty is next = let none : dequeue_count x.reply ≡ 0 = ap dequeue_count is in absurd (omega arith)

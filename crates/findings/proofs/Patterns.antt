-- What each pattern shows.
use Rattle.std.proofs.Common.{ℕ, zero, suc, ◌≡◌, ◌<◌, ◌≤◌, ◌+◌, List, [], Option, Some, slice_get}
use Rattle.std.proofs.Common.{get_or, length, refl, ap, arith, subst, sym, ◌∙◌, ⊎_elim}
use Rattle.std.proofs.lemmas.Bool.{cases_lt}
use Rattle.std.proofs.lemmas.List.{get_or-take, length-take}
use Rattle.std.proofs.lemmas.Option.{slice_get_within, slice_get-get_or, get_or_from_slice_get}
use Rattle.words.specs.PlainQueue.{Value}
use Rattle.words.specs.declared.call.Reply.{Reply}
use Rattle.words.specs.declared.call.Reply.TheVariants.{Empty}
use Rattle.words.specs.declared.told.Outcome.{Outcome}
use Rattle.words.specs.declared.told.Outcome.TheVariants.{Taken}
use Rattle.events.specs.declared.event.Event.{Event}
use Rattle.events.specs.declared.event.Entry.{Entry}
use Rattle.events.specs.Orders.{IsTakenAs, IsOrder}
use Rattle.events.proofs.Facts.{begins_within}
use Rattle.findings.specs.Findings.{IsReturned, IsLearnt, IsKnown, ExplainsFindings}
use Rattle.findings.specs.Findings.{HasDistinctValues}
use Rattle.findings.proofs.Turns.{put_before, got_before, got_before_next, IsPutAt, put_before_here}
use Rattle.findings.proofs.Turns.{IsPutBefore, put_from}
use Rattle.history.specs.Counting.{dequeue_count}
use Rattle.findings.proofs.Turns.{IsGotAt, got_front, empty_front, IsGotBefore, got_in_turn, put_longer}

-- the entry of a call that is in the order with a reply
pub record HasEntry (order : List Entry) (p : ℕ) (reply : Reply) : Type 0 where
  pub index : ℕ
  pub entry : Entry
  pub at : slice_get order index ≡ Some entry
  pub place : entry.place ≡ p
  pub is : entry.reply ≡ reply

pub entry_from_taken : (order : List Entry) (p : ℕ) (reply : Reply) → IsTakenAs order p reply → HasEntry order p reply
entry_from_taken order p reply (k, lt, is) =
    let x : Entry = record { place = p; reply = reply } in
    record {
      index = k;
      entry = x;
      at = slice_get-get_or order k x lt ∙ ap Some is;
      place = refl;
      is = refl;
    }

-- what is known of a call, each order has
pub known_entry : (events : List Event) (learnt : List (Option Outcome)) (order : List Entry)
    → ExplainsFindings events learnt order → (p : ℕ) (reply : Reply) → IsKnown events learnt p reply
    → HasEntry order p reply
known_entry events learnt order explains p reply known =
    entry_from_taken order p reply (⊎_elim
    (λ (returned : IsReturned events p reply).
    (explains.answers p (begins_within events returned.client p returned.begins)).taken returned.end returned.client
    reply returned.begins returned.ends returned.returns)
    (λ (heard : IsLearnt learnt p (Taken reply)). explains.agrees.each p (Taken reply) heard)
    known)

-- entries of one call are one entry
pub one_entry : (events : List Event) (order : List Entry) → IsOrder events order → (k j : ℕ) (x y : Entry)
    → slice_get order k ≡ Some x → slice_get order j ≡ Some y → x.place ≡ y.place → k ≡ j
one_entry events order is_order k j x y at_k at_j same =
    ⊎_elim
    (λ (lt : k < j). absurd (earlier k j x y at_k at_j same lt))
    (λ (le : j ≤ k). ⊎_elim
    (λ (lt : j < k). absurd (earlier j k y x at_j at_k (sym same) lt))
    (λ (ge : k ≤ j). omega arith)
    (cases_lt j k))
    (cases_lt k j)
  where
    earlier : (k j : ℕ) (x y : Entry) → slice_get order k ≡ Some x → slice_get order j ≡ Some y → x.place ≡ y.place
        → k < j → ⊥
    earlier k j x y at_k at_j same lt =
        let j_lt : j < length order = slice_get_within order j y at_j in
        (is_order.once j j_lt).none y at_j (
          k,
          x,
          omega (arith, length-take j order),
          get_or-take j order k x lt ∙ get_or_from_slice_get order k x x at_k,
          same,
        )

-- two entries that got one value are one entry: values are put once
one_position : (events : List Event) (order : List Entry) → IsOrder events order → HasDistinctValues events
    → (n a b : ℕ) (value : Value) → n ≤ length order → slice_get (put_before events [] order n) a ≡ Some value
    → slice_get (put_before events [] order n) b ≡ Some value → a ≡ b
one_position events order is_order distinct n a b value le at_a at_b =
    ⊎_elim
    (λ (none : slice_get [] a ≡ Some value). cc)
    (λ (one : IsPutBefore events [] order n a value).
    ⊎_elim
    (λ (none : slice_get [] b ≡ Some value). cc)
    (λ (other : IsPutBefore events [] order n b value).
    let places : one.put.entry.place ≡ other.put.entry.place =
    distinct.each one.put.entry.place other.put.entry.place value one.put.puts other.put.puts in
    let same : one.index ≡ other.index = one_entry events order is_order one.index other.index one.put.entry
    other.put.entry one.put.at other.put.at places in
    one.place ∙ ap (λ (k : ℕ). length (put_before events [] order k)) same ∙ sym other.place)
    (put_from events [] order n b value le at_b))
    (put_from events [] order n a value le at_a)

got_grows : (events : List Event) (order : List Entry) → (i j : ℕ) (value : Value) → j ≤ length order → i < j
    → IsGotAt order i value → got_before order i < got_before order j
got_grows events order i zero value le lt got = absurd (omega arith)
got_grows events order i (suc j) value le lt got = ⊎_elim
    (λ (less : i < j). let before : got_before order i < got_before order j =
    got_grows events order i j value (omega arith) less got in
    let d : Entry = got.entry in
    omega (arith, before, got_before_next order j (get_or order j d) (slice_get-get_or order j d (omega arith))))
    (λ (ge : j ≤ i). let same : i ≡ j = omega arith in
    let one : dequeue_count got.entry.reply ≡ 1 = ap dequeue_count got.got in
    let next : got_before order (suc i) ≡ got_before order i + dequeue_count got.entry.reply =
    got_before_next order i got.entry got.at in
    subst (λ (n : ℕ). got_before order i < got_before order (suc n)) same (omega (arith, one, next)))
    (cases_lt i j)

pub got_once : (events : List Event) (learnt : List (Option Outcome)) (order : List Entry)
    → ExplainsFindings events learnt order → HasDistinctValues events → (i j : ℕ) (value : Value)
    → IsGotAt order i value
    → IsGotAt order j value → i ≡ j
got_once events learnt order explains distinct i j value one other =
    let within_i : i < length order = slice_get_within order i one.entry one.at in
    let within_j : j < length order = slice_get_within order j other.entry other.at in
    let n : ℕ = length order in
    let counts : got_before order i ≡ got_before order j =
    one_position events order explains.is_order distinct (length order) (got_before order i) (got_before order j) value
    (omega arith)
    (put_longer events [] order i (length order) (got_before order i) value (omega arith) (omega arith)
    (got_front events [] order explains.replays i value one))
    (put_longer events [] order j (length order) (got_before order j) value (omega arith) (omega arith)
    (got_front events [] order explains.replays j value other)) in
    ⊎_elim
    (λ (lt : i < j). absurd (let less : got_before order i < got_before order j =
    got_grows events order i j value (omega arith) lt one in omega arith))
    (λ (le : j ≤ i). ⊎_elim
    (λ (lt : j < i). absurd (let less : got_before order j < got_before order i =
    got_grows events order j i value (omega arith) lt other in omega arith))
    (λ (ge : i ≤ j). omega arith)
    (cases_lt j i))
    (cases_lt i j)

-- a value that is got was put before
pub record IsPutEarlier (events : List Event) (order : List Entry) (i : ℕ) (value : Value) : Type 0 where
  pub index : ℕ
  pub before : index < i
  pub put : IsPutAt events order index value
  pub place : got_before order i ≡ length (put_before events [] order index)

pub got_was_put : (events : List Event) (learnt : List (Option Outcome)) (order : List Entry)
    → ExplainsFindings events learnt order → (i : ℕ) (value : Value) → IsGotAt order i value
    → IsPutEarlier events order i value
got_was_put events learnt order explains i value got =
    let within : i < length order = slice_get_within order i got.entry got.at in
    ⊎_elim
    (λ (none : slice_get [] (got_before order i) ≡ Some value). cc)
    (λ (put : IsPutBefore events [] order i (got_before order i) value). record {
      index = put.index;
      before = put.before;
      put = put.put;
      place = put.place;
    })
    (put_from events [] order i (got_before order i) value (omega arith)
    (got_front events [] order explains.replays i value got))

-- the value that was put at place a, was got before i
pub record IsGotEarlier (order : List Entry) (i : ℕ) (value : Value) : Type 0 where
  pub index : ℕ
  pub before : index < i
  pub got : IsGotAt order index value

-- of values that were put before others, and of all that were put before an Empty
pub got_of_place : (events : List Event) (learnt : List (Option Outcome)) (order : List Entry)
    → ExplainsFindings events learnt order → (i a : ℕ) (value : Value) → i ≤ length order → a < got_before order i
    → slice_get (put_before events [] order i) a ≡ Some value → IsGotEarlier order i value
got_of_place events learnt order explains i a value within lt at =
    let turn : IsGotBefore events [] order i a = got_in_turn events [] order i a within lt in
    let here : slice_get (put_before events [] order turn.index) (got_before order turn.index) ≡ Some turn.value =
    got_front events [] order explains.replays turn.index turn.value turn.got in
    let later : slice_get (put_before events [] order i) (got_before order turn.index) ≡ Some turn.value =
    put_longer events [] order turn.index i (got_before order turn.index) turn.value (omega (arith, turn.before)) within
    here in
    let moved : slice_get (put_before events [] order i) a ≡ Some turn.value =
    subst (λ (n : ℕ). slice_get (put_before events [] order i) n ≡ Some turn.value) turn.count later in
    let same : turn.value ≡ value = cc (moved, at) in
    record { index = turn.index; before = turn.before; got = subst (IsGotAt order turn.index) same turn.got }

-- a value put before another one is got before it
pub got_ahead : (events : List Event) (learnt : List (Option Outcome)) (order : List Entry)
    → ExplainsFindings events learnt order → HasDistinctValues events → (i k j : ℕ) (value other : Value)
    → IsGotAt order i value → IsPutAt events order j value → k < j → IsPutAt events order k other
    → IsGotEarlier order i other
got_ahead events learnt order explains distinct i k j value other got put lt ahead =
    let within : i < length order = slice_get_within order i got.entry got.at in
    let was : IsPutEarlier events order i value = got_was_put events learnt order explains i value got in
    let places : was.put.entry.place ≡ put.entry.place =
    distinct.each was.put.entry.place put.entry.place value was.put.puts put.puts in
    let same : was.index ≡ j = one_entry events order explains.is_order was.index j was.put.entry put.entry
    was.put.at put.at places in
    let k_lt : k < was.index = omega arith in
    let there : slice_get (put_before events [] order was.index) (length (put_before events [] order k)) ≡ Some other =
    put_before_here events [] order k was.index other k_lt (omega (arith, was.before)) ahead in
    let small : length (put_before events [] order k) < length (put_before events [] order was.index) =
    slice_get_within _ _ _ there in
    got_of_place events learnt order explains i (length (put_before events [] order k)) other (omega arith)
    (omega (arith, small, was.place))
    (put_longer events [] order was.index i _ other (omega (arith, was.before)) (omega arith) there)

-- all that was put before an Empty is got before it
pub got_before_empty : (events : List Event) (learnt : List (Option Outcome)) (order : List Entry)
    → ExplainsFindings events learnt order → (i k : ℕ) (value : Value) (x : Entry) → slice_get order i ≡ Some x
    → x.reply ≡ Empty → k < i → IsPutAt events order k value → IsGotEarlier order i value
got_before_empty events learnt order explains i k value x at empty lt put =
    let within : i < length order = slice_get_within order i x at in
    let there : slice_get (put_before events [] order i) (length (put_before events [] order k)) ≡ Some value =
    put_before_here events [] order k i value lt (omega arith) put in
    let small : length (put_before events [] order k) < length (put_before events [] order i) =
    slice_get_within _ _ _ there in
    let all : length (put_before events [] order i) ≤ got_before order i =
    empty_front events [] order explains.replays i x at empty in
    got_of_place events learnt order explains i _ value (omega arith) (omega arith) there

-- What a lack of takes comes to, and what the four patterns show.
use Rattle.std.proofs.Common.{ℕ, zero, suc, ◌≡◌, ◌<◌, ◌≤◌, ◌+◌, List, [], ◌∷◌, Option, Some, None, slice_get}
use Rattle.std.proofs.Common.{get_or, length, take, refl, ap, arith, subst, sym, ◌∙◌, ⊎_elim}
use Rattle.std.specs.Prelude.{Contains}
use Rattle.std.proofs.lemmas.Bool.{cases_lt}
use Rattle.std.proofs.lemmas.Option.{slice_get_within, slice_get-get_or, get_or_from_slice_get}
use Rattle.words.specs.PlainQueue.{Value, reply_of}
use Rattle.words.specs.declared.call.Call.{Call}
use Rattle.words.specs.declared.call.Call.TheVariants.{Enq, Deq}
use Rattle.words.specs.declared.call.Client.{Client}
use Rattle.words.specs.declared.call.Reply.TheVariants.{Done, Got, Empty}
use Rattle.words.specs.declared.told.Outcome.{Outcome}
use Rattle.words.specs.declared.told.Outcome.TheVariants.{NotTaken}
use Rattle.events.specs.declared.event.Event.{Event}
use Rattle.events.specs.declared.event.Entry.{Entry}
use Rattle.events.specs.History.{EndsAt, Precedes}
use Rattle.events.specs.Replay.{call_at, call_of, queue_after}
use Rattle.events.proofs.Facts.{contains_from_in, in_from_contains}
use Rattle.findings.specs.declared.witness.Ahead.{Ahead}
use Rattle.findings.specs.declared.witness.Since.{Since}
use Rattle.findings.specs.declared.witness.Lack.{Lack}
use Rattle.findings.specs.declared.witness.Lack.TheVariants.{Late, Few}
use Rattle.findings.specs.FourPatterns.{Missing, late, few, IsPutAmong, AreMissing, HasPassedOver, IsHeldAt, HasNotEmpty}
use Rattle.findings.specs.FourPatterns.{HasPattern, invented, twice, passed_over, not_empty}
use Rattle.findings.specs.declared.witness.Piece.{Piece}
use Rattle.findings.specs.declared.witness.Witness.{Witness}
use Rattle.findings.specs.declared.witness.Witness.TheVariants.{Invented, Twice, PassedOver, NotEmpty}
use Rattle.findings.specs.Findings.{IsLearnt, ExplainsFindings, HasNoOrder, PutsAt, TakesAt}
use Rattle.findings.specs.Findings.{HasDistinctValues, IsOverBy}
use Rattle.findings.specs.Shows.{ShowsInvented, ShowsTwice, IsAhead, IsInAt, AreInSince, WasOver}
use Rattle.findings.specs.Shows.{CanHaveTaken, IsKnownPut, Lacks, IsPutOf, IsHeld}
use Rattle.findings.specs.Shows.{IsWithin, Shows}
use Rattle.findings.proofs.Turns.{IsPutAt, IsGotAt}
use Rattle.findings.proofs.Patterns.{HasEntry, known_entry, one_entry, got_once, IsPutEarlier}
use Rattle.findings.proofs.Patterns.{got_was_put, IsGotEarlier}
use Rattle.findings.proofs.Patterns.{got_ahead, got_before_empty}
use Rattle.findings.proofs.Pigeons.{no_more}

-- what got a value is a take
got_takes : (events : List Event) (learnt : List (Option Outcome)) (order : List Entry)
    → ExplainsFindings events learnt order → (i : ℕ) (value : Value) → (got : IsGotAt order i value)
    → TakesAt events got.entry.place
got_takes events learnt order explains i value got =
    let served = (explains.replays i (slice_get_within order i got.entry got.at)).served got.entry got.at in
    go served.call (queue_after events [] (take i order)) served.names (sym got.got ∙ served.reply)
  where
    go : (call : Call) (queue : List Value) → call_at events got.entry.place ≡ Some call
        → Got value ≡ reply_of queue call
        → TakesAt events got.entry.place
    go (Enq other) queue names same = cc
    go Deq queue names same = names

-- a call does not begin where one ends
call_or_end : (events : List Event) (client : Client) (p : ℕ) (call : Call) → call_at events p ≡ Some call
    → EndsAt events client p → ⊥
call_or_end events client p call is ends =
    ⊎_elim
    (λ returned. let none : call_at events p ≡ None = ap call_of returned.1 in cc)
    (λ crash. let none : call_at events p ≡ None = ap call_of crash in cc)
    ends

-- a call that is over by t precedes each call at t or later
over_precedes : (events : List Event) (p q t : ℕ) (call : Call) → IsOverBy events p t → t ≤ q
    → call_at events q ≡ Some call → Precedes events p q
over_precedes events p q t call over le is =
    record {
      client = over.client;
      begins = over.begins;
      end = over.end;
      ends = over.ends;
      before = ⊎_elim (λ (lt : over.end < q). lt)
          (λ (ge : q ≤ over.end).
          let same : over.end ≡ q = omega (arith, over.by) in
          absurd (call_or_end events over.client q call is (subst (EndsAt events over.client) same over.ends.ends)))
          (cases_lt over.end q);
    }

-- entries of calls of which one precedes the other
stands_before : (events : List Event) (learnt : List (Option Outcome)) (order : List Entry)
    → ExplainsFindings events learnt order → (i j : ℕ) (x y : Entry) → slice_get order i ≡ Some x
    → slice_get order j ≡ Some y → Precedes events x.place y.place → i < j
stands_before events learnt order explains i j x y at_i at_j before = explains.precedence i j x y at_i at_j before

-- a take that began before the bound got the value
pub record IsTakenBefore (order : List Entry) (bound : ℕ) (value : Value) : Type 0 where
  pub index : ℕ
  pub got : IsGotAt order index value
  pub early : got.entry.place < bound

-- the place of a call that got a value whose take was over: it is not so, since the value was still in
not_over_since : (events : List Event) (learnt : List (Option Outcome)) (order : List Entry)
    → ExplainsFindings events learnt order → HasDistinctValues events → (since : Since) (p : ℕ) (value : Value) (j : ℕ)
    → PutsAt events p value → IsInAt events learnt since p → (got : IsGotAt order j value)
    → IsOverBy events got.entry.place since.place → ⊥
not_over_since events learnt order explains distinct since p value j puts is_in got over =
    let was : IsPutEarlier events order j value = got_was_put events learnt order explains j value got in
    let place : was.put.entry.place ≡ p = distinct.each was.put.entry.place p value was.put.puts puts in
    ⊎_elim
    (λ (later : since.place < p).
    let before : Precedes events got.entry.place was.put.entry.place =
    over_precedes events got.entry.place was.put.entry.place since.place (Enq value) over
    (omega (arith, place, later)) was.put.puts in
    let lt : j < was.index = stands_before events learnt order explains j was.index got.entry was.put.entry got.at
    was.put.at before in
    omega (arith, was.before, lt))
    (λ other.
    let ahead : Ahead = other.0 in
    let is : IsAhead events learnt ahead p = other.3 in
    ahead_case ahead is other.2 was place)
    is_in
  where
    ahead_case : (ahead : Ahead) → IsAhead events learnt ahead p → since.place < ahead.take
        → (was : IsPutEarlier events order j value) → was.put.entry.place ≡ p → ⊥
    ahead_case ahead is later was place =
        let its : HasEntry order ahead.take (Got is.value) =
        known_entry events learnt order explains ahead.take (Got is.value) is.got in
        let its_got : IsGotAt order its.index is.value = record { entry = its.entry; at = its.at; got = its.is } in
        let takes : TakesAt events its.entry.place =
        got_takes events learnt order explains its.index is.value its_got in
        let first : Precedes events got.entry.place its.entry.place =
        over_precedes events got.entry.place its.entry.place since.place Deq over
        (omega (arith, its.place, later)) takes in
        let lt : j < its.index = stands_before events learnt order explains j its.index got.entry its.entry got.at
        its.at first in
        let its_put : IsPutEarlier events order its.index is.value =
        got_was_put events learnt order explains its.index is.value its_got in
        let its_place : its_put.put.entry.place ≡ ahead.put =
        distinct.each its_put.put.entry.place ahead.put is.value its_put.put.puts is.puts in
        let put_first : its_put.index < was.index =
        stands_before events learnt order explains its_put.index was.index its_put.put.entry was.put.entry
        its_put.put.at
        was.put.at (subst (λ (n : ℕ). Precedes events n was.put.entry.place) (sym its_place)
        (subst (Precedes events ahead.put) (sym place) is.before)) in
        let earlier : IsGotEarlier order j is.value =
        got_ahead events learnt order explains distinct j its_put.index was.index value is.value got was.put put_first
        its_put.put in
        let same : earlier.index ≡ its.index =
        got_once events learnt order explains distinct earlier.index its.index is.value earlier.got its_got in
        omega (arith, same, earlier.before, lt)

-- the take of a value can have taken it
can_have_taken : (events : List Event) (learnt : List (Option Outcome)) (order : List Entry)
    → ExplainsFindings events learnt order → HasDistinctValues events → (puts : List ℕ) (since : Option Since)
    → AreInSince events learnt puts since → (p : ℕ) (value : Value) (j : ℕ) → Contains puts p → PutsAt events p value
    → (got : IsGotAt order j value) → CanHaveTaken events learnt puts since got.entry.place
can_have_taken events learnt order explains distinct puts since in_since p value j contained is_put got = record {
  takes = got_takes events learnt order explains j value got;
  known = λ reply known.
      let has : HasEntry order got.entry.place reply =
      known_entry events learnt order explains got.entry.place reply known in
      let same : has.index ≡ j = one_entry events order explains.is_order has.index j has.entry got.entry has.at got.at
      has.place in
      let entries : has.entry ≡ got.entry = cc (has.at, got.at, ap (slice_get order) same) in (
        value,
        sym has.is ∙ ap (λ (e : Entry). e.reply) entries ∙ got.got,
        record { put = p; contained = contained; puts = is_put },
      );
  not_refused = λ refused. explains.agrees.each got.entry.place NotTaken refused (
    j,
    got.entry,
    slice_get_within order j got.entry got.at,
    get_or_from_slice_get order j got.entry got.entry got.at,
    refl,
  );
  not_over = λ over. not_over since in_since over;
}
  where
    not_over : (since : Option Since) → AreInSince events learnt puts since
        → WasOver events since got.entry.place → ⊥
    not_over None in_since over = over
    not_over (Some since) in_since over =
        not_over_since events learnt order explains distinct since p value j is_put (in_since p contained) got over

-- the take of the put's value
pub record TookValueOf (events : List Event) (order : List Entry) (p r : ℕ) : Type 0 where
  pub value : Value
  pub puts : PutsAt events p value
  pub index : ℕ
  pub got : IsGotAt order index value
  pub place : got.entry.place ≡ r

-- not all values of a lack can have been taken before its bound
pub lack_refutes : (events : List Event) (learnt : List (Option Outcome)) (order : List Entry)
    → ExplainsFindings events learnt order → HasDistinctValues events → (bound : ℕ) (lack : Missing)
    → AreMissing events learnt bound lack
    → ((p : ℕ) (value : Value) → IsPutAmong lack p → PutsAt events p value → IsTakenBefore order bound value) → ⊥
lack_refutes events learnt order explains distinct bound (late put late_take) lacks each =
    let taken : IsTakenBefore order bound lacks.value = each put lacks.value refl lacks.puts in
    let has : HasEntry order late_take (Got lacks.value) =
    known_entry events learnt order explains late_take (Got lacks.value) lacks.got in
    let same : taken.index ≡ has.index = got_once events learnt order explains distinct taken.index has.index
    lacks.value
    taken.got (record { entry = has.entry; at = has.at; got = has.is }) in
    let entries : taken.got.entry ≡ has.entry = cc (taken.got.at, has.at, ap (slice_get order) same) in
    omega (arith, ap (λ (e : Entry). e.place) entries, has.place, lacks.late, taken.early)
lack_refutes events learnt order explains distinct bound (few puts takes since) lacks each =
    let enough : length puts ≤ length takes =
    no_more (TookValueOf events order) puts takes lacks.different
    (λ p is.
    let contained : Contains puts p = contains_from_in puts p is in
    let known : IsKnownPut events learnt p = subst (IsKnownPut events learnt) contained.2
    (lacks.certain contained.0 p contained.1) in
    let taken : IsTakenBefore order bound known.value = each p known.value contained known.puts in
    record {
      one = taken.got.entry.place;
      contained = in_from_contains takes taken.got.entry.place
          ((lacks.listed taken.got.entry.place taken.early).contained
          (can_have_taken events learnt order explains distinct puts since lacks.in_since p known.value
          taken.index
          contained known.puts taken.got));
      related = record {
        value = known.value;
        puts = known.puts;
        index = taken.index;
        got = taken.got;
        place = refl;
      };
    })
    (λ p q r one other.
    let same : one.index ≡ other.index = one_entry events order explains.is_order one.index other.index one.got.entry
    other.got.entry one.got.at other.got.at (one.place ∙ sym other.place) in
    let entries : one.got.entry ≡ other.got.entry = cc (one.got.at, other.got.at, ap (slice_get order) same) in
    let replies : Got one.value ≡ Got other.value =
    sym one.got.got ∙ ap (λ (e : Entry). e.reply) entries ∙ other.got.got in
    let values : one.value ≡ other.value = cc (replies) in
    distinct.each p q other.value (subst (PutsAt events p) values one.puts) other.puts) in
    omega (arith, lacks.fewer, enough)

-- the puts of a lack are in the order
pub lack_puts : (events : List Event) (learnt : List (Option Outcome)) (order : List Entry)
    → ExplainsFindings events learnt order → HasDistinctValues events → (bound : ℕ) (lack : Missing)
    → AreMissing events learnt bound lack → (p : ℕ) (value : Value) → IsPutAmong lack p → PutsAt events p value
    → (k : ℕ) × IsPutAt events order k value
lack_puts events learnt order explains distinct bound (late put late_take) lacks p value is puts =
    let has : HasEntry order late_take (Got lacks.value) =
    known_entry events learnt order explains late_take (Got lacks.value) lacks.got in
    let was : IsPutEarlier events order has.index lacks.value =
    got_was_put events learnt order explains has.index lacks.value
    (record { entry = has.entry; at = has.at; got = has.is }) in
    let here : PutsAt events put value = subst (λ (n : ℕ). PutsAt events n value) is puts in
    let one : Some (Enq lacks.value) ≡ Some (Enq value) = sym lacks.puts ∙ here in
    let values : lacks.value ≡ value = cc (one) in
    (was.index, subst (IsPutAt events order was.index) values was.put)
lack_puts events learnt order explains distinct bound (few puts takes since) lacks p value is is_put =
    let known : IsKnownPut events learnt p = subst (IsKnownPut events learnt) is.2 (lacks.certain is.0 p is.1) in
    let has : HasEntry order p Done = known_entry events learnt order explains p Done known.known in (
      has.index,
      record {
        entry = has.entry;
        at = has.at;
        puts = subst (λ (n : ℕ). call_at events n ≡ Some (Enq value)) (sym has.place) is_put;
      },
    )

-- the greatest place up to an entry, and the entry that has it
pub record IsMoment (order : List Entry) (i : ℕ) : Type 0 where
  pub index : ℕ
  pub upto : index < i
  pub entry : Entry
  pub at : slice_get order index ≡ Some entry
  pub above : (k : ℕ) (x : Entry) → k < i → slice_get order k ≡ Some x → x.place ≤ entry.place

-- every entry has a moment
moment_of : (order : List Entry) (i : ℕ) (d : Entry) → i < length order → IsMoment order (suc i)
moment_of order zero d lt =
    let here : Entry = get_or order 0 d in
    let at : slice_get order 0 ≡ Some here = slice_get-get_or order 0 d lt in
    record {
      index = 0;
      upto = omega arith;
      entry = here;
      at = at;
      above = λ k x less at_k.
          let zero_k : k ≡ 0 = omega arith in
          let same : here ≡ x = cc (at, at_k, ap (slice_get order) zero_k) in
          omega (arith, ap (λ (e : Entry). e.place) same);
    }
moment_of order (suc i) d lt =
    let before : IsMoment order (suc i) = moment_of order i d (omega arith) in
    let here : Entry = get_or order (suc i) d in
    let at : slice_get order (suc i) ≡ Some here = slice_get-get_or order (suc i) d lt in
    ⊎_elim
    (λ (more : before.entry.place < here.place). record {
      index = suc i;
      upto = omega arith;
      entry = here;
      at = at;
      above = λ k x less at_k.
          ⊎_elim
          (λ (old : k < suc i). let le : x.place ≤ before.entry.place = before.above k x old at_k in omega arith)
          (λ (new : suc i ≤ k).
          let same_k : k ≡ suc i = omega arith in
          let same : here ≡ x = cc (at, at_k, ap (slice_get order) same_k) in
          omega (arith, ap (λ (e : Entry). e.place) same))
          (cases_lt k (suc i));
    })
    (λ (less_here : here.place ≤ before.entry.place). record {
      index = before.index;
      upto = omega (arith, before.upto);
      entry = before.entry;
      at = before.at;
      above = λ k x less at_k.
          ⊎_elim
          (λ (old : k < suc i). before.above k x old at_k)
          (λ (new : suc i ≤ k).
          let same_k : k ≡ suc i = omega arith in
          let same : here ≡ x = cc (at, at_k, ap (slice_get order) same_k) in
          omega (arith, ap (λ (e : Entry). e.place) same))
          (cases_lt k (suc i));
    })
    (cases_lt before.entry.place here.place)

-- every entry names a call
named : (events : List Event) (learnt : List (Option Outcome)) (order : List Entry)
    → ExplainsFindings events learnt order → (i : ℕ) (x : Entry) → slice_get order i ≡ Some x
    → (call : Call) × (call_at events x.place ≡ Some call)
named events learnt order explains i x at =
    let served = (explains.replays i (slice_get_within order i x at)).served x at in (served.call, served.names)

pub within_events : (events : List Event) (p : ℕ) (call : Call) → call_at events p ≡ Some call → p < length events
within_events [] p call is = cc
within_events (event ∷ events) zero call is = omega arith
within_events (event ∷ events) (suc p) call is =
    let lt : p < length events = within_events events p call is in omega arith

invented_refutes : (events : List Event) (learnt : List (Option Outcome)) (take : ℕ) (value : Value)
    → ShowsInvented events learnt take value → (order : List Entry) → ExplainsFindings events learnt order → ⊥
invented_refutes events learnt take value shows order explains =
    let has : HasEntry order take (Got value) = known_entry events learnt order explains take (Got value) shows.got in
    let was : IsPutEarlier events order has.index value = got_was_put events learnt order explains has.index value
    (record { entry = has.entry; at = has.at; got = has.is }) in
    ⊎_elim
    (λ (later : Precedes events take was.put.entry.place).
    let lt : has.index < was.index = stands_before events learnt order explains has.index was.index has.entry
    was.put.entry has.at was.put.at (subst (λ (n : ℕ). Precedes events n was.put.entry.place) (sym has.place) later) in
    omega (arith, was.before, lt))
    (λ (refused : IsLearnt learnt was.put.entry.place NotTaken).
    explains.agrees.each was.put.entry.place NotTaken refused (
      was.index,
      was.put.entry,
      slice_get_within order was.index was.put.entry was.put.at,
      get_or_from_slice_get order was.index was.put.entry was.put.entry was.put.at,
      refl,
    ))
    (shows.none was.put.entry.place was.put.puts)

twice_refutes : (events : List Event) (learnt : List (Option Outcome)) (first second : ℕ) (value : Value)
    → HasDistinctValues events → ShowsTwice events learnt first second value → (order : List Entry)
    → ExplainsFindings events learnt order → ⊥
twice_refutes events learnt first second value distinct shows order explains =
    let one : HasEntry order first (Got value) = known_entry events learnt order explains first (Got value) shows.one in
    let other : HasEntry order second (Got value) =
    known_entry events learnt order explains second (Got value) shows.other in
    let same : one.index ≡ other.index = got_once events learnt order explains distinct one.index other.index value
    (record { entry = one.entry; at = one.at; got = one.is })
    (record { entry = other.entry; at = other.at; got = other.is }) in
    let entries : one.entry ≡ other.entry = cc (one.at, other.at, ap (slice_get order) same) in
    shows.two (sym one.place ∙ ap (λ (e : Entry). e.place) entries ∙ other.place)

passed_over_refutes : (events : List Event) (learnt : List (Option Outcome)) (take put bound : ℕ) (value : Value)
    (lack : Missing) → HasDistinctValues events → HasPassedOver events learnt take put bound value lack → (order : List Entry)
    → ExplainsFindings events learnt order → ⊥
passed_over_refutes events learnt take put bound got_value lack distinct shows order explains =
    let has : HasEntry order take (Got got_value) =
    known_entry events learnt order explains take (Got got_value) shows.got in
    let got : IsGotAt order has.index got_value = record { entry = has.entry; at = has.at; got = has.is } in
    let was : IsPutEarlier events order has.index got_value =
    got_was_put events learnt order explains has.index got_value got in
    let its_place : was.put.entry.place ≡ put =
    distinct.each was.put.entry.place put got_value was.put.puts shows.puts in
    lack_refutes events learnt order explains distinct bound lack shows.lacks
    (λ p value is is_put.
    let mine : (k : ℕ) × IsPutAt events order k value =
    lack_puts events learnt order explains distinct bound lack shows.lacks p value is is_put in
    let place : mine.1.entry.place ≡ p = distinct.each mine.1.entry.place p value mine.1.puts is_put in
    let first : mine.0 < was.index = stands_before events learnt order explains mine.0 was.index mine.1.entry
    was.put.entry mine.1.at was.put.at
    (subst (λ (n : ℕ). Precedes events n was.put.entry.place) (sym place)
    (subst (Precedes events p) (sym its_place) (shows.ahead p is))) in
    let earlier : IsGotEarlier order has.index value = got_ahead events learnt order explains distinct has.index mine.0
    was.index got_value value got was.put first mine.1 in
    let takes : TakesAt events earlier.got.entry.place =
    got_takes events learnt order explains earlier.index value earlier.got in
    record {
      index = earlier.index;
      got = earlier.got;
      early = ⊎_elim (λ (lt : earlier.got.entry.place < bound). lt)
          (λ (late : bound ≤ earlier.got.entry.place). absurd (⊎_elim
          (λ (over : IsOverBy events take bound).
          let before : Precedes events take earlier.got.entry.place =
          over_precedes events take earlier.got.entry.place bound Deq over late takes in
          let lt : has.index < earlier.index = stands_before events learnt order explains has.index
          earlier.index has.entry
          earlier.got.entry has.at earlier.got.at
          (subst (λ (n : ℕ). Precedes events n earlier.got.entry.place) (sym has.place) before) in
          omega (arith, earlier.before, lt))
          (λ (all : length events ≤ bound).
          let lt : earlier.got.entry.place < length events =
          within_events events earlier.got.entry.place Deq takes in
          omega arith)
          shows.bounded))
          (cases_lt earlier.got.entry.place bound);
    })

not_empty_refutes : (events : List Event) (learnt : List (Option Outcome)) (take end : ℕ)
    → HasDistinctValues events → HasNotEmpty events learnt take end → (order : List Entry)
    → ExplainsFindings events learnt order → ⊥
not_empty_refutes events learnt take end distinct shows order explains =
    let has : HasEntry order take Empty = known_entry events learnt order explains take Empty shows.empty in
    let moment : IsMoment order (suc has.index) =
    moment_of order has.index has.entry (slice_get_within order has.index has.entry has.at) in
    let low : has.entry.place ≤ moment.entry.place = moment.above has.index has.entry (omega arith) has.at in
    let calls = named events learnt order explains moment.index moment.entry moment.at in
    let high : moment.entry.place < end = ⊎_elim (λ (lt : moment.entry.place < end). lt)
    (λ (late : end ≤ moment.entry.place). absurd (⊎_elim
    (λ (over : IsOverBy events take end).
    let before : Precedes events take moment.entry.place =
    over_precedes events take moment.entry.place end calls.0 over late calls.1 in
    let lt : has.index < moment.index = stands_before events learnt order explains has.index moment.index has.entry
    moment.entry has.at moment.at (subst (λ (n : ℕ). Precedes events n moment.entry.place) (sym has.place) before) in
    omega (arith, moment.upto, lt))
    (λ (all : length events ≤ end).
    let lt : moment.entry.place < length events = within_events events moment.entry.place calls.0 calls.1 in
    omega arith)
    shows.bounded))
    (cases_lt moment.entry.place end) in
    at_moment has moment calls (shows.held moment.entry.place (omega (arith, has.place, low)) high)
  where
    at_moment : (has : HasEntry order take Empty) → (moment : IsMoment order (suc has.index))
        → (calls : (call : Call) × (call_at events moment.entry.place ≡ Some call))
        → IsHeldAt events learnt moment.entry.place → ⊥
    at_moment has moment calls held =
        lack_refutes events learnt order explains distinct (moment.entry.place + 1) held.missing held.lacks
        (λ p value is is_put.
        let mine : (k : ℕ) × IsPutAt events order k value =
        lack_puts events learnt order explains distinct (moment.entry.place + 1) held.missing held.lacks p value is is_put in
        let place : mine.1.entry.place ≡ p = distinct.each mine.1.entry.place p value mine.1.puts is_put in
        let before : Precedes events p moment.entry.place =
        over_precedes events p moment.entry.place moment.entry.place calls.0 (held.ended p is)
        (omega arith) calls.1 in
        let lt : mine.0 < moment.index = stands_before events learnt order explains mine.0 moment.index mine.1.entry
        moment.entry mine.1.at moment.at (subst (λ (n : ℕ). Precedes events n moment.entry.place) (sym place) before) in
        let earlier : IsGotEarlier order has.index value = got_before_empty events learnt order explains
        has.index mine.0
        value has.entry has.at has.is (omega (arith, moment.upto, lt)) mine.1 in
        let le : earlier.got.entry.place ≤ moment.entry.place =
        moment.above earlier.index earlier.got.entry (omega (arith, earlier.before)) earlier.got.at in
        record { index = earlier.index; got = earlier.got; early = omega (arith, le) })

-- where a pattern is in a recording, no order explains what is known
pub pattern_refutes : (events : List Event) (learnt : List (Option Outcome)) → HasDistinctValues events
    → HasPattern events learnt → (order : List Entry) → ExplainsFindings events learnt order → ⊥
pattern_refutes events learnt distinct (invented take value shows) order explains =
    invented_refutes events learnt take value shows order explains
pattern_refutes events learnt distinct (twice first second value shows) order explains =
    twice_refutes events learnt first second value distinct shows order explains
pattern_refutes events learnt distinct (passed_over take put bound value lack shows) order explains =
    passed_over_refutes events learnt take put bound value lack distinct shows order explains
pattern_refutes events learnt distinct (not_empty take end shows) order explains =
    not_empty_refutes events learnt take end distinct shows order explains

-- the lack of a witness
abbrev missing_of : Lack → Missing
missing_of (Late put take) = late put take
missing_of (Few puts takes since) = few puts.items takes.items since

put_of : (lack : Lack) (p : ℕ) → IsPutAmong (missing_of lack) p → IsPutOf lack p
put_of (Late put take) p is = is
put_of (Few puts takes since) p is = is

-- what takes begun before a bound cannot have taken, those begun before an earlier one cannot
missing_from : (events : List Event) (learnt : List (Option Outcome)) (bound earlier : ℕ) (lack : Lack)
    → earlier ≤ bound → Lacks events learnt bound lack → AreMissing events learnt earlier (missing_of lack)
missing_from events learnt bound earlier (Late put take) le lacks =
    record { value = lacks.value; puts = lacks.puts; got = lacks.got; late = omega (arith, le, lacks.late) }
missing_from events learnt bound earlier (Few puts takes since) le lacks = record {
  certain = lacks.certain;
  different = lacks.different;
  in_since = lacks.in_since;
  listed = λ take lt. lacks.listed take (omega (arith, le, lt));
  fewer = lacks.fewer;
}

-- what a witness shows is a pattern in the recording
pub shown_pattern : (events : List Event) (learnt : List (Option Outcome)) (witness : Witness)
    → Shows events learnt witness → HasPattern events learnt
shown_pattern events learnt (Invented take value) shows = invented take value shows.shown
shown_pattern events learnt (Twice first second value) shows = twice first second value shows.shown
shown_pattern events learnt (PassedOver take put bound lack) shows =
    passed_over take put bound shows.shown.value (missing_of lack) (record {
      puts = shows.shown.puts;
      got = shows.shown.got;
      bounded = shows.shown.bounded;
      ahead = λ p is. shows.shown.ahead p (put_of lack p is);
      lacks = missing_from events learnt bound bound lack (omega arith) shows.shown.lacks;
    })
shown_pattern events learnt (NotEmpty take end pieces) shows = not_empty take end (record {
  empty = shows.shown.empty;
  bounded = shows.shown.bounded;
  held = λ place since before.
      let inside = shows.shown.covered place since before in
      held_at place inside.piece (piece_at inside.index inside.piece inside.at) inside.within;
})
  where
    piece_at : (k : ℕ) (piece : Piece) → slice_get pieces.items k ≡ Some piece → IsHeld events learnt piece
    piece_at k piece at = subst (IsHeld events learnt) (get_or_from_slice_get pieces.items k piece piece at)
        (shows.shown.held k piece (slice_get_within pieces.items k piece at))

    held_at : (place : ℕ) (piece : Piece) → IsHeld events learnt piece → IsWithin piece place
        → IsHeldAt events learnt place
    held_at place piece held within = record {
      missing = missing_of piece.lack;
      ended = λ p is. let over : IsOverBy events p piece.from = held.ended p (put_of piece.lack p is) in
          record {
            client = over.client;
            begins = over.begins;
            end = over.end;
            ends = over.ends;
            by = omega (arith, over.by, within.0);
          };
      lacks = missing_from events learnt piece.to (place + 1) piece.lack (omega (arith, within.1)) held.lacks;
    }

-- where a witness shows its pattern, no order explains what is known
pub shown_refutes : (events : List Event) (learnt : List (Option Outcome)) (witness : Witness)
    → Shows events learnt witness → HasNoOrder events learnt
shown_refutes events learnt witness shows = record {
  none = pattern_refutes events learnt shows.distinct (shown_pattern events learnt witness shows);
}

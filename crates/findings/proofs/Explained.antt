-- Steps that explain calls are an order that explains the recording.
use Rattle.std.proofs.Common.{ℕ, zero, suc, ◌≡◌, ◌≢◌, ◌<◌, ◌≤◌, ◌⊎◌, List, [], ◌∷◌, ◌++◌, Option, Some, None, slice_get}
use Rattle.std.proofs.Common.{get_or, length, take, inl, inr, refl, ap, arith, subst, sym, ◌∙◌}
use Rattle.std.specs.Prelude.{Contains, IsSome}
use Rattle.std.proofs.lemmas.Bool.{cases_lt}
use Rattle.std.proofs.lemmas.Option.{same_Some, slice_get-get_or}
use Rattle.words.specs.PlainQueue.{Value}
use Rattle.words.specs.declared.call.Call.{Call}
use Rattle.words.specs.declared.call.Call.TheVariants.{Enq, Deq}
use Rattle.words.specs.declared.call.Reply.{Reply}
use Rattle.words.specs.declared.call.Reply.TheVariants.{Done, Got, Empty}
use Rattle.words.specs.declared.told.Outcome.{Outcome}
use Rattle.words.specs.declared.told.Outcome.TheVariants.{NotTaken, Taken}
use Rattle.events.specs.declared.event.Event.{Event}
use Rattle.events.specs.declared.event.Event.TheVariants.{Return as return_event, Crash as crash_event}
use Rattle.events.specs.declared.event.Entry.{Entry}
use Rattle.events.specs.Explains.{KeepsPrecedence}
use Rattle.events.specs.History.{ReturnAt}
use Rattle.events.specs.Orders.{IsTakenAs, InOrder, IsNew}
use Rattle.events.specs.Replay.{call_at, call_of, queue_after_call, IsServed, Replays}
use Rattle.events.specs.Telling.{IsOutcome}
use Rattle.events.proofs.Facts.{Runs as RunEntries, begins_within}
use Rattle.findings.specs.Findings.{IsLearnt, IsReturned, IsKnown, PutsAt, TakesAt, ExplainsFindings}
use Rattle.findings.specs.Filling.{IsInterrupted}
use Rattle.findings.specs.FourPatterns.{IsOfQueue}
use Rattle.windows.specs.Lists.{IsAmong}
use Rattle.windows.specs.Runs.{Step, put, got, nothing, Runs}
use Rattle.windows.specs.Calls.{Known, no_call, put_done, put_not, put_open, took, found_nothing, take_not, take_open}
use Rattle.windows.specs.Calls.{place_of, IsAllowed, AreOrdered, Explain}
use Rattle.findings.proofs.Reading.{end_at, precedes_to, return_is}
use Rattle.findings.proofs.Meanings.{Means, means_none, means_done, means_not, means_open, means_took, means_nothing}
use Rattle.findings.proofs.Meanings.{means_take_not, means_take_open, HasMeaning, calls_of}

-- what is known of a call is one thing
module _ (events : List Event) (learnt : List (Option Outcome)) (is : IsOfQueue events learnt) where
  not_returned : (p : ℕ) (reply : Reply) (outcome : Outcome) → IsReturned events p reply → IsLearnt learnt p outcome → ⊥
  not_returned p reply outcome returned heard =
      let cut : IsInterrupted events p = is.recorded.interrupted p outcome heard in
      let returns : ReturnAt events cut.end cut.client reply =
      return_is events p cut.end cut.client reply (cut.number, (cut.call, cut.begins)) cut.ends returned in
      let both : Some (return_event cut.client reply) ≡ Some crash_event = sym returns ∙ cut.crash in cc (both)

  pub one_known : (p : ℕ) (one other : Reply) → IsKnown events learnt p one → IsKnown events learnt p other → one ≡ other
  one_known p one other (inl first) (inl second) =
      let returns : ReturnAt events second.end second.client one =
      return_is events p second.end second.client one second.begins second.ends first in
      let both : Some (return_event second.client one) ≡ Some (return_event second.client other) =
      sym returns ∙ second.returns in cc (both)
  one_known p one other (inl first) (inr heard) = absurd (not_returned p one (Taken other) first heard)
  one_known p one other (inr heard) (inl second) = absurd (not_returned p other (Taken one) second heard)
  one_known p one other (inr first) (inr second) =
      let both : Some (Some (Taken one)) ≡ Some (Some (Taken other)) = sym first ∙ second in cc (both)

  pub not_both : (p : ℕ) (reply : Reply) → IsKnown events learnt p reply → IsLearnt learnt p NotTaken → ⊥
  not_both p reply (inl returned) heard = not_returned p reply NotTaken returned heard
  not_both p reply (inr one) heard =
      let both : Some (Some (Taken reply)) ≡ Some (Some NotTaken) = sym one ∙ heard in cc (both)

  enq_or_deq : {value : Value} (p : ℕ) → PutsAt events p value → TakesAt events p → ⊥
  enq_or_deq {value} p puts takes = let both : Some (Enq value) ≡ Some Deq = sym puts ∙ takes in cc (both)

  pub done_known : (p : ℕ) (value : Value) (reply : Reply) (known : Known) → PutsAt events p value
      → IsKnown events learnt p reply → Means events learnt p known → known ≡ put_done
  done_known p value reply known puts heard (means_none none) =
      absurd (let both : None ≡ Some (Enq value) = sym none ∙ puts in cc (both))
  done_known p value reply known puts heard (means_done v mine other) = refl
  done_known p value reply known puts heard (means_not v mine other) = absurd (not_both p reply heard other)
  done_known p value reply known puts heard (means_open v mine fail) = absurd (fail.no_reply reply heard)
  done_known p value reply known puts heard (means_took v q takes other mine) = absurd (enq_or_deq p puts takes)
  done_known p value reply known puts heard (means_nothing takes other) = absurd (enq_or_deq p puts takes)
  done_known p value reply known puts heard (means_take_not takes other) = absurd (enq_or_deq p puts takes)
  done_known p value reply known puts heard (means_take_open takes fail) = absurd (enq_or_deq p puts takes)

  -- a take of which a reply is known
  pub data TakeKnown (p : ℕ) (reply : Reply) (known : Known) : Type 0 where
    got_from : (value : Value) (q : ℕ) → reply ≡ Got value → PutsAt events q value → known ≡ took q
        → TakeKnown p reply known
    got_none : reply ≡ Empty → known ≡ found_nothing → TakeKnown p reply known

  pub take_known : (p : ℕ) (reply : Reply) (known : Known) → TakesAt events p → IsKnown events learnt p reply
      → Means events learnt p known → TakeKnown p reply known
  take_known p reply known takes heard (means_none none) =
      absurd (let both : None ≡ Some Deq = sym none ∙ takes in cc (both))
  take_known p reply known takes heard (means_done v puts other) = absurd (enq_or_deq p puts takes)
  take_known p reply known takes heard (means_not v puts other) = absurd (enq_or_deq p puts takes)
  take_known p reply known takes heard (means_open v puts other) = absurd (enq_or_deq p puts takes)
  take_known p reply known takes heard (means_took v q mine other puts) =
      got_from v q (one_known p reply (Got v) heard other) puts refl
  take_known p reply known takes heard (means_nothing mine other) =
      got_none (one_known p reply Empty heard other) refl
  take_known p reply known takes heard (means_take_not mine other) = absurd (not_both p reply heard other)
  take_known p reply known takes heard (means_take_open mine fail) = absurd (fail.no_reply reply heard)

-- the value of a put
abbrev value_of_call : Option Call → Value
value_of_call (Some (Enq value)) = value
value_of_call (Some Deq) = []
value_of_call None = []

abbrev value_at : List Event → ℕ → Value
value_at events p = value_of_call (call_at events p)

value_is : (events : List Event) (p : ℕ) (value : Value) → PutsAt events p value → value_at events p ≡ value
value_is events p value puts = ap value_of_call puts

puts_value : (events : List Event) (p : ℕ) (value : Value) → PutsAt events p value → PutsAt events p (value_at events p)
puts_value events p value puts = puts ∙ ap (λ (v : Value). Some (Enq v)) (sym (value_is events p value puts))

-- the entry of a step
abbrev entry_of : List Event → Step → Entry
entry_of events (put v) = record { place = v; reply = Done }
entry_of events (got t v) = record { place = t; reply = Got (value_at events v) }
entry_of events (nothing t) = record { place = t; reply = Empty }

abbrev entries_of : List Event → List Step → List Entry
entries_of events [] = []
entries_of events (step ∷ rest) = entry_of events step ∷ entries_of events rest

entry_place : (events : List Event) (step : Step) → (entry_of events step).place ≡ place_of step
entry_place events (put v) = refl
entry_place events (got t v) = refl
entry_place events (nothing t) = refl

entry_in : (events : List Event) (step : Step) (steps : List Step) → IsAmong step steps
    → Contains (entries_of events steps) (entry_of events step)
entry_in events step [] among = absurd among
entry_in events step (first ∷ rest) (inl same) = (0, omega arith, ap (entry_of events) same)
entry_in events step (first ∷ rest) (inr later) =
    let was : Contains (entries_of events rest) (entry_of events step) = entry_in events step rest later in
    (suc was.0, omega (arith, was.1), was.2)

record HasStep (events : List Event) (steps : List Step) (x : Entry) : Type 0 where
  step : Step
  among : IsAmong step steps
  is : entry_of events step ≡ x

step_at : (events : List Event) (steps : List Step) (i : ℕ) (x : Entry)
    → slice_get (entries_of events steps) i ≡ Some x → HasStep events steps x
step_at events [] i x at = cc (at)
step_at events (first ∷ rest) zero x at =
    record { step = first; among = inl refl; is = same_Some (entry_of events first) x at }
step_at events (first ∷ rest) (suc i) x at =
    let was : HasStep events rest x = step_at events rest i x at in
    record { step = was.step; among = inr was.among; is = was.is }

-- an entry in the order is that of a step
step_in : (events : List Event) (steps : List Step) (p : ℕ) → InOrder (entries_of events steps) p
    → (step : Step) × (IsAmong step steps × (place_of step ≡ p))
step_in events [] p (k, x, lt, is, place) = absurd (omega (arith, lt))
step_in events (first ∷ rest) p (zero, x, lt, is, place) =
    (first, (inl refl, sym (entry_place events first) ∙ ap (λ (e : Entry). e.place) is ∙ place))
step_in events (first ∷ rest) p (suc k, x, lt, is, place) =
    let was : (step : Step) × (IsAmong step rest × (place_of step ≡ p)) =
    step_in events rest p (k, x, omega (arith, lt), is, place) in
    (was.0, (inr was.1.0, was.1.1))

module _ (events : List Event) (learnt : List (Option Outcome)) (is : IsOfQueue events learnt)
    (meaning : (p : ℕ) → HasMeaning events learnt p) (steps : List Step)
    (explain : Explain (calls_of events learnt meaning) steps) where
  -- the call of a step
  abbrev IsRight : Step → Type 0
  IsRight (put v) = PutsAt events v (value_at events v)
  IsRight (got t v) = TakesAt events t
  IsRight (nothing t) = TakesAt events t

  put_right : (p : ℕ) (known : Known) → (known ≡ put_done) ⊎ (known ≡ put_open) → Means events learnt p known
      → PutsAt events p (value_at events p)
  put_right p known (inl same) (means_none none) = cc (same)
  put_right p known (inr same) (means_none none) = cc (same)
  put_right p known side (means_done v puts heard) = puts_value events p v puts
  put_right p known side (means_not v puts heard) = puts_value events p v puts
  put_right p known side (means_open v puts heard) = puts_value events p v puts
  put_right p known (inl same) (means_took v q takes heard puts) = cc (same)
  put_right p known (inr same) (means_took v q takes heard puts) = cc (same)
  put_right p known (inl same) (means_nothing takes heard) = cc (same)
  put_right p known (inr same) (means_nothing takes heard) = cc (same)
  put_right p known (inl same) (means_take_not takes heard) = cc (same)
  put_right p known (inr same) (means_take_not takes heard) = cc (same)
  put_right p known (inl same) (means_take_open takes heard) = cc (same)
  put_right p known (inr same) (means_take_open takes heard) = cc (same)

  take_right : (p q : ℕ) (known : Known) → (known ≡ took q) ⊎ (known ≡ take_open) → Means events learnt p known
      → TakesAt events p
  take_right p q known side (means_took v r takes heard puts) = takes
  take_right p q known side (means_nothing takes heard) = takes
  take_right p q known side (means_take_not takes heard) = takes
  take_right p q known side (means_take_open takes heard) = takes
  take_right p q known (inl same) (means_none none) = cc (same)
  take_right p q known (inr same) (means_none none) = cc (same)
  take_right p q known (inl same) (means_done v puts heard) = cc (same)
  take_right p q known (inr same) (means_done v puts heard) = cc (same)
  take_right p q known (inl same) (means_not v puts heard) = cc (same)
  take_right p q known (inr same) (means_not v puts heard) = cc (same)
  take_right p q known (inl same) (means_open v puts heard) = cc (same)
  take_right p q known (inr same) (means_open v puts heard) = cc (same)

  nothing_right : (p : ℕ) (known : Known) → (known ≡ found_nothing) ⊎ (known ≡ take_open) → Means events learnt p known
      → TakesAt events p
  nothing_right p known side (means_took v r takes heard puts) = takes
  nothing_right p known side (means_nothing takes heard) = takes
  nothing_right p known side (means_take_not takes heard) = takes
  nothing_right p known side (means_take_open takes heard) = takes
  nothing_right p known (inl same) (means_none none) = cc (same)
  nothing_right p known (inr same) (means_none none) = cc (same)
  nothing_right p known (inl same) (means_done v puts heard) = cc (same)
  nothing_right p known (inr same) (means_done v puts heard) = cc (same)
  nothing_right p known (inl same) (means_not v puts heard) = cc (same)
  nothing_right p known (inr same) (means_not v puts heard) = cc (same)
  nothing_right p known (inl same) (means_open v puts heard) = cc (same)
  nothing_right p known (inr same) (means_open v puts heard) = cc (same)

  right : (step : Step) → IsAllowed (calls_of events learnt meaning) step → IsRight step
  right (put v) allowed = put_right v (meaning v).known allowed (meaning v).means
  right (got t v) allowed = take_right t v (meaning t).known allowed (meaning t).means
  right (nothing t) allowed = nothing_right t (meaning t).known allowed (meaning t).means

  abbrev values : List ℕ → List Value
  values [] = []
  values (v ∷ queue) = value_at events v ∷ values queue

  values_last : (queue : List ℕ) (v : ℕ) → values (queue ++ v ∷ []) ≡ values queue ++ value_at events v ∷ []
  values_last [] v = refl
  values_last (x ∷ queue) v = ap (λ (vs : List Value). value_at events x ∷ vs) (values_last queue v)

  after_put : (queue : List ℕ) (v : ℕ) → PutsAt events v (value_at events v)
      → values (queue ++ v ∷ []) ≡ queue_after_call (values queue) (call_at events v)
  after_put queue v puts = values_last queue v ∙ sym (ap (queue_after_call (values queue)) puts)

  run : (queue : List ℕ) (todo : List Step) → Runs queue todo → ((step : Step) → IsAmong step todo → IsRight step)
      → RunEntries events (values queue) (entries_of events todo)
  run queue [] runs rights = tt
  run queue (put v ∷ rest) runs rights = (
    record { call = Enq (value_at events v); names = rights (put v) (inl refl); reply = refl },
    subst (λ (vs : List Value). RunEntries events vs (entries_of events rest))
        (after_put queue v (rights (put v) (inl refl)))
        (run (queue ++ v ∷ []) rest runs (λ step among. rights step (inr among))),
  )
  run [] (got t v ∷ rest) runs rights = absurd runs
  run (first ∷ queue) (got t v ∷ rest) runs rights = (
    record {
      call = Deq;
      names = rights (got t v) (inl refl);
      reply = ap (λ (w : ℕ). Got (value_at events w)) (sym runs.0);
    },
    subst (λ (vs : List Value). RunEntries events vs (entries_of events rest))
        (sym (ap (queue_after_call (values (first ∷ queue))) (rights (got t v) (inl refl))))
        (run queue rest runs.1 (λ step among. rights step (inr among))),
  )
  run [] (nothing t ∷ rest) runs rights = (
    record { call = Deq; names = rights (nothing t) (inl refl); reply = refl },
    subst (λ (vs : List Value). RunEntries events vs (entries_of events rest))
        (sym (ap (queue_after_call []) (rights (nothing t) (inl refl))))
        (run [] rest runs.1 (λ step among. rights step (inr among))),
  )
  run (first ∷ queue) (nothing t ∷ rest) runs rights = absurd (cc (runs.0))

  replays_from_runs : (queue : List Value) (order : List Entry) → RunEntries events queue order
      → Replays events queue order
  replays_from_runs queue [] runs i lt = absurd (omega (arith, lt))
  replays_from_runs queue (entry ∷ order) runs zero lt =
      record { served = λ e at. subst (IsServed events queue) (same_Some entry e at) runs.0 }
  replays_from_runs queue (entry ∷ order) runs (suc i) lt = record {
    served = λ e at. (replays_from_runs (queue_after_call queue (call_at events entry.place)) order runs.1 i
        (omega (arith, lt))).served e at;
  }

  abbrev pub order : List Entry
  order = entries_of events steps

  rights : (step : Step) → IsAmong step steps → IsRight step
  rights step among = right step (explain.allowed step among).1

  replays : Replays events [] order
  replays = replays_from_runs [] order (run [] steps explain.runs rights)

  -- two entries of an order: the earlier one is of another call, and not of one that begins behind the later one's end
  record ComesBefore (x y : Entry) : Type 0 where
    differ : x.place ≢ y.place
    not_after : end_at events y.place < x.place → ⊥

  comes_before : (todo : List Step) → AreOrdered (calls_of events learnt meaning) todo → (i j : ℕ) (x y : Entry) → i < j
      → slice_get (entries_of events todo) i ≡ Some x → slice_get (entries_of events todo) j ≡ Some y → ComesBefore x y
  comes_before [] ordered i j x y lt at_i at_j = cc (at_i)
  comes_before (first ∷ rest) ordered i zero x y lt at_i at_j = absurd (omega (arith, lt))
  comes_before (first ∷ rest) ordered zero (suc j) x y lt at_i at_j =
      let has : HasStep events rest y = step_at events rest j y at_j in
      let both = ordered.0 has.step has.among in
      let mine : x.place ≡ place_of first =
      ap (λ (e : Entry). e.place) (sym (same_Some (entry_of events first) x at_i)) ∙ entry_place events first in
      let other : y.place ≡ place_of has.step = ap (λ (e : Entry). e.place) (sym has.is) ∙ entry_place events has.step in
      record {
        differ = λ same. both.0 (sym mine ∙ same ∙ other);
        not_after = λ late. let ends : end_at events y.place ≡ end_at events (place_of has.step) =
            ap (end_at events) other in both.1 (omega (arith, late, ends, mine));
      }
  comes_before (first ∷ rest) ordered (suc i) (suc j) x y lt at_i at_j =
      comes_before rest ordered.1 i j x y (omega (arith, lt)) at_i at_j

  precedence : KeepsPrecedence events order
  precedence i j x y at_i at_j before = go (cases_lt i j) (cases_lt j i)
    where
      go : (i < j) ⊎ (j ≤ i) → (j < i) ⊎ (i ≤ j) → i < j
      go (inl less) side = less
      go (inr le) (inl less) =
          absurd ((comes_before steps explain.ordered j i y x less at_j at_i).not_after
          (precedes_to events x.place y.place before))
      go (inr le) (inr more) =
          let same : i ≡ j = omega (arith, le, more) in
          let entries : x ≡ y = cc (at_i, at_j, ap (slice_get order) same) in
          let places : x.place ≡ y.place = ap (λ (e : Entry). e.place) entries in
          absurd (omega (arith, places, before.before, before.ends.after))

  once : (todo : List Step) → AreOrdered (calls_of events learnt meaning) todo → (i : ℕ)
      → IsNew (entries_of events todo) i
  once [] ordered i = record { none = λ entry at taken. cc (at) }
  once (first ∷ rest) ordered zero = record { none = λ entry at taken. absurd (omega (arith, taken.2)) }
  once (first ∷ rest) ordered (suc i) =
      record { none = λ entry at taken. by (once rest ordered.1 i) entry at taken }
    where
      by : IsNew (entries_of events rest) i → (entry : Entry) → slice_get (entries_of events rest) i ≡ Some entry
          → InOrder (take (suc i) (entries_of events (first ∷ rest))) entry.place → ⊥
      by again entry at (zero, x, lt, same, place) =
          let has : HasStep events rest entry = step_at events rest i entry at in
          let mine : place_of first ≡ entry.place =
          sym (entry_place events first) ∙ ap (λ (e : Entry). e.place) same ∙ place in
          let other : entry.place ≡ place_of has.step =
          ap (λ (e : Entry). e.place) (sym has.is) ∙ entry_place events has.step in
          (ordered.0 has.step has.among).0 (mine ∙ other)
      by again entry at (suc k, x, lt, same, place) = again.none entry at (k, x, omega (arith, lt), same, place)

  taken_done : (p : ℕ) (reply : Reply) → reply ≡ Done → IsAmong (put p) steps → IsTakenAs order p reply
  taken_done p reply same among =
      subst (λ (r : Reply). IsTakenAs order p r) (sym same) (entry_in events (put p) steps among)

  -- what is known of a call is so in the order
  known_taken : (p : ℕ) (reply : Reply) → IsKnown events learnt p reply → (call : Option Call) → call_at events p ≡ call
      → p < length events → IsTakenAs order p reply
  known_taken p reply known None none lt = absurd (no_call_known known)
    where
      no_call_known : IsKnown events learnt p reply → ⊥
      no_call_known (inl returned) =
          let both : None ≡ Some returned.begins.1.0 = sym none ∙ ap call_of returned.begins.1.1 in cc (both)
      no_call_known (inr heard) =
          let cut : IsInterrupted events p = is.recorded.interrupted p (Taken reply) heard in
          let both : None ≡ Some cut.call = sym none ∙ ap call_of cut.begins in cc (both)
  known_taken p reply known (Some (Enq value)) puts lt =
      taken_done p reply (is.puts p value reply puts known)
      (explain.puts p lt (done_known events learnt is p value reply (meaning p).known puts known (meaning p).means))
  known_taken p reply known (Some Deq) takes lt =
      go (take_known events learnt is p reply (meaning p).known takes known (meaning p).means)
    where
      go : TakeKnown events learnt is p reply (meaning p).known → IsTakenAs order p reply
      go (got_from value q same puts known_took) =
          let values_same : value_at events q ≡ value = value_is events q value puts in
          subst (λ (r : Reply). IsTakenAs order p r) (ap Got values_same ∙ sym same)
          (entry_in events (got p q) steps (explain.takes p q lt known_took))
      go (got_none same known_nothing) =
          subst (λ (r : Reply). IsTakenAs order p r) (sym same)
          (entry_in events (nothing p) steps (explain.empties p lt known_nothing))

  known_within : (p : ℕ) (reply : Reply) → IsKnown events learnt p reply → p < length events
  known_within p reply (inl returned) = begins_within events returned.client p returned.begins
  known_within p reply (inr heard) =
      let cut : IsInterrupted events p = is.recorded.interrupted p (Taken reply) heard in
      begins_within events cut.client p (cut.number, (cut.call, cut.begins))

  -- a call that took no effect has no step
  refused_out : (p : ℕ) → IsLearnt learnt p NotTaken → (known : Known) → Means events learnt p known
      → (known ≡ put_not) ⊎ (known ≡ take_not) ⊎ (known ≡ no_call)
  refused_out p heard known (means_none none) = inr (inr refl)
  refused_out p heard known (means_done v puts other) = absurd (not_both events learnt is p Done other heard)
  refused_out p heard known (means_not v puts other) = inl refl
  refused_out p heard known (means_open v puts fail) = absurd (fail.not_refused heard)
  refused_out p heard known (means_took v q takes other puts) =
      absurd (not_both events learnt is p (Got v) other heard)
  refused_out p heard known (means_nothing takes other) = absurd (not_both events learnt is p Empty other heard)
  refused_out p heard known (means_take_not takes other) = inr (inl refl)
  refused_out p heard known (means_take_open takes fail) = absurd (fail.not_refused heard)

  not_allowed : (step : Step) → IsAllowed (calls_of events learnt meaning) step
      → ((meaning (place_of step)).known ≡ put_not) ⊎ ((meaning (place_of step)).known ≡ take_not)
      ⊎ ((meaning (place_of step)).known ≡ no_call) → ⊥
  not_allowed (put v) (inl one) (inl other) = cc (one, other)
  not_allowed (put v) (inl one) (inr (inl other)) = cc (one, other)
  not_allowed (put v) (inl one) (inr (inr other)) = cc (one, other)
  not_allowed (put v) (inr one) (inl other) = cc (one, other)
  not_allowed (put v) (inr one) (inr (inl other)) = cc (one, other)
  not_allowed (put v) (inr one) (inr (inr other)) = cc (one, other)
  not_allowed (got t v) (inl one) (inl other) = cc (one, other)
  not_allowed (got t v) (inl one) (inr (inl other)) = cc (one, other)
  not_allowed (got t v) (inl one) (inr (inr other)) = cc (one, other)
  not_allowed (got t v) (inr one) (inl other) = cc (one, other)
  not_allowed (got t v) (inr one) (inr (inl other)) = cc (one, other)
  not_allowed (got t v) (inr one) (inr (inr other)) = cc (one, other)
  not_allowed (nothing t) (inl one) (inl other) = cc (one, other)
  not_allowed (nothing t) (inl one) (inr (inl other)) = cc (one, other)
  not_allowed (nothing t) (inl one) (inr (inr other)) = cc (one, other)
  not_allowed (nothing t) (inr one) (inl other) = cc (one, other)
  not_allowed (nothing t) (inr one) (inr (inl other)) = cc (one, other)
  not_allowed (nothing t) (inr one) (inr (inr other)) = cc (one, other)

  agrees : (p : ℕ) (outcome : Outcome) → IsLearnt learnt p outcome → IsOutcome order p outcome
  agrees p (Taken reply) heard =
      known_taken p reply (inr heard) (call_at events p) refl (known_within p reply (inr heard))
  agrees p NotTaken heard = λ taken.
      let has : (step : Step) × (IsAmong step steps × (place_of step ≡ p)) = step_in events steps p taken in
      not_allowed has.0 (explain.allowed has.0 has.1.0).1
      (refused_out (place_of has.0) (subst (λ (n : ℕ). IsLearnt learnt n NotTaken) (sym has.1.1) heard)
      (meaning (place_of has.0)).known (meaning (place_of has.0)).means)

  is_some : (step : Step) → IsRight step → IsSome (call_at events (place_of step))
  is_some (put v) puts = subst (λ (c : Option Call). IsSome c) (sym puts) refl
  is_some (got t v) takes = subst (λ (c : Option Call). IsSome c) (sym takes) refl
  is_some (nothing t) takes = subst (λ (c : Option Call). IsSome c) (sym takes) refl

  names : (k : ℕ) (d : Entry) → k < length order → IsSome (call_at events (get_or order k d).place)
  names k d lt =
      let has : HasStep events steps (get_or order k d) =
      step_at events steps k (get_or order k d) (slice_get-get_or order k d lt) in
      subst (λ (n : ℕ). IsSome (call_at events n))
      (sym (entry_place events has.step) ∙ ap (λ (e : Entry). e.place) has.is)
      (is_some has.step (rights has.step has.among))

  pub explains : ExplainsFindings events learnt order
  explains = record {
    is_order = record { calls = names; once = λ i lt. once steps explain.ordered i };
    answers = λ p lt. record {
      taken = λ e client reply begins ends returns. known_taken p reply
          (inl (record { client = client; begins = begins; end = e; ends = ends; returns = returns }))
          (call_at events p) refl lt;
    };
    replays = replays;
    precedence = precedence;
    agrees = record { each = agrees };
  }

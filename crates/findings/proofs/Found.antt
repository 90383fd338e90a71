-- A pattern in a recording's calls is one in the recording.
use Rattle.std.proofs.Common.{ℕ, zero, suc, ◌≡◌, ◌≢◌, ◌<◌, ◌≤◌, ◌+◌, ◌⊎◌, List, [], ◌∷◌, Option, Some, None}
use Rattle.std.proofs.Common.{get_or, length, inl, inr, refl, ap, arith, subst, sym, ◌∙◌}
use Rattle.words.specs.PlainQueue.{Value}
use Rattle.words.specs.declared.call.Call.TheVariants.{Enq, Deq}
use Rattle.words.specs.declared.call.Reply.{Reply}
use Rattle.words.specs.declared.call.Reply.TheVariants.{Got, Empty}
use Rattle.words.specs.declared.told.Outcome.{Outcome}
use Rattle.words.specs.declared.told.Outcome.TheVariants.{NotTaken}
use Rattle.events.specs.declared.event.Event.{Event}
use Rattle.events.specs.History.{Precedes}
use Rattle.events.proofs.Facts.{contains_from_in, in_from_contains}
use Rattle.findings.specs.declared.witness.Since.{Since}
use Rattle.findings.specs.Findings.{IsLearnt, IsKnown, IsKnownGot, PutsAt, TakesAt}
use Rattle.findings.specs.Shows.{IsNoSource, AreInSince, WasOver, CanHaveTaken}
use Rattle.findings.specs.Shows.{IsValueOf, IsKnownPut, IsFew, IsLate}
use Rattle.findings.specs.Shows.{IsInAt as IsInThere}
use Rattle.findings.specs.FourPatterns.{IsOfQueue, Missing, late, few, IsPutAmong, AreMissing, IsHeldAt}
use Rattle.findings.specs.FourPatterns.{HasPattern, invented, twice, passed_over, not_empty}
use Rattle.windows.specs.Lists.{IsAmong, AreDifferent}
use Rattle.windows.specs.Calls.{Known, put_done, put_not, took, found_nothing, take_open}
use Rattle.windows.specs.Calls.{Calls, Lack, IsPutOf, IsInAt, IsMissing, AreFew, Lacks, IsInvented, IsTwice, IsPassedOver}
use Rattle.windows.specs.Calls.{late as late_lack, few as few_lack, IsLate as IsLateCall, WasOver as WasOverCall}
use Rattle.windows.specs.Calls.{AreInSince as AreInSinceCalls}
use Rattle.windows.specs.Calls.{IsHeld, IsNotEmpty, Pattern, invented as invented_call, twice as twice_call}
use Rattle.windows.specs.Calls.{passed_over as passed_over_call, not_empty as not_empty_call}
use Rattle.findings.proofs.Showing.{within_events}
use Rattle.findings.proofs.Reading.{NothingKnown, end_at, place_end, precedes_from, over_from, over_or_all}
use Rattle.findings.proofs.Meanings.{Means, means_none, means_done, means_not, means_open, means_took, means_nothing}
use Rattle.findings.proofs.Meanings.{means_take_not, means_take_open, HasMeaning, calls_of, meant, TookFrom, took_means}
use Rattle.findings.proofs.Explained.{TakeKnown, got_from, got_none, take_known}

among_get : (xs : List ℕ) (k d : ℕ) → k < length xs → IsAmong (get_or xs k d) xs
among_get [] k d lt = absurd (omega (arith, lt))
among_get (x ∷ xs) zero d lt = inl refl
among_get (x ∷ xs) (suc k) d lt = inr (among_get xs k d (omega (arith, lt)))

differ_get : (xs : List ℕ) → AreDifferent xs → (i j d : ℕ) → i < j → j < length xs → get_or xs i d ≢ get_or xs j d
differ_get [] differ i j d lt within = absurd (omega (arith, within))
differ_get (x ∷ xs) differ i zero d lt within = absurd (omega (arith, lt))
differ_get (x ∷ xs) differ zero (suc j) d lt within =
    λ same. differ.0 (subst (λ (v : ℕ). IsAmong v xs) (sym same) (among_get xs j d (omega (arith, within))))
differ_get (x ∷ xs) differ (suc i) (suc j) d lt within =
    differ_get xs differ.1 i j d (omega (arith, lt)) (omega (arith, within))

-- the same lack by the recording's words
abbrev since_of : Option ℕ → ℕ → ℕ → Option Since
since_of None ahead_put ahead_take = None
since_of (Some place) ahead_put ahead_take =
    Some (record { place = place; ahead = Some (record { put = ahead_put; take = ahead_take }) })

abbrev missing_of : Lack → Missing
missing_of (late_lack source take) = late source take
missing_of (few_lack puts takes since ahead_put ahead_take) = few puts takes (since_of since ahead_put ahead_take)

module _ (events : List Event) (learnt : List (Option Outcome)) (is : IsOfQueue events learnt)
    (meaning : (p : ℕ) → HasMeaning events learnt p) where
  abbrev calls : Calls
  calls = calls_of events learnt meaning

  took_from : (t v : ℕ) → (meaning t).known ≡ took v → TookFrom events learnt t v
  took_from t v known = took_means events learnt t v (meant events learnt t (meaning t).known (took v) known (meaning t).means)

  known_put : (p : ℕ) (known : Known) → known ≡ put_done → Means events learnt p known → IsKnownPut events learnt p
  known_put p known same (means_done value puts heard) = record { value = value; puts = puts; known = heard }
  known_put p known same (means_none none) = cc (same)
  known_put p known same (means_not v puts heard) = cc (same)
  known_put p known same (means_open v puts fail) = cc (same)
  known_put p known same (means_took v q takes heard puts) = cc (same)
  known_put p known same (means_nothing takes heard) = cc (same)
  known_put p known same (means_take_not takes heard) = cc (same)
  known_put p known same (means_take_open takes fail) = cc (same)

  refused_put : (p : ℕ) (known : Known) → known ≡ put_not → Means events learnt p known → IsLearnt learnt p NotTaken
  refused_put p known same (means_not v puts heard) = heard
  refused_put p known same (means_done value puts heard) = cc (same)
  refused_put p known same (means_none none) = cc (same)
  refused_put p known same (means_open v puts fail) = cc (same)
  refused_put p known same (means_took v q takes heard puts) = cc (same)
  refused_put p known same (means_nothing takes heard) = cc (same)
  refused_put p known same (means_take_not takes heard) = cc
  refused_put p known same (means_take_open takes fail) = cc (same)

  empty_take : (p : ℕ) (known : Known) → known ≡ found_nothing → Means events learnt p known
      → TakesAt events p × IsKnown events learnt p Empty
  empty_take p known same (means_nothing takes heard) = (takes, heard)
  empty_take p known same (means_not v puts heard) = cc (same)
  empty_take p known same (means_done value puts heard) = cc (same)
  empty_take p known same (means_none none) = cc (same)
  empty_take p known same (means_open v puts fail) = cc (same)
  empty_take p known same (means_took v q takes heard puts) = cc (same)
  empty_take p known same (means_take_not takes heard) = cc (same)
  empty_take p known same (means_take_open takes fail) = cc (same)

  open_known : (p : ℕ) (known : Known) → TakesAt events p → NothingKnown events learnt p → Means events learnt p known
      → known ≡ take_open
  open_known p known takes fail (means_take_open mine other) = refl
  open_known p known takes fail (means_none none) =
      absurd (let both : None ≡ Some Deq = sym none ∙ takes in cc (both))
  open_known p known takes fail (means_done v puts heard) =
      absurd (let both : Some (Enq v) ≡ Some Deq = sym puts ∙ takes in cc (both))
  open_known p known takes fail (means_not v puts heard) =
      absurd (let both : Some (Enq v) ≡ Some Deq = sym puts ∙ takes in cc (both))
  open_known p known takes fail (means_open v puts heard) =
      absurd (let both : Some (Enq v) ≡ Some Deq = sym puts ∙ takes in cc (both))
  open_known p known takes fail (means_took v q mine heard puts) = absurd (fail.no_reply (Got v) heard)
  open_known p known takes fail (means_nothing mine heard) = absurd (fail.no_reply Empty heard)
  open_known p known takes fail (means_take_not mine heard) = absurd (fail.not_refused heard)

  missing_put : (v : ℕ) → IsMissing calls v → IsKnownPut events learnt v
  missing_put v missing = known_put v (meaning v).known missing.done (meaning v).means

  late_is : (bound source take : ℕ) → IsLateCall calls bound source take → IsLate events learnt bound source take
  late_is bound source take lack =
      let from : TookFrom events learnt take source = took_from take source lack.got in
      record { value = from.value; puts = from.puts; got = from.got; late = lack.late }

  module _ (bound : ℕ) (puts takes : List ℕ) (ahead_put ahead_take : ℕ) where
    in_there : (place v : ℕ) → v < length events → IsInAt calls place ahead_put ahead_take v
        → IsInThere events learnt
        (record { place = place; ahead = Some (record { put = ahead_put; take = ahead_take }) }) v
    in_there place v lt (inl later) = inl later
    in_there place v lt (inr (within, (got, (soon, before)))) =
        let from : TookFrom events learnt ahead_take ahead_put = took_from ahead_take ahead_put got in
        inr (
          record { put = ahead_put; take = ahead_take },
          refl,
          soon,
          record {
            value = from.value;
            puts = from.puts;
            got = from.got;
            before = precedes_from events ahead_put v (Enq from.value) from.puts (omega (arith, lt)) before;
          },
        )

    in_since : (since : Option ℕ) → ((v : ℕ) → IsAmong v puts → IsMissing calls v)
        → AreInSinceCalls calls puts since ahead_put ahead_take
        → AreInSince events learnt puts (since_of since ahead_put ahead_take)
    in_since None missing in_calls = tt
    in_since (Some place) missing in_calls = λ p contained.
        let among : IsAmong p puts = in_from_contains puts p contained in
        in_there place p (missing p among).within (in_calls p among)

    -- a take that can have taken a value of the puts is open
    can_is_open : ((v : ℕ) → IsAmong v puts → IsMissing calls v) → (since : Option Since) (t : ℕ)
        → CanHaveTaken events learnt puts since t → (meaning t).known ≡ take_open
    can_is_open missing since t can = open_known t (meaning t).known can.takes
        (record { no_reply = λ reply known. no_reply reply known (can.known reply known); not_refused = can.not_refused })
        (meaning t).means
      where
        no_reply : (reply : Reply) → IsKnown events learnt t reply
            → (value : Value) × (reply ≡ Got value) × IsValueOf events puts value → ⊥
        no_reply reply known (value, same, of_put) =
            go (take_known events learnt is t reply (meaning t).known can.takes known (meaning t).means)
          where
            go : TakeKnown events learnt is t reply (meaning t).known → ⊥
            go (got_none empty known_nothing) = let both : Got value ≡ Empty = sym same ∙ empty in cc (both)
            go (got_from other q got mine known_took) =
                let both : Got value ≡ Got other = sym same ∙ got in
                let values : value ≡ other = cc (both) in
                let puts_same : q ≡ of_put.put = is.distinct.each q of_put.put other mine
                (subst (PutsAt events of_put.put) values of_put.puts) in
                (missing of_put.put (in_from_contains puts of_put.put of_put.contained)).none t
                (within_events events t Deq can.takes) (known_took ∙ ap took puts_same)

    -- some put is there, so the place lies within the recording
    place_within : (place : ℕ) → ((v : ℕ) → IsAmong v puts → IsMissing calls v) → (xs : List ℕ) → xs ≡ puts
        → 0 < length xs → AreInSinceCalls calls puts (Some place) ahead_put ahead_take → place < length events
    place_within place missing [] same some in_calls = absurd (omega (arith, some))
    place_within place missing (v ∷ rest) same some in_calls =
        let among : IsAmong v puts = subst (λ (vs : List ℕ). IsAmong v vs) same (inl refl) in
        go v (missing v among).within (in_calls v among)
      where
        go : (w : ℕ) → w < length events → IsInAt calls place ahead_put ahead_take w → place < length events
        go w lt (inl later) = omega (arith, later, lt)
        go w lt (inr (within, (got, (soon, before)))) = omega (arith, soon, within)

    not_over : (since : Option ℕ) (t : ℕ) → TakesAt events t → ((v : ℕ) → IsAmong v puts → IsMissing calls v)
        → AreInSinceCalls calls puts since ahead_put ahead_take → 0 < length puts
        → (WasOver events (since_of since ahead_put ahead_take) t → ⊥) → WasOverCall calls since t → ⊥
    not_over None t takes_it missing in_calls some fail over = over
    not_over (Some place) t takes_it missing in_calls some fail over = fail
        (over_from events t place Deq takes_it (place_within place missing puts refl some in_calls) over)

    few_are : (since : Option ℕ) → AreFew calls bound puts takes since ahead_put ahead_take
        → IsFew events learnt bound puts takes (since_of since ahead_put ahead_take)
    few_are since lack = record {
      certain = λ k d lt. missing_put (get_or puts k d) (lack.missing (get_or puts k d) (among_get puts k d lt));
      different = λ i j d lt within. differ_get puts lack.different i j d lt within;
      in_since = in_since since lack.missing lack.in_since;
      listed = λ t early. record {
        contained = λ can. contains_from_in takes t
            (lack.listed t (within_events events t Deq can.takes) early
            (can_is_open lack.missing (since_of since ahead_put ahead_take) t can)
            (not_over since t can.takes lack.missing lack.in_since (let more : length takes < length puts = lack.fewer in
            omega (arith, more)) can.not_over));
      };
      fewer = lack.fewer;
    }

  lacks_are : (bound : ℕ) (lack : Lack) → Lacks calls bound lack → AreMissing events learnt bound (missing_of lack)
  lacks_are bound (late_lack source take) lacks = late_is bound source take lacks
  lacks_are bound (few_lack puts takes since ahead_put ahead_take) lacks =
      few_are bound puts takes ahead_put ahead_take since lacks

  -- the puts of a lack
  record IsPutHere (p : ℕ) : Type 0 where
    value : Value
    puts : PutsAt events p value

  put_here : (bound : ℕ) (lack : Lack) → Lacks calls bound lack → (p : ℕ) → IsPutOf lack p → IsPutHere p
  put_here bound (late_lack source take) lacks p same =
      let from : TookFrom events learnt take source = took_from take source lacks.got in
      record { value = from.value; puts = subst (λ (n : ℕ). PutsAt events n from.value) (sym same) from.puts }
  put_here bound (few_lack puts takes since ahead_put ahead_take) lacks p among =
      let known : IsKnownPut events learnt p = missing_put p (lacks.missing p among) in
      record { value = known.value; puts = known.puts }

  put_among : (lack : Lack) (p : ℕ) → IsPutAmong (missing_of lack) p → IsPutOf lack p
  put_among (late_lack source take) p same = same
  put_among (few_lack puts takes since ahead_put ahead_take) p contained = in_from_contains puts p contained

  invented_is : (t v : ℕ) → IsInvented calls t v → HasPattern events learnt
  invented_is t v shows = invented t from.value (record { got = from.got; none = λ q puts. none q puts shows.nobody })
    where
      from : TookFrom events learnt t v
      from = took_from t v shows.got

      none : (q : ℕ) → PutsAt events q from.value → ((meaning v).known ≡ put_not) ⊎ (end_at events t < v)
          → IsNoSource events learnt t q
      none q puts (inl refused) =
          let same : v ≡ q = is.distinct.each v q from.value from.puts puts in
          inr (subst (λ (n : ℕ). IsLearnt learnt n NotTaken) same
          (refused_put v (meaning v).known refused (meaning v).means))
      none q puts (inr later) =
          let same : v ≡ q = is.distinct.each v q from.value from.puts puts in
          let lt : v < length events = within_events events v (Enq from.value) from.puts in
          inl (subst (Precedes events t) same (precedes_from events t v Deq from.takes (omega (arith, lt)) later))

  twice_is : (s t v : ℕ) → IsTwice calls s t v → HasPattern events learnt
  twice_is s t v shows =
      let one : TookFrom events learnt s v = took_from s v shows.one in
      let other : TookFrom events learnt t v = took_from t v shows.other in
      let both : Some (Enq other.value) ≡ Some (Enq one.value) = sym other.puts ∙ one.puts in
      let values : other.value ≡ one.value = cc (both) in
      twice s t one.value (record {
        one = one.got;
        other = subst (IsKnownGot events learnt t) values other.got;
        two = shows.two;
      })

  passed_over_is : (t v : ℕ) (lack : Lack) → IsPassedOver calls t v lack → HasPattern events learnt
  passed_over_is t v lack shows =
      let from : TookFrom events learnt t v = took_from t v shows.got in
      let lt : v < length events = within_events events v (Enq from.value) from.puts in
      passed_over t v (end_at events t) from.value (missing_of lack) (record {
        puts = from.puts;
        got = from.got;
        bounded = over_or_all events t Deq from.takes;
        ahead = λ p among.
            let of_lack : IsPutOf lack p = put_among lack p among in
            let here : IsPutHere p = put_here (end_at events t) lack shows.lacks p of_lack in
            precedes_from events p v (Enq here.value) here.puts (omega (arith, lt)) (shows.ahead p of_lack);
        lacks = lacks_are (end_at events t) lack shows.lacks;
      })

  not_empty_is : (t : ℕ) → IsNotEmpty calls t → HasPattern events learnt
  not_empty_is t shows = not_empty t (end_at events t) (record {
    empty = found.1;
    bounded = over_or_all events t Deq found.0;
    held = λ place since before. held place (shows.held place since before)
        (let within : end_at events t ≤ length events = (place_end events t).within in omega (arith, within, before));
  })
    where
      found : TakesAt events t × IsKnown events learnt t Empty
      found = empty_take t (meaning t).known shows.empty (meaning t).means

      held : (place : ℕ) → IsHeld calls place → place < length events → IsHeldAt events learnt place
      held place hold lt = record {
        missing = missing_of hold.lack;
        ended = λ p among.
            let of_lack : IsPutOf hold.lack p = put_among hold.lack p among in
            let here : IsPutHere p = put_here (suc place) hold.lack hold.lacks p of_lack in
            over_from events p place (Enq here.value) here.puts lt (hold.ended p of_lack);
        lacks = subst (λ (bound : ℕ). AreMissing events learnt bound (missing_of hold.lack))
            (let same : suc place ≡ place + 1 = omega arith in same)
            (lacks_are (suc place) hold.lack hold.lacks);
      }

  pub pattern_is : Pattern calls → HasPattern events learnt
  pattern_is (invented_call t v shows) = invented_is t v shows
  pattern_is (twice_call s t v shows) = twice_is s t v shows
  pattern_is (passed_over_call t v lack shows) = passed_over_is t v lack shows
  pattern_is (not_empty_call t shows) = not_empty_is t shows

-- A recording as calls on a queue, by their places.
use Rattle.std.proofs.Common.{ℕ, ◌≡◌, ◌<◌, ◌≤◌, ◌⊎◌, List, [], ◌∷◌, Option, Some, None, length}
use Rattle.std.proofs.Common.{inl, inr, refl, ap, arith, subst, sym, ◌∙◌}
use Rattle.std.proofs.lemmas.Bool.{cases_lt, cases_eq}
use Rattle.words.specs.PlainQueue.{Value}
use Rattle.words.specs.declared.call.Call.{Call}
use Rattle.words.specs.declared.call.Call.TheVariants.{Enq, Deq}
use Rattle.words.specs.declared.call.Client.{Client}
use Rattle.words.specs.declared.call.Reply.TheVariants.{Done, Got, Empty}
use Rattle.words.specs.declared.told.Outcome.{Outcome}
use Rattle.words.specs.declared.told.Outcome.TheVariants.{NotTaken}
use Rattle.events.specs.declared.event.Event.{Event}
use Rattle.events.specs.History.{CrashAt, BeginsAt, EndsAt, IsEnd}
use Rattle.events.specs.Replay.{call_at}
use Rattle.findings.specs.Findings.{IsLearnt, IsKnown, IsKnownGot, PutsAt, TakesAt}
use Rattle.findings.specs.FourPatterns.{IsOfQueue, HasPattern, invented}
use Rattle.windows.specs.Calls.{Known, no_call, put_done, put_not, put_open, took, found_nothing, take_not, take_open}
use Rattle.windows.specs.Calls.{Calls, AreCalls, IsPut}
use Rattle.windows.proofs.Facts.{all_or}
use Rattle.findings.proofs.Showing.{within_events}
use Rattle.findings.proofs.Reading.{NothingKnown, Knowledge, replied, refused, unknown, knowledge, end_at, place_end}
use Rattle.findings.proofs.Reading.{begins_call}

-- what is known of a call by its place, and what that means
pub data Means (events : List Event) (learnt : List (Option Outcome)) (p : ℕ) : Known → Type 0 where
  means_none : call_at events p ≡ None → Means events learnt p no_call
  means_done : (value : Value) → PutsAt events p value → IsKnown events learnt p Done
      → Means events learnt p put_done
  means_not : (value : Value) → PutsAt events p value → IsLearnt learnt p NotTaken → Means events learnt p put_not
  means_open : (value : Value) → PutsAt events p value → NothingKnown events learnt p
      → Means events learnt p put_open
  means_took : (value : Value) (q : ℕ) → TakesAt events p → IsKnownGot events learnt p value → PutsAt events q value
      → Means events learnt p (took q)
  means_nothing : TakesAt events p → IsKnown events learnt p Empty → Means events learnt p found_nothing
  means_take_not : TakesAt events p → IsLearnt learnt p NotTaken → Means events learnt p take_not
  means_take_open : TakesAt events p → NothingKnown events learnt p → Means events learnt p take_open

pub record HasMeaning (events : List Event) (learnt : List (Option Outcome)) (p : ℕ) : Type 0 where
  pub known : Known
  pub means : Means events learnt p known

same_bytes : (v w : List ℕ) → (v ≡ w) ⊎ (v ≡ w → ⊥)
same_bytes [] [] = inl refl
same_bytes [] (y ∷ w) = inr (λ same. cc (same))
same_bytes (x ∷ v) [] = inr (λ same. cc (same))
same_bytes (x ∷ v) (y ∷ w) = go (cases_eq x y) (same_bytes v w)
  where
    go : (x ≡ y) ⊎ (x ≡ y → ⊥) → (v ≡ w) ⊎ (v ≡ w → ⊥) → (x ∷ v ≡ y ∷ w) ⊎ (x ∷ v ≡ y ∷ w → ⊥)
    go (inr differ) rest = inr (λ same. differ (cc (same)))
    go (inl first) (inr differ) = inr (λ same. differ (cc (same)))
    go (inl first) (inl rest) = inl (cc (first, rest))

puts_or : (events : List Event) (value : Value) (q : ℕ) → (PutsAt events q value → ⊥) ⊎ ((p : ℕ) × PutsAt events p value)
puts_or events value q = go (call_at events q) refl
  where
    go : (call : Option Call) → call_at events q ≡ call
        → (PutsAt events q value → ⊥) ⊎ ((p : ℕ) × PutsAt events p value)
    go None is = inl (λ puts. let both : None ≡ Some (Enq value) = sym is ∙ puts in cc (both))
    go (Some Deq) is = inl (λ puts. let both : Some Deq ≡ Some (Enq value) = sym is ∙ puts in cc (both))
    go (Some (Enq other)) is = by (same_bytes other value)
      where
        by : (other ≡ value) ⊎ (other ≡ value → ⊥) → (PutsAt events q value → ⊥) ⊎ ((p : ℕ) × PutsAt events p value)
        by (inl same) = inr (q, is ∙ ap (λ (v : Value). Some (Enq v)) same)
        by (inr differ) =
            inl (λ puts. let both : Some (Enq other) ≡ Some (Enq value) = sym is ∙ puts in differ (cc (both)))

-- a put of the value, or nobody put it
find_put : (events : List Event) (value : Value) → ((q : ℕ) → PutsAt events q value → ⊥) ⊎ ((p : ℕ) × PutsAt events p value)
find_put events value =
    go (all_or {P = λ q. PutsAt events q value → ⊥} (length events) (λ q lt. puts_or events value q))
  where
    go : ((q : ℕ) → q < length events → PutsAt events q value → ⊥) ⊎ ((p : ℕ) × PutsAt events p value)
        → ((q : ℕ) → PutsAt events q value → ⊥) ⊎ ((p : ℕ) × PutsAt events p value)
    go (inr found) = inr found
    go (inl fail) = inl (λ q puts. fail q (within_events events q (Enq value) puts) puts)

module _ (events : List Event) (learnt : List (Option Outcome)) (is : IsOfQueue events learnt) where
  put_means : (p : ℕ) (value : Value) → PutsAt events p value → Knowledge events learnt p → HasMeaning events learnt p
  put_means p value puts (replied reply known) = record {
    known = put_done;
    means = means_done value puts (subst (IsKnown events learnt p) (is.puts p value reply puts known) known);
  }
  put_means p value puts (refused heard) = record { known = put_not; means = means_not value puts heard }
  put_means p value puts (unknown nothing) = record { known = put_open; means = means_open value puts nothing }

  take_means : (p : ℕ) → TakesAt events p → Knowledge events learnt p
      → HasMeaning events learnt p ⊎ HasPattern events learnt
  take_means p takes (replied Done known) = absurd (is.takes p Done takes known refl)
  take_means p takes (replied Empty known) = inl (record { known = found_nothing; means = means_nothing takes known })
  take_means p takes (replied (Got value) known) = go (find_put events value)
    where
      go : ((q : ℕ) → PutsAt events q value → ⊥) ⊎ ((q : ℕ) × PutsAt events q value)
          → HasMeaning events learnt p ⊎ HasPattern events learnt
      go (inl fail) = inr (invented p value (record { got = known; none = λ q puts. absurd (fail q puts) }))
      go (inr (q, puts)) = inl (record { known = took q; means = means_took value q takes known puts })
  take_means p takes (refused heard) = inl (record { known = take_not; means = means_take_not takes heard })
  take_means p takes (unknown nothing) = inl (record { known = take_open; means = means_take_open takes nothing })

  meaning_or : (p : ℕ) → HasMeaning events learnt p ⊎ HasPattern events learnt
  meaning_or p = go (call_at events p) refl
    where
      go : (call : Option Call) → call_at events p ≡ call → HasMeaning events learnt p ⊎ HasPattern events learnt
      go None none = inl (record { known = no_call; means = means_none none })
      go (Some (Enq value)) puts = inl (put_means p value puts (knowledge events learnt p))
      go (Some Deq) takes = take_means p takes (knowledge events learnt p)

  any_place : ((p : ℕ) → p < length events → HasMeaning events learnt p) → (p : ℕ) → HasMeaning events learnt p
  any_place each p = go (cases_lt p (length events))
    where
      none_behind : length events ≤ p → (call : Option Call) → call_at events p ≡ call → HasMeaning events learnt p
      none_behind le None none = record { known = no_call; means = means_none none }
      none_behind le (Some call) some =
          absurd (let lt : p < length events = within_events events p call some in omega (arith, le, lt))

      go : (p < length events) ⊎ (length events ≤ p) → HasMeaning events learnt p
      go (inl lt) = each p lt
      go (inr le) = none_behind le (call_at events p) refl

  pub meanings_or : ((p : ℕ) → HasMeaning events learnt p) ⊎ HasPattern events learnt
  meanings_or = go (all_or {P = HasMeaning events learnt} (length events) (λ p lt. meaning_or p))
    where
      go : ((p : ℕ) → p < length events → HasMeaning events learnt p) ⊎ HasPattern events learnt
          → ((p : ℕ) → HasMeaning events learnt p) ⊎ HasPattern events learnt
      go (inl each) = inl (any_place each)
      go (inr pattern) = inr pattern

-- so it is a list of calls

abbrev pub calls_of : (events : List Event) (learnt : List (Option Outcome))
    → ((p : ℕ) → HasMeaning events learnt p) → Calls
calls_of events learnt meaning = record {
  places = length events;
  known = λ p. (meaning p).known;
  end = end_at events;
}

-- what is known of a place, read back
pub meant : (events : List Event) (learnt : List (Option Outcome)) (p : ℕ) (one other : Known) → one ≡ other
    → Means events learnt p one → Means events learnt p other
meant events learnt p one other same means = subst (Means events learnt p) same means

pub put_known : (events : List Event) (learnt : List (Option Outcome)) (p : ℕ) (known : Known) (value : Value)
    → PutsAt events p value → Means events learnt p known → IsPut known
put_known events learnt p known value puts (means_none none) =
    absurd (let both : None ≡ Some (Enq value) = sym none ∙ puts in cc (both))
put_known events learnt p known value puts (means_done v mine heard) = inl refl
put_known events learnt p known value puts (means_not v mine heard) = inr (inl refl)
put_known events learnt p known value puts (means_open v mine heard) = inr (inr refl)
put_known events learnt p known value puts (means_took v q takes got other) =
    absurd (let both : Some Deq ≡ Some (Enq value) = sym takes ∙ puts in cc (both))
put_known events learnt p known value puts (means_nothing takes heard) =
    absurd (let both : Some Deq ≡ Some (Enq value) = sym takes ∙ puts in cc (both))
put_known events learnt p known value puts (means_take_not takes heard) =
    absurd (let both : Some Deq ≡ Some (Enq value) = sym takes ∙ puts in cc (both))
put_known events learnt p known value puts (means_take_open takes heard) =
    absurd (let both : Some Deq ≡ Some (Enq value) = sym takes ∙ puts in cc (both))

-- a take that got a value, and one that is open
pub record TookFrom (events : List Event) (learnt : List (Option Outcome)) (p q : ℕ) : Type 0 where
  pub value : Value
  pub takes : TakesAt events p
  pub got : IsKnownGot events learnt p value
  pub puts : PutsAt events q value

pub took_means : (events : List Event) (learnt : List (Option Outcome)) (p q : ℕ) → Means events learnt p (took q)
    → TookFrom events learnt p q
took_means events learnt p q (means_took value _ takes got puts) =
    record { value = value; takes = takes; got = got; puts = puts }

pub open_means : (events : List Event) (learnt : List (Option Outcome)) (p : ℕ) → Means events learnt p take_open
    → TakesAt events p × NothingKnown events learnt p
open_means events learnt p (means_take_open takes nothing) = (takes, nothing)

module _ (events : List Event) (learnt : List (Option Outcome)) (meaning : (p : ℕ) → HasMeaning events learnt p) where
  sources : (t v : ℕ) → t < length events → (meaning t).known ≡ took v → (v < length events) × IsPut (meaning v).known
  sources t v lt known =
      let took_it : TookFrom events learnt t v =
      took_means events learnt t v (meant events learnt t (meaning t).known (took v) known (meaning t).means) in (
        within_events events v (Enq took_it.value) took_it.puts,
        put_known events learnt v (meaning v).known took_it.value took_it.puts (meaning v).means,
      )

  -- an open take that ends does so at a crash, at which each earlier open take has ended
  sorted : (s t : ℕ) → s < t → t < length events → (meaning s).known ≡ take_open → (meaning t).known ≡ take_open
      → end_at events s ≤ end_at events t
  sorted s t less lt known_s known_t = go ((place_end events t).how begins_t.0 begins_t.1)
    where
      one : TakesAt events s × NothingKnown events learnt s
      one = open_means events learnt s (meant events learnt s (meaning s).known take_open known_s (meaning s).means)

      other : TakesAt events t × NothingKnown events learnt t
      other = open_means events learnt t (meant events learnt t (meaning t).known take_open known_t (meaning t).means)

      begins_s : (client : Client) × BeginsAt events client s
      begins_s = begins_call events s Deq one.0

      begins_t : (client : Client) × BeginsAt events client t
      begins_t = begins_call events t Deq other.0

      by_first : (e : ℕ) → t < e → CrashAt events e
          → IsEnd events begins_s.0 s (end_at events s)
          ⊎ ((end_at events s ≡ length events) × ((k : ℕ) → s < k → EndsAt events begins_s.0 k → ⊥))
          → (e < end_at events s) ⊎ (end_at events s ≤ e) → end_at events s ≤ e
      by_first e after crash how (inr le) = le
      by_first e after crash (inl ends) (inl later) =
          absurd (ends.first e (omega (arith, less, after)) later (inr crash))
      by_first e after crash (inr fail) (inl later) = absurd (fail.1 e (omega (arith, less, after)) (inr crash))

      by_end : IsEnd events begins_t.0 t (end_at events t) → EndsAt events begins_t.0 (end_at events t)
          → end_at events s ≤ end_at events t
      by_end ends (inl (reply, returns)) = absurd (other.1.no_reply reply (inl (record {
        client = begins_t.0;
        begins = begins_t.1;
        end = end_at events t;
        ends = ends;
        returns = returns;
      })))
      by_end ends (inr crash) = by_first (end_at events t) ends.after crash
          ((place_end events s).how begins_s.0 begins_s.1) (cases_lt (end_at events t) (end_at events s))

      go : IsEnd events begins_t.0 t (end_at events t)
          ⊎ ((end_at events t ≡ length events) × ((k : ℕ) → t < k → EndsAt events begins_t.0 k → ⊥))
          → end_at events s ≤ end_at events t
      go (inl ends) = by_end ends ends.ends
      go (inr fail) =
          let within : end_at events s ≤ length events = (place_end events s).within in omega (arith, within, fail.0)

  pub are_calls : AreCalls (calls_of events learnt meaning)
  are_calls = record {
    after = λ p lt. (place_end events p).after lt;
    within = λ p lt. (place_end events p).within;
    sources = sources;
    sorted = sorted;
  }

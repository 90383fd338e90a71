-- Which clients have calls under way one place later, and whether the system is down.
use Rattle.std.proofs.Common.{ℕ, ◌≡◌, ◌≢◌, ◌<◌, ◌≤◌, ◌+◌, List, Bool, Option, true, false, Some, slice_get, get_or, set, length}
use Rattle.std.proofs.Common.{refl, ap, arith, sym, ◌∙◌, subst, inl, inr, ⊎_elim, get_or-set_same, get_or-set_other}
use Rattle.std.proofs.Math.ListN.{length-set}
use Rattle.std.specs.Prelude.{IsTrue, not}
use Rattle.std.proofs.lemmas.Bool.{cases_lt, cases_eq}
use Rattle.words.specs.declared.call.Call.{Call}
use Rattle.words.specs.declared.call.Client.{Client}
use Rattle.words.specs.declared.call.Reply.{Reply}
use Rattle.words.specs.declared.told.Outcome.{Outcome}
use Rattle.words.specs.declared.told.Told.{Told}
use Rattle.std.proofs.lemmas.Option.{slice_get_within}
use Rattle.events.specs.declared.event.Event.{Event}
use Rattle.events.specs.declared.event.Event.TheVariants.{Call as call_event, Return as return_event}
use Rattle.events.specs.declared.event.Event.TheVariants.{Crash as crash_event, Ready as ready_event}
use Rattle.events.specs.History.{BeginsAt, CrashAt, EndsAt, IsDown, IsUnderWay, ReadyAt}
use Rattle.findings.specs.Filling.{IsInterrupted, IsRecordedOfAny, MayStandAmongAny}
use Rattle.findings.specs.Findings.{IsLearnt}
use Rattle.findings.specs.Standing.{IsStanding, StandsRightly}
use Rattle.findings.proofs.Ending.{EndsIt, ends_it, same_event}

-- the event begins a call of the client
abbrev BeginsIt : Event → Client → Type 0
BeginsIt (call_event client number call) other = client ≡ other
BeginsIt (return_event client reply) other = ⊥
BeginsIt crash_event other = ⊥
BeginsIt (ready_event told) other = ⊥

begins_it : (events : List Event) (p : ℕ) (event : Event) (client : Client) → slice_get events p ≡ Some event
    → BeginsAt events client p → BeginsIt event client
begins_it events p event client at begins =
    subst (λ (e : Event). BeginsIt e client) (same_event events p _ event begins.1.1 at) refl

-- a call under way before p is so behind it, where no end of it stands at p
way_on : (events : List Event) (p : ℕ) (event : Event) (client : Client) → slice_get events p ≡ Some event
    → (EndsIt event client → ⊥) → IsUnderWay events client p → IsUnderWay events client (p + 1)
way_on events p event client at other way = record {
  place = way.place;
  before = omega (arith, way.before);
  open_from = record {
    begins = way.open_from.begins;
    no_end = λ k low high ends. ⊎_elim
        (λ (lt : k < p). way.open_from.no_end k low lt ends)
        (λ (le : p ≤ k). let here : k ≡ p = omega arith in
        other (ends_it events p event client at (subst (EndsAt events client) here ends)))
        (cases_lt k p);
  };
}

-- and the other way round, where none begins at p
way_back : (events : List Event) (p : ℕ) (event : Event) (client : Client) → slice_get events p ≡ Some event
    → (BeginsIt event client → ⊥) → IsUnderWay events client (p + 1) → IsUnderWay events client p
way_back events p event client at other way =
    ⊎_elim
    (λ (lt : way.place < p). record {
      place = way.place;
      before = lt;
      open_from = record {
        begins = way.open_from.begins;
        no_end = λ k low high ends. way.open_from.no_end k low (omega arith) ends;
      };
    })
    (λ (le : p ≤ way.place). let here : way.place ≡ p = omega (arith, way.before) in
    absurd (other (begins_it events p event client at (subst (BeginsAt events client) here way.open_from.begins))))
    (cases_lt way.place p)

-- a call that begins at p is under way behind it
way_begun : (events : List Event) (p number : ℕ) (client : Client) (call : Call)
    → slice_get events p ≡ Some (call_event client number call) → IsUnderWay events client (p + 1)
way_begun events p number client call at = record {
  place = p;
  before = omega arith;
  open_from = record { begins = (number, (call, at)); no_end = λ k low high ends. absurd (omega arith) };
}

-- one that ends at p is not
way_ended : (events : List Event) (p : ℕ) (event : Event) (client : Client) → slice_get events p ≡ Some event
    → (BeginsIt event client → ⊥) → EndsAt events client p → IsUnderWay events client (p + 1) → ⊥
way_ended events p event client at other ends way =
    let before : way.place < p = before_it in way.open_from.no_end p before (omega arith) ends
  where
    before_it : way.place < p
    before_it =
        ⊎_elim
        (λ (lt : way.place < p). lt)
        (λ (le : p ≤ way.place). let here : way.place ≡ p = omega (arith, way.before) in
        absurd (other (begins_it events p event client at
        (subst (BeginsAt events client) here way.open_from.begins))))
        (cases_lt way.place p)

-- the event is a Crash, or a Ready
abbrev IsCrash : Event → Type 0
IsCrash event = event ≡ crash_event

abbrev IsReady : Event → Type 0
IsReady event = (told : List Told) × (event ≡ ready_event told)

down_on : (events : List Event) (p : ℕ) (event : Event) → slice_get events p ≡ Some event → (IsReady event → ⊥)
    → IsDown events p → IsDown events (p + 1)
down_on events p event at other down = record {
  place = down.place;
  before = omega (arith, down.before);
  crash = down.crash;
  no_ready = λ k told low high ready. ⊎_elim
      (λ (lt : k < p). down.no_ready k told low lt ready)
      (λ (le : p ≤ k). let here : k ≡ p = omega arith in
      other (told, same_event events p event _ at (subst (λ (n : ℕ). ReadyAt events n told) here ready)))
      (cases_lt k p);
}

down_back : (events : List Event) (p : ℕ) (event : Event) → slice_get events p ≡ Some event → (IsCrash event → ⊥)
    → IsDown events (p + 1) → IsDown events p
down_back events p event at other down =
    ⊎_elim
    (λ (lt : down.place < p). record {
      place = down.place;
      before = lt;
      crash = down.crash;
      no_ready = λ k told low high ready. down.no_ready k told low (omega arith) ready;
    })
    (λ (le : p ≤ down.place). let here : down.place ≡ p = omega (arith, down.before) in
    absurd (other (same_event events p event _ at (subst (CrashAt events) here down.crash))))
    (cases_lt down.place p)

down_crashed : (events : List Event) (p : ℕ) → slice_get events p ≡ Some crash_event → IsDown events (p + 1)
down_crashed events p at = record {
  place = p;
  before = omega arith;
  crash = at;
  no_ready = λ k told low high ready. absurd (omega arith);
}

up_again : (events : List Event) (p : ℕ) (told : List Told) → slice_get events p ≡ Some (ready_event told)
    → IsDown events (p + 1) → ⊥
up_again events p told at down =
    ⊎_elim
    (λ (lt : down.place < p). down.no_ready p told lt (omega arith) at)
    (λ (le : p ≤ down.place). let here : down.place ≡ p = omega (arith, down.before) in
    let crash : slice_get events p ≡ Some crash_event = subst (CrashAt events) here down.crash in
    cc (at, crash))
    (cases_lt down.place p)

-- the client of a number
abbrev client_of : ℕ → Client
client_of n = record { 0 = n }

-- how things stand behind a Call
pub standing_call : (events : List Event) (p number : ℕ) (who : Client) (call : Call) (begun : List ℕ)
    (crashed : ℕ) (down : Bool) → slice_get events p ≡ Some (call_event who number call) → who.0 < length begun
    → IsStanding events p begun crashed down
    → IsStanding events (p + 1) (set begun who.0 (p + 1)) crashed down
standing_call events p number who call begun crashed down at below old = record {
  under_way = λ client d small.
      let was : client.0 < length begun = omega (arith, small, length-set begun who.0 (p + 1)) in
      ⊎_elim
      (λ (same : client.0 ≡ who.0).
      let now : get_or (set begun who.0 (p + 1)) client.0 d ≡ p + 1 =
      ap (λ (n : ℕ). get_or (set begun who.0 (p + 1)) n d) same ∙ get_or-set_same begun who.0 (p + 1) d below in
      let clients : who ≡ client = ap (λ (n : ℕ). client_of n) (sym same) in (
        λ _. subst (λ (c : Client). IsUnderWay events c (p + 1)) clients (way_begun events p number who call at),
        λ _. omega (arith, now, old.early),
      ))
      (λ (differ : client.0 ≢ who.0).
      let now : get_or (set begun who.0 (p + 1)) client.0 d ≡ get_or begun client.0 d =
      get_or-set_other begun who.0 client.0 (p + 1) d differ in
      let none : who ≡ client → ⊥ = λ is. differ (ap (λ (c : Client). c.0) (sym is)) in (
        λ lt. way_on events p _ client at (λ no. no) ((old.under_way client d was).0 (omega (arith, lt, now))),
        λ way. omega (arith, now, (old.under_way client d was).1 (way_back events p _ client at none way)),
      ))
      (cases_eq client.0 who.0);
  low = λ k d small.
      let was : k < length begun = omega (arith, small, length-set begun who.0 (p + 1)) in
      ⊎_elim
      (λ (same : k ≡ who.0).
      let now : get_or (set begun who.0 (p + 1)) k d ≡ p + 1 =
      ap (λ (n : ℕ). get_or (set begun who.0 (p + 1)) n d) same ∙ get_or-set_same begun who.0 (p + 1) d below in
      omega (arith, now))
      (λ (differ : k ≢ who.0).
      let now : get_or (set begun who.0 (p + 1)) k d ≡ get_or begun k d =
      get_or-set_other begun who.0 k (p + 1) d differ in
      omega (arith, now, old.low k d was))
      (cases_eq k who.0);
  early = omega (arith, old.early);
  is_down = (
    λ yes. down_on events p _ at (λ is. cc is.1) (old.is_down.0 yes),
    λ is. old.is_down.1 (down_back events p _ at (λ crash. cc crash) is),
  );
}

-- behind a Return
pub standing_return : (events : List Event) (p : ℕ) (who : Client) (reply : Reply) (begun : List ℕ)
    (crashed : ℕ) (down : Bool) → slice_get events p ≡ Some (return_event who reply) → who.0 < length begun
    → IsStanding events p begun crashed down → IsStanding events (p + 1) (set begun who.0 0) crashed down
standing_return events p who reply begun crashed down at below old = record {
  under_way = λ client d small.
      let was : client.0 < length begun = omega (arith, small, length-set begun who.0 0) in
      ⊎_elim
      (λ (same : client.0 ≡ who.0).
      let now : get_or (set begun who.0 0) client.0 d ≡ 0 =
      ap (λ (n : ℕ). get_or (set begun who.0 0) n d) same ∙ get_or-set_same begun who.0 0 d below in
      let clients : who ≡ client = ap (λ (n : ℕ). client_of n) (sym same) in
      let ends : EndsAt events client p = inl (
        reply,
        subst (λ (c : Client). slice_get events p
            ≡ Some (return_event c reply)) clients at,
      ) in (
        λ lt. absurd (omega (arith, lt, now)),
        λ way. absurd (way_ended events p _ client at (λ no. no) ends way),
      ))
      (λ (differ : client.0 ≢ who.0).
      let now : get_or (set begun who.0 0) client.0 d ≡ get_or begun client.0 d =
      get_or-set_other begun who.0 client.0 0 d differ in
      let none : who ≡ client → ⊥ = λ is. differ (ap (λ (c : Client). c.0) (sym is)) in (
        λ lt. way_on events p _ client at none ((old.under_way client d was).0 (omega (arith, lt, now))),
        λ way. omega (arith, now, (old.under_way client d was).1 (way_back events p _ client at (λ no. no) way)),
      ))
      (cases_eq client.0 who.0);
  low = λ k d small.
      let was : k < length begun = omega (arith, small, length-set begun who.0 0) in
      ⊎_elim
      (λ (same : k ≡ who.0).
      let now : get_or (set begun who.0 0) k d ≡ 0 =
      ap (λ (n : ℕ). get_or (set begun who.0 0) n d) same ∙ get_or-set_same begun who.0 0 d below in
      omega (arith, now))
      (λ (differ : k ≢ who.0).
      let now : get_or (set begun who.0 0) k d ≡ get_or begun k d = get_or-set_other begun who.0 k 0 d differ in
      omega (arith, now, old.low k d was))
      (cases_eq k who.0);
  early = omega (arith, old.early);
  is_down = (
    λ yes. down_on events p _ at (λ is. cc is.1) (old.is_down.0 yes),
    λ is. old.is_down.1 (down_back events p _ at (λ crash. cc crash) is),
  );
}

-- behind a Crash
pub standing_crash : (events : List Event) (p : ℕ) (begun : List ℕ) (crashed : ℕ) (down : Bool)
    → slice_get events p ≡ Some crash_event → IsStanding events p begun crashed down
    → IsStanding events (p + 1) begun (p + 1) true
standing_crash events p begun crashed down at old = record {
  under_way = λ client d small. (
    λ lt. absurd (omega (arith, lt, old.low client.0 d small)),
    λ way. absurd (way_ended events p _ client at (λ no. no) (inr at) way),
  );
  low = λ k d small. omega (arith, old.low k d small);
  early = omega arith;
  is_down = (λ _. down_crashed events p at, λ _. refl);
}

-- behind a Ready
pub standing_ready : (events : List Event) (p : ℕ) (told : List Told) (begun : List ℕ) (crashed : ℕ)
    (down : Bool) → slice_get events p ≡ Some (ready_event told) → IsStanding events p begun crashed down
    → IsStanding events (p + 1) begun crashed false
standing_ready events p told begun crashed down at old = record {
  under_way = λ client d small. (
    λ lt. way_on events p _ client at (λ no. no) ((old.under_way client d small).0 lt),
    λ way. (old.under_way client d small).1 (way_back events p _ client at (λ no. no) way),
  );
  low = λ k d small. omega (arith, old.low k d small);
  early = omega (arith, old.early);
  is_down = (λ yes. cc yes, λ is. absurd (up_again events p told at is));
}

-- what stands at p, by the event there
pub stands_call : (events : List Event) (p : ℕ) (who : Client) (call : Call)
    → slice_get events p ≡ Some (call_event who (p + 1) call) → (IsUnderWay events who p → ⊥)
    → (IsDown events p → ⊥) → StandsRightly events p
stands_call events p who call at idle up = record {
  may = λ event at_too.
      subst (MayStandAmongAny events p) (same_event events p _ event at at_too) (idle, up);
  number = λ number client other at_too. cc (same_event events p _ _ at at_too);
}

pub stands_return : (events : List Event) (p : ℕ) (who : Client) (reply : Reply)
    → slice_get events p ≡ Some (return_event who reply) → IsUnderWay events who p → (IsDown events p → ⊥)
    → StandsRightly events p
stands_return events p who reply at way up = record {
  may = λ event at_too. subst (MayStandAmongAny events p) (same_event events p _ event at at_too) (way, up);
  number = λ number client other at_too. cc (at, at_too);
}

pub stands_crash : (events : List Event) (p : ℕ) → slice_get events p ≡ Some crash_event → StandsRightly events p
stands_crash events p at = record {
  may = λ event at_too. subst (MayStandAmongAny events p) (same_event events p _ event at at_too) tt;
  number = λ number client other at_too. cc (at, at_too);
}

pub stands_ready : (events : List Event) (p : ℕ) (told : List Told) → slice_get events p ≡ Some (ready_event told)
    → StandsRightly events p
stands_ready events p told at = record {
  may = λ event at_too. subst (MayStandAmongAny events p) (same_event events p _ event at at_too) tt;
  number = λ number client other at_too. cc (at, at_too);
}

-- what each place of a history says says it of all
pub recorded_from : (events : List Event) (learnt : List (Option Outcome))
    → ((p : ℕ) → p < length events → StandsRightly events p)
    → ((p : ℕ) (outcome : Outcome) → IsLearnt learnt p outcome → IsInterrupted events p)
    → IsRecordedOfAny events learnt
recorded_from events learnt each interrupted = record {
  places = λ p event at. (each p (slice_get_within events p event at)).may event at;
  numbers = λ p number client call at. (each p (slice_get_within events p _ at)).number number client call at;
  interrupted = interrupted;
}

-- a test that fails
pub fails_not : (b : Bool) → IsTrue (not b) → IsTrue b → ⊥
fails_not true fails is = cc fails
fails_not false fails is = cc is

-- Calls on a queue by the places at which they begin: what is known of each, the orders that explain it, and the four
-- patterns.
use Rattle.std.specs.Prelude.{ℕ, suc, ◌≡◌, ◌≢◌, ◌<◌, ◌≤◌, ◌⊎◌, ⊤, List, [], ◌∷◌, Option, Some, None, length}
use Rattle.windows.specs.Lists.{IsAmong, AreDifferent}
use Rattle.windows.specs.Runs.{Step, put, got, nothing, Runs}

-- what is known of what begins at a place: a put is known to have taken effect, or not to have, or it is open; a take is
-- known to have got the value that a put at some place put, or to have found nothing, or to have taken no effect, or it is
-- open
pub data Known : Type 0 where
  no_call : Known
  put_done : Known
  put_not : Known
  put_open : Known
  took : (source : ℕ) → Known
  found_nothing : Known
  take_not : Known
  take_open : Known

-- so many places, what is known of each, and where the call that begins there ends; one without an end ends behind all
pub record Calls : Type 0 where
  pub places : ℕ
  pub known : ℕ → Known
  pub end : ℕ → ℕ

abbrev pub IsPut : Known → Type 0
IsPut known = (known ≡ put_done) ⊎ ((known ≡ put_not) ⊎ (known ≡ put_open))

-- calls end behind their begins; what a take got some call put; and of open takes the earlier one ends no later, since
-- they end at crashes alone
pub record AreCalls (calls : Calls) : Type 0 where
  pub after : (p : ℕ) → p < calls.places → p < calls.end p
  pub within : (p : ℕ) → p < calls.places → calls.end p ≤ calls.places
  pub sources : (t v : ℕ) → t < calls.places → calls.known t ≡ took v → (v < calls.places) × IsPut (calls.known v)
  pub sorted : (s t : ℕ) → s < t → t < calls.places → calls.known s ≡ take_open → calls.known t ≡ take_open
      → calls.end s ≤ calls.end t

-- the call of a step
abbrev pub place_of : Step → ℕ
place_of (put v) = v
place_of (got t v) = t
place_of (nothing t) = t

-- what is known of its call allows the step
abbrev pub IsAllowed : Calls → Step → Type 0
IsAllowed calls (put v) = (calls.known v ≡ put_done) ⊎ (calls.known v ≡ put_open)
IsAllowed calls (got t v) = (calls.known t ≡ took v) ⊎ (calls.known t ≡ take_open)
IsAllowed calls (nothing t) = (calls.known t ≡ found_nothing) ⊎ (calls.known t ≡ take_open)

-- no call has two steps, and none that ended before another began has its step behind it
abbrev pub AreOrdered : Calls → List Step → Type 0
AreOrdered calls [] = ⊤
AreOrdered calls (step ∷ rest) =
    ((later : Step) → IsAmong later rest
    → (place_of step ≢ place_of later) × (calls.end (place_of later) < place_of step → ⊥))
    × AreOrdered calls rest

-- the steps explain what is known
pub record Explain (calls : Calls) (steps : List Step) : Type 0 where
  pub runs : Runs [] steps
  pub allowed : (step : Step) → IsAmong step steps → (place_of step < calls.places) × IsAllowed calls step
  pub ordered : AreOrdered calls steps
  pub puts : (v : ℕ) → v < calls.places → calls.known v ≡ put_done → IsAmong (put v) steps
  pub takes : (t v : ℕ) → t < calls.places → calls.known t ≡ took v → IsAmong (got t v) steps
  pub empties : (t : ℕ) → t < calls.places → calls.known t ≡ found_nothing → IsAmong (nothing t) steps

-- a value came out that nobody can have put: its put took no effect, or began when the take was over
pub record IsInvented (calls : Calls) (take source : ℕ) : Type 0 where
  pub within : take < calls.places
  pub got : calls.known take ≡ took source
  pub nobody : (calls.known source ≡ put_not) ⊎ (calls.end take < source)

-- a value came out twice
pub record IsTwice (calls : Calls) (first second source : ℕ) : Type 0 where
  pub first_within : first < calls.places
  pub second_within : second < calls.places
  pub one : calls.known first ≡ took source
  pub other : calls.known second ≡ took source
  pub two : first ≢ second

-- values that takes begun before some place cannot all have taken: the value of one put, which came out by a later take;
-- or those of several puts, of which takes can have taken one are fewer, where since some place all values were in the
-- queue, or not yet in it, as is seen by a value ahead of them
pub data Lack : Type 0 where
  late : (source take : ℕ) → Lack
  few : (puts takes : List ℕ) → (since : Option ℕ) → (ahead_put ahead_take : ℕ) → Lack

abbrev pub IsPutOf : Lack → ℕ → Type 0
IsPutOf (late source take) v = v ≡ source
IsPutOf (few puts takes since ahead_put ahead_take) v = IsAmong v puts

-- the value was in the queue at the place, or not yet in it: its put began later, or the value ahead came out later
abbrev pub IsInAt : Calls → ℕ → ℕ → ℕ → ℕ → Type 0
IsInAt calls place ahead_put ahead_take v =
    (place < v)
    ⊎ ((ahead_take < calls.places) × ((calls.known ahead_take ≡ took ahead_put)
    × ((place < ahead_take) × (calls.end ahead_put < v))))

abbrev pub AreInSince : Calls → List ℕ → Option ℕ → ℕ → ℕ → Type 0
AreInSince calls puts None ahead_put ahead_take = ⊤
AreInSince calls puts (Some place) ahead_put ahead_take =
    (v : ℕ) → IsAmong v puts → IsInAt calls place ahead_put ahead_take v

abbrev pub WasOver : Calls → Option ℕ → ℕ → Type 0
WasOver calls None t = ⊥
WasOver calls (Some place) t = calls.end t ≤ place

-- a put that is known to have taken effect, and whose value no take is known to have got
pub record IsMissing (calls : Calls) (v : ℕ) : Type 0 where
  pub within : v < calls.places
  pub done : calls.known v ≡ put_done
  pub none : (t : ℕ) → t < calls.places → calls.known t ≡ took v → ⊥

pub record AreFew (calls : Calls) (bound : ℕ) (puts takes : List ℕ) (since : Option ℕ) (ahead_put ahead_take : ℕ)
    : Type 0 where
  pub missing : (v : ℕ) → IsAmong v puts → IsMissing calls v
  pub different : AreDifferent puts
  pub in_since : AreInSince calls puts since ahead_put ahead_take
  pub listed : (t : ℕ) → t < calls.places → t < bound → calls.known t ≡ take_open → (WasOver calls since t → ⊥)
      → IsAmong t takes
  pub fewer : length takes < length puts

pub record IsLate (calls : Calls) (bound source take : ℕ) : Type 0 where
  pub within : take < calls.places
  pub got : calls.known take ≡ took source
  pub late : bound ≤ take

abbrev pub Lacks : Calls → ℕ → Lack → Type 0
Lacks calls bound (late source take) = IsLate calls bound source take
Lacks calls bound (few puts takes since ahead_put ahead_take) =
    AreFew calls bound puts takes since ahead_put ahead_take

-- values were passed over: a value came out, before whose put each put of the lack had ended
pub record IsPassedOver (calls : Calls) (take source : ℕ) (lack : Lack) : Type 0 where
  pub within : take < calls.places
  pub got : calls.known take ≡ took source
  pub ahead : (v : ℕ) → IsPutOf lack v → calls.end v < source
  pub lacks : Lacks calls (calls.end take) lack

-- the queue held something at the place
pub record IsHeld (calls : Calls) (place : ℕ) : Type 0 where
  pub lack : Lack
  pub ended : (v : ℕ) → IsPutOf lack v → calls.end v ≤ place
  pub lacks : Lacks calls (suc place) lack

-- a take found nothing, but the queue held something all the while
pub record IsNotEmpty (calls : Calls) (take : ℕ) : Type 0 where
  pub within : take < calls.places
  pub empty : calls.known take ≡ found_nothing
  pub held : (place : ℕ) → take ≤ place → place < calls.end take → IsHeld calls place

pub data Pattern (calls : Calls) : Type 0 where
  invented : (take source : ℕ) → IsInvented calls take source → Pattern calls
  twice : (first second source : ℕ) → IsTwice calls first second source → Pattern calls
  passed_over : (take source : ℕ) (lack : Lack) → IsPassedOver calls take source lack → Pattern calls
  not_empty : (take : ℕ) → IsNotEmpty calls take → Pattern calls

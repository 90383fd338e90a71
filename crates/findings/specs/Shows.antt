-- What a witness shows: why no order explains the findings.
use Rattle.std.specs.Prelude.{ℕ, ◌≡◌, ◌≢◌, ◌<◌, ◌≤◌, ◌⊎◌, ⊤, All, AllPairs, List, Option, Some, None, Contains}
use Rattle.std.specs.Prelude.{slice_get, length}
use Rattle.words.specs.PlainQueue.{Value}
use Rattle.words.specs.declared.call.Reply.{Reply}
use Rattle.words.specs.declared.call.Reply.TheVariants.{Done, Got, Empty}
use Rattle.words.specs.declared.told.Outcome.{Outcome}
use Rattle.words.specs.declared.told.Outcome.TheVariants.{NotTaken}
use Rattle.events.specs.declared.event.Event.{Event}
use Rattle.events.specs.History.{Precedes}
use Rattle.findings.specs.declared.witness.Ahead.{Ahead}
use Rattle.findings.specs.declared.witness.Since.{Since}
use Rattle.findings.specs.declared.witness.Lack.{Lack}
use Rattle.findings.specs.declared.witness.Lack.TheVariants.{Late, Few}
use Rattle.findings.specs.declared.witness.Piece.{Piece}
use Rattle.findings.specs.declared.witness.Witness.{Witness}
use Rattle.findings.specs.declared.witness.Witness.TheVariants.{Invented, Twice, PassedOver, NotEmpty}
use Rattle.findings.specs.Findings.{IsLearnt, IsKnown, IsKnownGot, IsOverBy, PutsAt, TakesAt, HasDistinctValues}

-- the put at p cannot stand before the take: it began after the take's end, or it is known that it took no effect
abbrev pub IsNoSource : List Event → List (Option Outcome) → ℕ → ℕ → Type 0
IsNoSource events learnt take p = Precedes events take p ⊎ IsLearnt learnt p NotTaken

-- and so it is of each put of this value
abbrev pub NobodyPut : List Event → List (Option Outcome) → ℕ → Value → Type 0
NobodyPut events learnt take value = (p : ℕ) → PutsAt events p value → IsNoSource events learnt take p

-- a value came out that nobody can have put
pub record ShowsInvented (events : List Event) (learnt : List (Option Outcome)) (take : ℕ) (value : Value)
    : Type 0 where
  pub got : IsKnownGot events learnt take value
  pub none : NobodyPut events learnt take value

-- a value came out twice
pub record ShowsTwice (events : List Event) (learnt : List (Option Outcome)) (first second : ℕ)
    (value : Value) : Type 0 where
  pub one : IsKnownGot events learnt first value
  pub other : IsKnownGot events learnt second value
  pub two : first ≢ second

-- the value of some call that ended before the put, and that is known to have come out by the take at `take`
pub record IsAhead (events : List Event) (learnt : List (Option Outcome)) (ahead : Ahead) (put : ℕ) : Type 0 where
  pub value : Value
  pub puts : PutsAt events ahead.put value
  pub got : IsKnownGot events learnt ahead.take value
  pub before : Precedes events ahead.put put

-- the value of the put was still in the queue, or not yet in it, at this place: the put began later, or a value ahead
-- of it came out by a take that began later
abbrev pub IsInAt : List Event → List (Option Outcome) → Since → ℕ → Type 0
IsInAt events learnt since put =
    (since.place < put)
    ⊎ ((ahead : Ahead) × (since.ahead ≡ Some ahead) × (since.place < ahead.take) × IsAhead events learnt ahead put)

-- so it is of each of the puts, where a place is named
abbrev pub AreInSince : List Event → List (Option Outcome) → List ℕ → Option Since → Type 0
AreInSince events learnt puts None = ⊤
AreInSince events learnt puts (Some since) = (p : ℕ) → Contains puts p → IsInAt events learnt since p

-- the take was over by then
abbrev pub WasOver : List Event → Option Since → ℕ → Type 0
WasOver events None take = ⊥
WasOver events (Some since) take = IsOverBy events take since.place

-- the value of one of the puts
pub record IsValueOf (events : List Event) (among : List ℕ) (value : Value) : Type 0 where
  pub put : ℕ
  pub contained : Contains among put
  pub puts : PutsAt events put value

-- the take can have taken a value of these puts, since then: that is all that is known of it, or nothing is
pub record CanHaveTaken (events : List Event) (learnt : List (Option Outcome)) (puts : List ℕ) (since : Option Since)
    (take : ℕ) : Type 0 where
  pub takes : TakesAt events take
  pub known : (reply : Reply) → IsKnown events learnt take reply
      → (value : Value) × (reply ≡ Got value) × IsValueOf events puts value
  pub not_refused : IsLearnt learnt take NotTaken → ⊥
  pub not_over : WasOver events since take → ⊥

-- if the take can have taken a value of the puts, it is one of these takes
pub record IsListed (events : List Event) (learnt : List (Option Outcome)) (puts takes : List ℕ)
    (since : Option Since) (take : ℕ) : Type 0 where
  pub contained : CanHaveTaken events learnt puts since take → Contains takes take

-- and so are all takes begun before `bound`
abbrev pub AreListed : List Event → List (Option Outcome) → ℕ → List ℕ → List ℕ → Option Since → Type 0
AreListed events learnt bound puts takes since =
    (take : ℕ) → take < bound → IsListed events learnt puts takes since take

-- a put that is known to have taken effect
pub record IsKnownPut (events : List Event) (learnt : List (Option Outcome)) (put : ℕ) : Type 0 where
  pub value : Value
  pub puts : PutsAt events put value
  pub known : IsKnown events learnt put Done

-- fewer takes begun before `bound` can have taken a value of the puts, since then, than there are puts
pub record IsFew (events : List Event) (learnt : List (Option Outcome)) (bound : ℕ) (puts takes : List ℕ)
    (since : Option Since) : Type 0 where
  pub certain : All (λ put. IsKnownPut events learnt put) puts
  pub different : AllPairs (λ p q. p ≢ q) puts
  pub in_since : AreInSince events learnt puts since
  pub listed : AreListed events learnt bound puts takes since
  pub fewer : length takes < length puts

-- the value of the put is known to have come out, by a take that began at `bound` or later
pub record IsLate (events : List Event) (learnt : List (Option Outcome)) (bound put take : ℕ) : Type 0 where
  pub value : Value
  pub puts : PutsAt events put value
  pub got : IsKnownGot events learnt take value
  pub late : bound ≤ take

-- takes begun before `bound` cannot have taken all values of the puts of this lack
abbrev pub Lacks : List Event → List (Option Outcome) → ℕ → Lack → Type 0
Lacks events learnt bound (Late put take) = IsLate events learnt bound put take
Lacks events learnt bound (Few puts takes since) = IsFew events learnt bound puts.items takes.items since

-- it is one of the puts of the lack
abbrev pub IsPutOf : Lack → ℕ → Type 0
IsPutOf (Late put take) p = p ≡ put
IsPutOf (Few puts takes since) p = Contains puts.items p

-- values were passed over: a value came out, whose put each of the puts precedes, by a take that ended at `bound` or
-- did not end
pub record ShowsPassedOver (events : List Event) (learnt : List (Option Outcome)) (take put bound : ℕ)
    (lack : Lack) : Type 0 where
  pub value : Value
  pub puts : PutsAt events put value
  pub got : IsKnownGot events learnt take value
  pub bounded : IsOverBy events take bound ⊎ (length events ≤ bound)
  pub ahead : (p : ℕ) → IsPutOf lack p → Precedes events p put
  pub lacks : Lacks events learnt bound lack

-- the queue held something from one place up to another: each of the puts ended by `from`, and takes begun before `to`
-- cannot have taken all their values
pub record IsHeld (events : List Event) (learnt : List (Option Outcome)) (piece : Piece) : Type 0 where
  pub ended : (p : ℕ) → IsPutOf piece.lack p → IsOverBy events p piece.from
  pub lacks : Lacks events learnt piece.to piece.lack

-- the place lies in the piece
abbrev pub IsWithin : Piece → ℕ → Type 0
IsWithin piece m = (piece.from ≤ m) × (m < piece.to)

-- the place lies in one of the pieces
pub record IsCovered (pieces : List Piece) (m : ℕ) : Type 0 where
  pub index : ℕ
  pub piece : Piece
  pub at : slice_get pieces index ≡ Some piece
  pub within : IsWithin piece m

-- a take found nothing, but the queue held something at each place from its begin up to `end`, at which it ended, or
-- which nothing follows
pub record ShowsNotEmpty (events : List Event) (learnt : List (Option Outcome)) (take end : ℕ)
    (pieces : List Piece) : Type 0 where
  pub empty : IsKnown events learnt take Empty
  pub bounded : IsOverBy events take end ⊎ (length events ≤ end)
  pub held : All (λ piece. IsHeld events learnt piece) pieces
  pub covered : (m : ℕ) → take ≤ m → m < end → IsCovered pieces m

-- what the witness says is so
abbrev pub IsShown : List Event → List (Option Outcome) → Witness → Type 0
IsShown events learnt (Invented take value) = ShowsInvented events learnt take value
IsShown events learnt (Twice first second value) = ShowsTwice events learnt first second value
IsShown events learnt (PassedOver take put bound lack) = ShowsPassedOver events learnt take put bound lack
IsShown events learnt (NotEmpty take end pieces) = ShowsNotEmpty events learnt take end pieces.items

-- the values of different calls are different, and what the witness says is so
pub record Shows (events : List Event) (learnt : List (Option Outcome)) (witness : Witness) : Type 0 where
  pub distinct : HasDistinctValues events
  pub shown : IsShown events learnt witness

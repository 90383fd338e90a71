-- Journals of shared sessions, of which each beginning ends at a moment, and the later of two goes on from the earlier.
use Rattle.std.specs.Prelude.{◌≡◌, ◌≤◌, ◌++◌, [], ⊤, ℕ, false, List, length, take, All, Ok, Some}
use Rattle.persist.specs.declared.access.Change.{Change}
use Rattle.persist.specs.Noted.{applied}
use Rattle.journal.specs.Frame.{Batch}
use Rattle.journal.specs.Journal.{words_after}
use Rattle.journal.specs.Reading.{reading}
use Rattle.journal.specs.Stops.{LeftByStop}
use Rattle.journal_file.specs.OnDevice.{IsOf, OnDevice}
use Rattle.session.specs.Sessions.{Sessioned}
use Rattle.workers.specs.Moments.{GoesOnLater, HandedOn, IsMomentOf}
use Rattle.lasting.specs.declared.policy.Policy.{Policy}
use Rattle.lasting.specs.declared.policy.Policy.TheVariants.{Always, EachSecond, Never}

-- the words after each beginning of these batches are those of a moment, of the session that is told for it; and the
-- session of a longer beginning goes on from that of a shorter one
pub record AreMoments (first : Sessioned) (base : List ℕ) (batches : List Batch) (session : ℕ → Sessioned)
    : Type 0 where
  pub each : (n : ℕ) → n ≤ length batches → IsMomentOf first (session n) (words_after (take n batches) base)
  pub later : (m n : ℕ) → m ≤ n → n ≤ length batches → GoesOnLater (session m) (session n)

-- the journal has such batches, of which so many were there when all was last kept
pub record HasMoments (first : Sessioned) (j : OnDevice) : Type 0 where
  pub key : List ℕ
  pub base : List ℕ
  pub batches : List Batch
  pub count : ℕ
  pub session : ℕ → Sessioned
  pub of : IsOf key base batches count j
  pub moments : AreMoments first base batches session

-- and this session goes on from that of the last of them
pub record HasMomentsUntil (first last : Sessioned) (j : OnDevice) : Type 0 where
  pub has : HasMoments first j
  pub later : GoesOnLater (has.session (length has.batches)) last

-- or is that of the last of them
pub record EndsAtMomentOf (first last : Sessioned) (j : OnDevice) : Type 0 where
  pub has : HasMoments first j
  pub latest : has.session (length has.batches) ≡ last

-- what the policy is to have kept is kept
abbrev pub IsKeptBy : Policy → OnDevice → Type 0
IsKeptBy Always j = j.kept ≡ j.size
IsKeptBy EachSecond j = ⊤
IsKeptBy Never j = ⊤

-- the session that a stop leaves by the policy, or a later one: that at the end of the batches that were kept, where it is
-- to keep always, since they outlast a loss of power too; else that at the end of all, as a kill leaves them
abbrev pub sure_session : (first : Sessioned) (j : OnDevice) → Policy → HasMoments first j → Sessioned
sure_session first j Always has = has.session has.count
sure_session first j EachSecond has = has.session (length has.batches)
sure_session first j Never has = has.session (length has.batches)

-- that one goes on from this session
pub record Assures (first : Sessioned) (policy : Policy) (s : Sessioned) (j : OnDevice) : Type 0 where
  pub has : HasMoments first j
  pub later : GoesOnLater s (sure_session first j policy has)

-- a journal with its policy, and what was handed on for it: all changes with the session as it was at the last time, and
-- those that the journal does not have yet; and the sessions that were assured
pub record Kept : Type 0 where
  pub policy : Policy
  pub handed : List Change
  pub last : Sessioned
  pub pending : List Change
  pub journal : OnDevice
  pub assured : List Sessioned

-- such a journal, with who hands changes on for it
abbrev pub kept_with : Policy → HandedOn → (pending : List Change) → OnDevice → Kept
kept_with policy handed pending journal = record {
  policy = policy;
  handed = handed.changes;
  last = handed.last;
  pending = pending;
  journal = journal;
  assured = handed.assured;
}

-- the journal has the changes that are not pending. It ends at a moment from which that of the last hand-on goes on,
-- and where nothing is pending it ends at that one. The session that a stop leaves goes on from each that was assured
pub record IsKept (first : Sessioned) (k : Kept) : Type 0 where
  pub done : List Change
  pub split : k.handed ≡ done ++ k.pending
  pub words : k.journal.words ≡ applied done first.broker.words.kept
  pub now : IsMomentOf first k.last (applied k.handed first.broker.words.kept)
  pub journal : HasMomentsUntil first k.last k.journal
  pub latest : k.pending ≡ [] → EndsAtMomentOf first k.last k.journal
  pub assured : All (λ s. GoesOnLater s (sure_session first k.journal k.policy journal.has)) k.assured

-- so it is of each journal that has moments; and of each of those whose storage has not failed
abbrev pub IsSoOfMoments : ((first : Sessioned) (j : OnDevice) → HasMoments first j → Type 0) → Type 0
IsSoOfMoments IsSo = (first : Sessioned) (j : OnDevice) (has : HasMoments first j) → IsSo first j has

abbrev pub IsSoOfRunning : ((first : Sessioned) (j : OnDevice) → HasMoments first j → Type 0) → Type 0
IsSoOfRunning IsSo =
    (first : Sessioned) (j : OnDevice) (has : HasMoments first j) → j.failed ≡ false → IsSo first j has

-- Bytes are read as the words of a moment, after a beginning of the batches that has so many of them at least. Its
-- session goes on from that of each shorter beginning
pub record ReadsMoment (first : Sessioned) (key base : List ℕ) (batches : List Batch) (count : ℕ)
    (session : ℕ → Sessioned) (bytes : List ℕ) : Type 0 where
  pub whole : ℕ
  pub those : count ≤ whole
  pub some : whole ≤ length batches
  pub cut : ℕ
  pub read : reading bytes ≡ Ok (record { key = key; words = words_after (take whole batches) base; cut = cut })
  pub moment : IsMomentOf first (session whole) (words_after (take whole batches) base)
  pub later : (m : ℕ) → m ≤ whole → GoesOnLater (session m) (session whole)

-- whatever a stop leaves of the journal is read so
abbrev pub EachStopHasMoment : (first : Sessioned) (j : OnDevice) → HasMoments first j → Type 0
EachStopHasMoment first j has =
    (left : List ℕ) → LeftByStop has.key has.base has.batches j.kept left
    → ReadsMoment first has.key has.base has.batches has.count has.session left

-- and whatever is left of what stands at its place, from the front on and all that was kept at least
abbrev pub EachKillHasMoment : (first : Sessioned) (j : OnDevice) → HasMoments first j → Type 0
EachKillHasMoment first j has =
    (bytes : List ℕ) (n : ℕ) → j.appended ≡ Some bytes → j.lasting ≤ n
    → ReadsMoment first has.key has.base has.batches has.count has.session (take n bytes)

-- bytes are read as the words of such a moment, whose session goes on from this one, too
pub record ReadsLater (first s : Sessioned) (j : OnDevice) (has : HasMoments first j) (bytes : List ℕ) : Type 0 where
  pub reads : ReadsMoment first has.key has.base has.batches has.count has.session bytes
  pub later : GoesOnLater s (has.session reads.whole)

-- so is whatever a stop leaves of the journal, where so many bytes of it were kept
abbrev pub EachStopHasLater : (first s : Sessioned) (j : OnDevice) → HasMoments first j → ℕ → Type 0
EachStopHasLater first s j has kept =
    (left : List ℕ) → LeftByStop has.key has.base has.batches kept left → ReadsLater first s j has left

-- so is what is left of what stands at its place, from the front on and all that was kept at least
abbrev pub EachBeginningHasLater : (first s : Sessioned) (j : OnDevice) → HasMoments first j → Type 0
EachBeginningHasLater first s j has =
    (bytes : List ℕ) (n : ℕ) → j.appended ≡ Some bytes → j.lasting ≤ n → ReadsLater first s j has (take n bytes)

-- and all that stands there
abbrev pub HasLaterThere : (first s : Sessioned) (j : OnDevice) → HasMoments first j → Type 0
HasLaterThere first s j has = (bytes : List ℕ) → j.appended ≡ Some bytes → ReadsLater first s j has bytes

-- Moments of a shared session, by their kept words; and that of two moments the later goes on from the earlier.
use Rattle.std.specs.Prelude.{◌≡◌, ◌<◌, ℕ, Bool, List, [], ◌∷◌, length, map, All, IfOk, OnSome, Option, Result}
use Rattle.words.specs.declared.refusal.Refusal.{Refusal}
use Rattle.persist.specs.Noted.{applied}
use Rattle.persist.specs.declared.access.Change.{Change}
use Rattle.notes.specs.Noting.{IsMadeBy}
use Rattle.witness.specs.Accounts.{Known}
use Rattle.named.specs.Booting.{AreBootWords}
use Rattle.session.specs.Keeping.{SessionGoesOn}
use Rattle.session.specs.Promises.{KeepsNumbers}
use Rattle.session.specs.Sessions.{Sessioned}
use Rattle.session.specs.Telling.{IsSettledTold}
use Rattle.workers.specs.Coming.{CameThrough}
use Rattle.workers.specs.Naming.{no_session}

-- the session at a later moment goes on from the one at an earlier: what was settled there is settled so still, and the
-- broker came of the earlier one by any acts, its queues and their histories with it
pub record GoesOnLater (earlier later : Sessioned) : Type 0 where
  pub numbers : SessionGoesOn earlier later
  pub ended : Bool
  pub came : CameThrough earlier.broker ended later.broker

-- so it is of a session between these
pub record IsBetween (before now : Sessioned) (IsSo : Sessioned → Type 0) : Type 0 where
  pub session : Sessioned
  pub earlier : GoesOnLater before session
  pub later : GoesOnLater session now
  pub is : IsSo session

-- these are the kept words of a moment: of this session, which goes on from the first one. It keeps its promises, a
-- broker may begin on the words, and what is settled there they tell
pub record IsMomentOf (first session : Sessioned) (kept : List ℕ) : Type 0 where
  pub words : kept ≡ session.broker.words.kept
  pub goes_on : GoesOnLater first session
  pub promises : KeepsNumbers session
  pub boots : AreBootWords kept
  pub told : IsSettledTold session

-- so it is of the session itself, from which all others go on
abbrev pub IsFirstMoment : Sessioned → Type 0
IsFirstMoment first = IsMomentOf first first first.broker.words.kept

-- what was handed on: the changes, and the session as it was at the last time, or when the seats were given; and the
-- sessions that who hands on has assured
pub record HandedOn : Type 0 where
  pub changes : List Change
  pub last : Sessioned
  pub assured : List Sessioned

-- where a batch of changes was handed on this is so
abbrev pub OnBatch : {A : Type 0} → Result (Option A) Refusal → Type 0 → Type 0
OnBatch result IsSo = IfOk result (λ batch. OnSome batch IsSo)

-- the changes that were handed on make of the first kept words those of a moment: of the session at the last time
abbrev pub IsHandedMoment : Sessioned → HandedOn → Type 0
IsHandedMoment first handed = IsMomentOf first handed.last (applied handed.changes first.broker.words.kept)

-- they make of them the kept words of this session
abbrev pub IsMadeByHanded : Sessioned → HandedOn → Sessioned → Type 0
IsMadeByHanded first handed now = IsMadeBy handed.changes first.broker.words.kept now.broker.words.kept

-- each of them is of one of those words
abbrev pub AreHandedWithin : Sessioned → HandedOn → Type 0
AreHandedWithin first handed = All (λ change. change.word < length first.broker.words.kept) handed.changes

-- the last one of these sessions
abbrev pub latest : List Sessioned → Sessioned
latest [] = no_session
latest (s ∷ []) = s
latest (s ∷ t ∷ more) = latest (t ∷ more)

-- sessions that were marked, each behind the other: the last one goes on from each of them
pub record AreMarks (marked : List Sessioned) : Type 0 where
  pub some : 0 < length marked
  pub later : All (λ s. GoesOnLater s (latest marked)) marked

-- the sessions that these marks are of
abbrev pub marked_in : List (Known Sessioned) → List Sessioned
marked_in marks = map (λ mark. latest mark.entries) marks

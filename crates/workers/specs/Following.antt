-- How the rows that a keeper knows follow the session beside it under the lock.
use Rattle.std.specs.Prelude.{◌≡◌, ◌≤◌, ℕ, Bool, true, false, length, List, Option, Some, All, slice_get}
use Rattle.words.specs.declared.call.Client.{Client}
use Rattle.named.specs.Brokers.{is_down}
use Rattle.session.specs.Keeping.{SessionGoesOn}
use Rattle.session.specs.Promises.{KeepsNumbers}
use Rattle.session.specs.Sessions.{Sessioned}
use Rattle.workers.specs.Coming.{CameThrough}
use Rattle.workers.specs.Creating.{IsCreationKnown}
use Rattle.workers.specs.Deeds.{CameBy}
use Rattle.workers.specs.Moments.{GoesOnLater}
use Rattle.workers.specs.Opening.{IsNotInUse}
use Rattle.workers.specs.Lists.{AreNamed, IsCutOff, IsRecorded, OnlyLastIsOpen, RanAt, events_at}
use Rattle.workers.specs.declared.deeds.Deed.{Deed}
use Rattle.workers.specs.declared.entry.End.TheVariants.{Open}
use Rattle.workers.specs.declared.entry.Entry.{Entry}
use Rattle.workers.specs.declared.locked.Creating.{Creating}

-- where the seats' lists begin in each history: at what it had when the seats were given; or at 0, since a rotation or a
-- renewal ended that one
abbrev pub beginnings : Sessioned → Bool → ℕ → ℕ
beginnings first true slot = 0
beginnings first false slot = length (events_at first.broker slot)

-- while the broker is down, a crash has ended each open call
abbrev pub AreOpenCutOff : Sessioned → Client → List Entry → Type 0
AreOpenCutOff s client list =
    is_down s.broker ≡ true → (k slot place : ℕ) (e : Entry) → slice_get list k ≡ Some e → RanAt e slot place
    → e.end ≡ Open → IsCutOff (events_at s.broker slot) client place

pub record IsFollowed (since : ℕ → ℕ) (s : Sessioned) (client : Client) (row : List Entry) : Type 0 where
  pub recorded : IsRecorded since s client row
  pub only_last : OnlyLastIsOpen row
  pub stopped : AreOpenCutOff s client row

-- each row is its client's list
pub record AreFollowed (since : ℕ → ℕ) (s : Sessioned) (rows : List (List Entry)) : Type 0 where
  pub begun : (slot : ℕ) → since slot ≤ length (events_at s.broker slot)
  pub each : (t : ℕ) (row : List Entry) → slice_get rows t ≡ Some row → IsFollowed since s (record { 0 = t }) row

-- what lies under the lock: the session, the rows that the keeper knows, what was done to all of the session, the
-- creation that threads know of, whether the histories have ended since the seats were given, and the sessions that were
-- marked
pub record Guarded : Type 0 where
  pub session : Sessioned
  pub rows : List (List Entry)
  pub deeds : List (List Deed)
  pub creating : Creating
  pub rotated : Bool
  pub marked : List Sessioned

-- what a contract sees of what lies under the lock: this, and, where changes of kept words are noted, for how many more
-- there is room
pub record Held : Type 0 where
  pub session : Sessioned
  pub rows : List (List Entry)
  pub deeds : List (List Deed)
  pub creating : Creating
  pub rotated : Bool
  pub marked : List Sessioned
  pub promised : Option ℕ

abbrev pub guarded_in : Held → Guarded
guarded_in h = record {
  session = h.session;
  rows = h.rows;
  deeds = h.deeds;
  creating = h.creating;
  rotated = h.rotated;
  marked = h.marked;
}

-- the session may be shared as it is: it has so many clients, nobody uses it, and it keeps its promises
pub record IsBeginning (all : ℕ) (first : Sessioned) : Type 0 where
  pub counts : first.broker.counts.clients ≡ all
  pub quiet : IsNotInUse first.broker
  pub promises : KeepsNumbers first

-- what holds of it whenever the lock is free, where there are so many clients, and the session was this one when the
-- seats were given: each call is in the queue of its name; what was settled then is so still, the clients of its log
-- queues are such clients still, and the queues that it had then are there, each with a history that went on from where
-- it began, or ended with a rotation or a renewal. The session goes on from each that was marked
pub record IsGuardedWell (all : ℕ) (first : Sessioned) (g : Guarded) : Type 0 where
  pub beginning : IsBeginning all first
  pub clients : length g.rows ≡ all
  pub followed : AreFollowed (beginnings first g.rotated) g.session g.rows
  pub named : (t : ℕ) (row : List Entry) → slice_get g.rows t ≡ Some row → AreNamed g.session.broker.directory row
  pub promises : KeepsNumbers g.session
  pub creation : IsCreationKnown g.session.broker g.creating
  pub goes_on : SessionGoesOn first g.session
  pub came : CameThrough first.broker g.rotated g.session.broker
  pub done : CameBy first.broker g.deeds g.session.broker
  pub later : All (λ s. GoesOnLater s g.session) g.marked

-- Seats in the order of their clients.
use Rattle.std.specs.Prelude.{◌≡◌, ◌≤◌, ℕ, Bool, length, List, Some, slice_get, []}
use Rattle.words.specs.declared.call.Client.{Client}
use Rattle.session.specs.Sessions.{Sessioned}
use Rattle.workers.specs.Coming.{CameThrough}
use Rattle.workers.specs.Following.{beginnings}
use Rattle.workers.specs.Lists.{AreNamed, IsRecorded, events_at}
use Rattle.workers.specs.declared.entry.Entry.{Entry}

-- all seats, in the order of their clients
pub record AreAllInOrder {S : Type 0} (client : S → Client) (clients : ℕ) (seats : List S) : Type 0 where
  pub all : length seats ≡ clients
  pub each : (k : ℕ) (seat : S) → slice_get seats k ≡ Some seat → client seat ≡ record { 0 = k }

-- none of them remembers a call
pub record AreEmpty {S : Type 0} (list : S → List Entry) (seats : List S) : Type 0 where
  pub each : (k : ℕ) (seat : S) → slice_get seats k ≡ Some seat → list seat ≡ []

-- each seat's list is the row in its place
pub record AreRows {S : Type 0} (list : S → List Entry) (rows : List (List Entry)) (seats : List S) : Type 0 where
  pub each : (k : ℕ) (seat : S) → slice_get seats k ≡ Some seat → slice_get rows k ≡ Some (list seat)

-- each seat's list is what the histories have of its client: since the seats were given, where no rotation ended the
-- histories, and else since the last one did. Each call was made in the queue of its name
pub record AreSeatsRecorded {S : Type 0} (list : S → List Entry) (first : Sessioned) (seats : List S) (s : Sessioned)
    : Type 0 where
  pub rotated : Bool
  pub came : CameThrough first.broker rotated s.broker
  pub begun : (slot : ℕ) → beginnings first rotated slot ≤ length (events_at s.broker slot)
  pub each : (k : ℕ) (seat : S) → slice_get seats k ≡ Some seat
      → IsRecorded (beginnings first rotated) s (record { 0 = k }) (list seat)
  pub named : (k : ℕ) (seat : S) → slice_get seats k ≡ Some seat → AreNamed s.broker.directory (list seat)

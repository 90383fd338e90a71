-- The call that a client announced, and what it is told of it.
use Rattle.std.specs.Prelude.{◌≡◌, ◌≢◌, ℕ, ◌<◌, ◌⊎◌, List, length, Some, slice_get}
use Rattle.words.specs.declared.call.Kind.{Kind}
use Rattle.words.specs.declared.told.Told.{Told}
use Rattle.arena.specs.Shape.{Shape}
use Rattle.arena.specs.Words.{announcements}
use Rattle.arena.specs.declared.place.Place.{Place}
use Rattle.words.specs.declared.call.Client.{Client}
use Rattle.events.specs.Effects.{order_of}
use Rattle.events.specs.Telling.{IsToldCall, IsToldBase}
use Rattle.events.specs.declared.event.Event.{Event}
use Rattle.protocol.specs.Machine.{Trace}
use Rattle.events.specs.declared.event.Entry.{Entry}
use Rattle.protocol.specs.declared.Issued.{Issued}

-- the call of a record is the last one that took it
pub record IsCallOf (issued : List Issued) (token : ℕ) (call : Issued) : Type 0 where
  pub index : ℕ
  pub there : slice_get issued index ≡ Some call
  pub takes : call.begun.token.0 ≡ token
  pub last : (k : ℕ) (later : Issued) → index < k → slice_get issued k ≡ Some later → later.begun.token.0 ≢ token

-- no call took it since the history began
pub record IsNobodys (issued : List Issued) (token : ℕ) : Type 0 where
  pub none : (k : ℕ) (call : Issued) → slice_get issued k ≡ Some call → call.begun.token.0 ≢ token

-- the client is told of this call, which is its own: its number, with Taken and its reply where it is in the order,
-- with NotTaken where it
-- is not; of a dequeue of a durable queue its reply, or Open. No later call of the client is in the order
pub record IsToldOfCall (kind : Kind) (events : List Event) (order : List Entry) (client : Client) (call : Issued)
    (told : Told) : Type 0 where
  pub own : call.begun.client ≡ client
  pub tells : IsToldCall kind events order client (length events) told call.place
  pub number : call.begun.number ≡ tells.number

-- the client is told of its announced call, and where there is none, what it was told where the history begins
pub record IsToldOfAnnounced (s : Shape) (kept : Place → ℕ) (base : List Told) (log : Trace) (client : Client)
    (told : Told) : Type 0 where
  pub of_call : (call : Issued) → announcements kept client.0 ≢ 0
      → IsCallOf log.issued (announcements kept client.0) call
      → IsToldOfCall s.kind log.events (order_of log.effects) client call told
  pub of_base : (announcements kept client.0 ≡ 0) ⊎ IsNobodys log.issued (announcements kept client.0)
      → IsToldBase s.kind base log.events (order_of log.effects) client (length log.events) told

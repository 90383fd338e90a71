-- A record that is taken again: what became of the calls that took it before.
use Rattle.std.specs.Prelude.{◌≡◌, ℕ, ◌≤◌, ◌<◌, ◌⊎◌, List, Some, slice_get}
use Rattle.words.specs.declared.call.Client.{Client}
use Rattle.arena.specs.Shape.{record_of}
use Rattle.arena.specs.Words.{bumps}
use Rattle.sound_words.specs.Sound.{IsBlank, IsIssued}
use Rattle.events.specs.Effects.{order_of}
use Rattle.events.specs.History.{CrashAt, IsEnd}
use Rattle.events.specs.Orders.{InOrder}
use Rattle.events.specs.declared.event.Entry.{Entry}
use Rattle.events.specs.declared.event.Event.{Event}
use Rattle.protocol.specs.Machine.{World}
use Rattle.protocol.specs.declared.Issued.{Issued}
use Rattle.protocol.specs.declared.UnderWay.{UnderWay}
use Rattle.interleave.specs.State.{State, machine, order_in, used_by}

-- the call was lost: a Crash ended it, and it is not in the order
pub record IsLost (events : List Event) (order : List Entry) (call : Issued) : Type 0 where
  pub crash : ℕ
  pub ends : IsEnd events call.begun.client call.place crash
  pub by_crash : CrashAt events crash
  pub out : ¬ (InOrder order call.place)

-- the call was the client's and was lost, its bump word is not kept, and each word of its record is 0
pub record LeftNothing (w : State) (client : Client) (call : Issued) : Type 0 where
  pub own : call.begun.client ≡ client
  pub lost : IsLost w.log.events (order_in w) call
  pub unkept : bumps (machine w).memory.kept client.0 ≤ call.begun.used
  pub blank : IsBlank w.shape (machine w).memory.cached call.begun.token.0
  pub blank_kept : IsBlank w.shape (machine w).memory.kept call.begun.token.0

-- so it was with each earlier call that took the record which the client's next call takes
abbrev pub EarlierLeftNothing : State → Client → Type 0
EarlierLeftNothing w client =
    (k : ℕ) (call : Issued) → slice_get w.log.issued k ≡ Some call
    → call.begun.token.0 ≡ record_of w.shape client.0 (used_by w client) → LeftNothing w client call

-- a call under way, as it was noted when it took its record
abbrev pub issued_as : UnderWay → Issued
issued_as u = record { place = u.place; begun = u.begun }

-- its client has the call under way
pub record IsStillCalled (w : World) (call : Issued) : Type 0 where
  pub u : UnderWay
  pub at : w.calls call.begun.client.0 ≡ Some u
  pub is : issued_as u ≡ call

-- the call has a record of its client, and it is kept that this one is used, or the call is under way, or it was lost
pub record IsAccountedFor (w : World) (call : Issued) : Type 0 where
  pub token : call.begun.token.0 ≡ record_of w.shape call.begun.client.0 call.begun.used
  pub unused : call.begun.used < w.shape.records
  pub stands : IsIssued w.shape w.memory.kept call.begun.token.0
      ⊎ (IsStillCalled w call ⊎ IsLost w.log.events (order_of w.log.effects) call)

-- so it is with every call that took a record
abbrev pub AreAccountedFor : World → Type 0
AreAccountedFor w = (k : ℕ) (call : Issued) → slice_get w.log.issued k ≡ Some call → IsAccountedFor w call

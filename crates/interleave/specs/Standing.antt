-- What stands for good: in the order, and of what clients were told.
use Rattle.std.specs.Prelude.{◌≡◌, ◌≢◌, ℕ, suc, ◌<◌, ◌++◌, List, length, Some, slice_get}
use Rattle.words.specs.declared.call.Client.{Client}
use Rattle.words.specs.declared.call.Reply.{Reply}
use Rattle.words.specs.declared.told.Told.{Told}
use Rattle.arena.specs.Words.{announcements}
use Rattle.arena.specs.declared.place.Place.{Place}
use Rattle.events.specs.History.{CrashAt, ReadyAt, BeginsAt, IsEnd}
use Rattle.events.specs.Orders.{IsTakenAs, InOrder}
use Rattle.events.specs.Parts.{IsPartOf}
use Rattle.events.specs.Telling.{BeginsTold}
use Rattle.events.specs.declared.event.Entry.{Entry}
use Rattle.events.specs.declared.event.Event.{Event}
use Rattle.protocol.specs.Announced.{IsCallOf, IsToldOfAnnounced}
use Rattle.protocol.specs.declared.Issued.{Issued}
use Rattle.interleave.specs.Queue.{told_in}
use Rattle.interleave.specs.State.{State, machine, order_in}

-- a call of some client begins at p, and has an end
pub record HasEnded (events : List Event) (p : ℕ) : Type 0 where
  pub client : Client
  pub begins : BeginsAt events client p
  pub end : ℕ
  pub ends : IsEnd events client p end

-- the first history is the beginning of the second
pub record IsBeginningOf (old new : List Event) : Type 0 where
  pub rest : List Event
  pub is : new ≡ old ++ rest

-- a call that had ended stands in the new order only if it stood in the old one, with the same reply
abbrev pub EndedCallsStay : State → State → Type 0
EndedCallsStay old new =
    (p : ℕ) (reply : Reply) → HasEnded old.log.events p → IsTakenAs (order_in new) p reply
    → IsTakenAs (order_in old) p reply

-- every call of the history has ended
abbrev pub AllHaveEnded : State → Type 0
AllHaveEnded w = (client : Client) (p : ℕ) → BeginsAt w.log.events client p → HasEnded w.log.events p

-- what each client was told in w of the call that was announced then is right by the order of a later world too
abbrev pub AreToldOfAnnouncedBy : State → State → Type 0
AreToldOfAnnouncedBy later w =
    (client : Client) (told : Told) → slice_get (told_in w.queue) client.0 ≡ Some told
    → IsToldOfAnnounced w.shape (machine w).memory.kept w.told (record w.log { effects = later.log.effects }) client
    told

-- the client's call at p is its announced one: the last that took the record which its kept announcement names
pub record IsAnnounced (kept : Place → ℕ) (issued : List Issued) (client : Client) (p : ℕ) : Type 0 where
  pub some : announcements kept client.0 ≢ 0
  pub call : Issued
  pub of : IsCallOf issued (announcements kept client.0) call
  pub place : call.place ≡ p

-- a Crash ended the client's call at p, and no Ready came after that Crash but the last event
pub record WasCutOff (events : List Event) (client : Client) (p : ℕ) : Type 0 where
  pub end : ℕ
  pub ends : IsEnd events client p end
  pub crash : CrashAt events end
  pub last : (k : ℕ) (told : List Told) → end < k → ReadyAt events k told → suc k ≡ length events

-- a call that was cut off before w became ready, that its client may be told of and had not announced, is not in this
-- order
abbrev pub UnannouncedAreOut : List Entry → State → Type 0
UnannouncedAreOut order w =
    (client : Client) (p number : ℕ) → BeginsTold w.shape.kind w.log.events client p number
    → WasCutOff w.log.events client p → ¬ (IsAnnounced (machine w).memory.kept w.log.issued client p)
    → ¬ (InOrder order p)

-- the history of the one world grows to that of the other: nothing is taken back, and ended calls stay
pub record GrowsFrom (old new : State) : Type 0 where
  pub grown : IsBeginningOf old.log.events new.log.events
  pub part : IsPartOf (order_in old) (order_in new)
  pub ended : EndedCallsStay old new

-- two worlds are laid out alike, and their histories begin with the same: what the queue held and told then
pub record BeginAlike (old new : State) : Type 0 where
  pub shape : new.shape ≡ old.shape
  pub base : new.base ≡ old.base
  pub told : new.told ≡ old.told

-- the one world goes on as the other: their histories begin alike, and that of the one grows to that of the other
pub record GoesOn (old new : State) : Type 0 where
  pub begins : BeginAlike old new
  pub grown : IsBeginningOf old.log.events new.log.events
  pub part : IsPartOf (order_in old) (order_in new)
  pub ended : EndedCallsStay old new

-- both hold by the order of each world whose history grew from that of this one
abbrev pub IsToldForGood : State → Type 0
IsToldForGood w =
    (later : State) → GrowsFrom w later → AreToldOfAnnouncedBy later w × UnannouncedAreOut (order_in later) w

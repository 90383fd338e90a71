-- A seat's list: the calls of its client, and what the histories of the queues say of them.
use Rattle.std.specs.Prelude.{◌≡◌, ◌<◌, ◌≤◌, ℕ, suc, Bool, true, false, length, List, [], ◌∷◌, Option, Some, None, slice_get}
use Rattle.words.specs.declared.call.Client.{Client}
use Rattle.words.specs.declared.call.Reply.{Reply}
use Rattle.directory.specs.Directory.{Directory, IsNamed}
use Rattle.events.specs.History.{BeginsAt, CallAt, CrashAt, IsEnd, ReturnAt}
use Rattle.events.specs.declared.event.Event.{Event}
use Rattle.interleave.specs.State.{State}
use Rattle.named.specs.Brokers.{Brokered, world_at}
use Rattle.session.specs.Promises.{IsReplyAt}
use Rattle.session.specs.Requests.{number_or_zero}
use Rattle.session.specs.Sessions.{Sessioned}
use Rattle.workers.specs.declared.entry.End.{End}
use Rattle.workers.specs.declared.entry.End.TheVariants.{Answered, Interrupted, Open}
use Rattle.workers.specs.declared.entry.Entry.{Entry}

-- the call has not been answered, as far as its seat knows
abbrev pub is_open : End → Bool
is_open Open = true
is_open Interrupted = false
is_open (Answered reply) = false

-- the last call of a list is open
abbrev pub ends_open : List Entry → Bool
ends_open [] = false
ends_open (x ∷ []) = is_open x.end
ends_open (x ∷ y ∷ more) = ends_open (y ∷ more)

-- the list, where this became of its last call
abbrev pub with_end : End → List Entry → List Entry
with_end end [] = []
with_end end (x ∷ []) = record x { end = end } ∷ []
with_end end (x ∷ y ∷ more) = x ∷ with_end end (y ∷ more)

-- no call of the list but the last is open
abbrev pub OnlyLastIsOpen : List Entry → Type 0
OnlyLastIsOpen list = (k : ℕ) (e : Entry) → slice_get list k ≡ Some e → suc k < length list → is_open e.end ≡ false

-- the last call of the list was made in the queue of this slot
abbrev pub LastIsOf : ℕ → List Entry → Type 0
LastIsOf slot list = (k : ℕ) (e : Entry) → slice_get list k ≡ Some e → suc k ≡ length list → e.queue.0 ≡ slot

-- the client's call at this place returned this
pub record HasReturned (events : List Event) (client : Client) (place : ℕ) (reply : Reply) : Type 0 where
  pub end : ℕ
  pub ends : IsEnd events client place end
  pub returns : ReturnAt events end client reply

-- a crash ended it
pub record IsCutOff (events : List Event) (client : Client) (place : ℕ) : Type 0 where
  pub end : ℕ
  pub ends : IsEnd events client place end
  pub crash : CrashAt events end

-- it has not returned
abbrev pub HasNotReturned : List Event → Client → ℕ → Type 0
HasNotReturned events client place =
    (end : ℕ) (reply : Reply) → IsEnd events client place end → ReturnAt events end client reply → ⊥

-- what the history says became of it
abbrev pub HasEndedAs : List Event → Client → ℕ → End → Type 0
HasEndedAs events client place (Answered reply) = HasReturned events client place reply
HasEndedAs events client place Interrupted = IsCutOff events client place
HasEndedAs events client place Open = HasNotReturned events client place

-- the entry's call ran in the queue of this slot, from this place
abbrev pub RanAt : Entry → ℕ → ℕ → Type 0
RanAt e slot place = (e.queue.0 ≡ slot) × (e.place ≡ Some place)

-- there the history has the client's call, with its number and its end, since the list begins
pub record IsRunRight (since : ℕ) (events : List Event) (client : Client) (e : Entry) (place : ℕ) : Type 0 where
  pub late : since ≤ place
  pub call : CallAt events place client (number_or_zero e.number) e.call
  pub ended : HasEndedAs events client place e.end

-- the list has a call that ran there
pub record HasEntryAt (list : List Entry) (slot place : ℕ) : Type 0 where
  pub index : ℕ
  pub entry : Entry
  pub at : slice_get list index ≡ Some entry
  pub ran : RanAt entry slot place

-- the list has all calls of the client in the history of a slot since this place, in their order
pub record IsListOf (since slot : ℕ) (events : List Event) (client : Client) (list : List Entry) : Type 0 where
  pub right : (k place : ℕ) (e : Entry) → slice_get list k ≡ Some e → RanAt e slot place
      → IsRunRight since events client e place
  pub ascend : (j k p q : ℕ) (e f : Entry) → j < k → slice_get list j ≡ Some e → slice_get list k ≡ Some f
      → RanAt e slot p → RanAt f slot q → p < q
  pub all : (place : ℕ) → since ≤ place → BeginsAt events client place → HasEntryAt list slot place

-- what happened in the queue of a slot; in a closed slot, nothing
abbrev pub events_of : Option State → List Event
events_of (Some w) = w.log.events
events_of None = []

abbrev pub events_at : Brokered → ℕ → List Event
events_at b slot = events_of (world_at b slot)

-- the entry has the reply of its number, in the order or told by the base
pub record IsKeptReply (s : Sessioned) (client : Client) (e : Entry) : Type 0 where
  pub number : ℕ
  pub number_is : e.number ≡ Some number
  pub reply : Reply
  pub end_is : e.end ≡ Answered reply
  pub right : IsReplyAt s e.queue.0 client number reply

-- a number of the list is from 1 on: a call without one has none
abbrev pub HasNoNumberZero : List Entry → Type 0
HasNoNumberZero list = (k : ℕ) (e : Entry) → slice_get list k ≡ Some e → e.number ≡ Some 0 → ⊥

-- each call of the list was made in the queue of its name
abbrev pub AreNamed : Directory → List Entry → Type 0
AreNamed places list = (k : ℕ) (e : Entry) → slice_get list k ≡ Some e → IsNamed places e.queue.0 e.name

-- the client's list fits the histories of all queues, since these places
pub record IsRecorded (since : ℕ → ℕ) (s : Sessioned) (client : Client) (list : List Entry) : Type 0 where
  pub ran : (slot : ℕ) → IsListOf (since slot) slot (events_at s.broker slot) client list
  pub kept : (k : ℕ) (e : Entry) → slice_get list k ≡ Some e → e.place ≡ None → IsKeptReply s client e
  pub numbered : HasNoNumberZero list

-- The numbers of a log queue's calls: none of them stands twice in the order.
use Rattle.std.specs.Prelude.{◌≡◌, ℕ, ◌<◌, ◌≤◌, ◌⊎◌, List, Some, length, slice_get, slice_index}
use Rattle.words.specs.declared.call.Call.{Call}
use Rattle.words.specs.declared.call.Client.{Client}
use Rattle.words.specs.declared.call.Reply.{Reply}
use Rattle.words.specs.declared.limits.TheConstants.{MAX_CLIENTS}
use Rattle.words.specs.declared.told.Told.{Told}
use Rattle.interleave.specs.LogQueue.{floor_of}
use Rattle.events.specs.History.{CallAt, ReturnAt, ReadyAt, BeginsAt}
use Rattle.events.specs.Orders.{InOrder}
use Rattle.events.specs.declared.event.Entry.{Entry}
use Rattle.events.specs.declared.event.Event.{Event}
use Rattle.interleave.specs.Queue.{told_to}
use Rattle.interleave.specs.State.{State, order_in}
use Rattle.interleave.specs.declared.queue.Queue.{Queue}
use Rattle.interleave.specs.declared.queue.Queue.TheVariants.{Durable, Log}

-- the client's call at p has this number
abbrev pub HasNumber : List Event → Client → ℕ → ℕ → Type 0
HasNumber events client p number = (call : Call) × CallAt events p client number call

-- the entry at i of the order is a call of the client, with this number
pub record IsEntryOf (events : List Event) (order : List Entry) (i : ℕ) (client : Client) (number : ℕ) : Type 0 where
  pub entry : Entry
  pub at : slice_get order i ≡ Some entry
  pub has_number : HasNumber events client entry.place number

-- the client's call at p is its last, and neither a Return of the client nor a Ready came after it
pub record IsInDoubt (events : List Event) (client : Client) (p : ℕ) : Type 0 where
  pub last : (k : ℕ) → p < k → BeginsAt events client k → ⊥
  pub no_return : (k : ℕ) (reply : Reply) → p < k → ReturnAt events k client reply → ⊥
  pub no_ready : (k : ℕ) (tells : List Told) → p < k → ReadyAt events k tells → ⊥

-- the floor of a client's numbers by what is told
abbrev pub told_floor : List Told → Client → ℕ
told_floor told client = floor_of (told_to told client)

-- no two entries of the order have one client and number
abbrev pub HasNoNumberTwice : List Event → List Entry → Type 0
HasNoNumberTwice events order =
    (i j number : ℕ) (client : Client) → IsEntryOf events order i client number → IsEntryOf events order j client number
    → i ≡ j

-- each entry's number is at most the floor of its client
abbrev pub IsWithinFloors : List Event → List Entry → List ℕ → Type 0
IsWithinFloors events order floors =
    (i number : ℕ) (client : Client) → IsEntryOf events order i client number
    → number ≤ slice_index floors client.0

-- no number stands twice in the order, where clients have these floors and were told this by the base
pub record NumbersAreOnce (told : List Told) (events : List Event) (order : List Entry) (floors : List ℕ) : Type 0 where
  pub once : HasNoNumberTwice events order
  -- each entry's number is at most the floor of its client, unless its call is in doubt
  pub within : (i number : ℕ) (client : Client) → (x : IsEntryOf events order i client number)
      → number ≤ slice_index floors client.0 ⊎ IsInDoubt events client x.entry.place
  -- and above the floor by what the base told: so no number that the base told as Taken is an entry's
  pub base : (i number : ℕ) (client : Client) → IsEntryOf events order i client number → told_floor told client < number

-- so it is of a log queue; the calls of a durable one have no numbers
abbrev pub AreNumbersOnceIn : Queue → List Told → List Event → List Entry → Type 0
AreNumbersOnceIn (Durable reports) told events order = Unit {0}
AreNumbersOnceIn (Log clients) told events order = NumbersAreOnce told events order clients.floors

abbrev pub AreNumbersOnce : State → Type 0
AreNumbersOnce w = AreNumbersOnceIn w.queue w.told w.log.events (order_in w)

-- no call of a log queue is in doubt: each entry's number is at most the floor of its client
abbrev pub AreWithinFloorsIn : Queue → List Event → List Entry → Type 0
AreWithinFloorsIn (Durable reports) events order = Unit {0}
AreWithinFloorsIn (Log clients) events order = IsWithinFloors events order clients.floors

abbrev pub AreWithinFloors : State → Type 0
AreWithinFloors w = AreWithinFloorsIn w.queue w.log.events (order_in w)

-- what is so of numbers whatever the acts: by it none stands twice
pub record NumbersRise (told : List Told) (events : List Event) (order : List Entry) (floors : List ℕ) : Type 0 where
  pub sixteen : length floors ≡ MAX_CLIENTS
  -- a call's number is above those of its client's earlier calls in the order
  pub rise : (p q m n : ℕ) (client : Client) → HasNumber events client p m → HasNumber events client q n → p < q
      → InOrder order p → m < n
  -- of a call in the order it is at most the floor of its client, unless the call is in doubt
  pub within : (p number : ℕ) (client : Client) → HasNumber events client p number → InOrder order p
      → number ≤ slice_index floors client.0 ⊎ IsInDoubt events client p
  -- it is above the floor by what the base told, and no client's floor is below that
  pub base : (p number : ℕ) (client : Client) → HasNumber events client p number → told_floor told client < number
  pub base_floors : (client : Client) → client.0 < MAX_CLIENTS → told_floor told client ≤ slice_index floors client.0

abbrev pub AreNumbersRisingIn : Queue → List Told → List Event → List Entry → Type 0
AreNumbersRisingIn (Durable reports) told events order = Unit {0}
AreNumbersRisingIn (Log clients) told events order = NumbersRise told events order clients.floors

abbrev pub AreNumbersRising : State → Type 0
AreNumbersRising w = AreNumbersRisingIn w.queue w.told w.log.events (order_in w)

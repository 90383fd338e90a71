-- What stays of a broker over its acts: its queues, and their histories.
use Rattle.std.specs.Prelude.{◌≡◌, ◌≢◌, ◌⊎◌, ℕ, Bool, true, false, Option, Some, None}
use Rattle.directory.specs.Directory.{HasQueue}
use Rattle.directory.specs.declared.creation.Creation.{Creation}
use Rattle.directory.specs.declared.queue.Queue.{Queue}
use Rattle.interleave.specs.Standing.{GoesOn}
use Rattle.interleave.specs.State.{State}
use Rattle.named.specs.Brokers.{Brokered, quiet, world_at}
use Rattle.named.specs.Promises.{KeepsPromises}
use Rattle.named.specs.Rotating.{IsRotated}

-- a slot's queue is still there, and its history goes on: nothing is taken back, and calls that had ended stay as they
-- are
pub record IsGoneOn (w : State) (now : Option State) : Type 0 where
  pub world : State
  pub is : now ≡ Some world
  pub goes_on : GoesOn w world

-- so it is of each queue, with its name and kind, and there are as many clients and records
pub record BrokerGoesOn (old new : Brokered) : Type 0 where
  pub counts : new.counts ≡ old.counts
  pub directory : (slot : ℕ) (queue : Queue) → HasQueue old.directory slot queue → HasQueue new.directory slot queue
  pub worlds : (slot : ℕ) (w : State) → world_at old slot ≡ Some w → IsGoneOn w (world_at new slot)

-- the queue of the creation that is under way, or that a crash dropped
pub record IsOfCreation (b : Brokered) (slot : ℕ) (queue : Queue) : Type 0 where
  pub creation : Creation
  pub is : b.creation ≡ Some creation
  pub slot_is : slot ≡ creation.slot.0
  pub queue_is : queue ≡ creation.queue

-- no queue came but that one
abbrev pub HasOnlyOneMore : Brokered → Brokered → Type 0
HasOnlyOneMore old new =
    (slot : ℕ) (queue : Queue) → HasQueue new.directory slot queue
    → HasQueue old.directory slot queue ⊎ IsOfCreation old slot queue

-- what is so from a crash on, until the broker is ready again: the creation that it dropped stays in mind
pub record IsDowntime (old new : Brokered) : Type 0 where
  pub goes_on : BrokerGoesOn old new
  pub only : HasOnlyOneMore old new
  pub creation : (new.creation ≡ old.creation) ⊎ (new.recovery ≡ None)

-- the worlds of the other slots are as they were, but for the count of accesses
abbrev pub AreOthersQuiet : Brokered → Brokered → ℕ → Type 0
AreOthersQuiet old new slot = (other : ℕ) → other ≢ slot → quiet (world_at new other) ≡ quiet (world_at old other)

-- The one broker came of the other by any acts. Either no rotation was among them, and the queues and their histories
-- went on; or there were some, and the histories went on from the last one, which had begun each on what the one before
-- it left, by the order that explained it
pub data CameOf (first : Brokered) : Bool → Brokered → Type 0 where
  unrotated : {now : Brokered} (goes_on : BrokerGoesOn first now) → CameOf first false now
  rotated : {was : Bool} {ended begun now : Brokered} (before : CameOf first was ended)
      (explained : KeepsPromises ended) (rotation : IsRotated ended begun) (goes_on : BrokerGoesOn begun now) → CameOf first true now

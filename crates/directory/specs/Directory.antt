-- A directory: eight places, each free or with a queue, no name twice.
use Rattle.std.specs.Prelude.{◌≡◌, ℕ, ◌<◌, List, Option, Some, None, length, slice_get, slice_set}
use Rattle.arena.specs.declared.broker.TheConstants.{SLOTS}
use Rattle.directory.specs.declared.queue.Queue.{Queue}

abbrev pub Directory : Type 0
Directory = List (Option Queue)

-- the same with this queue in the slot
abbrev pub with_queue : Directory → ℕ → Queue → Directory
with_queue places slot queue = slice_set places slot (Some queue)

-- the slot has this queue; it has none
abbrev pub HasQueue : Directory → ℕ → Queue → Type 0
HasQueue places slot queue = slice_get places slot ≡ Some (Some queue)

abbrev pub IsFree : Directory → ℕ → Type 0
IsFree places slot = slice_get places slot ≡ Some None

pub record IsDirectory (places : Directory) : Type 0 where
  pub count : length places ≡ SLOTS
  pub once : (i j : ℕ) (p q : Queue) → HasQueue places i p → HasQueue places j q → p.name ≡ q.name → i ≡ j

-- it has a queue of this name
abbrev pub IsQueueNamed : Option Queue → List ℕ → Type 0
IsQueueNamed (Some queue) name = queue.name ≡ name
IsQueueNamed None name = ⊥

-- the slot has a queue of this name; some slot has
pub record IsNamed (places : Directory) (slot : ℕ) (name : List ℕ) : Type 0 where
  pub queue : Queue
  pub has : HasQueue places slot queue
  pub named : queue.name ≡ name

pub record HasName (places : Directory) (name : List ℕ) : Type 0 where
  pub slot : ℕ
  pub here : IsNamed places slot name

-- the slot is free, and none below it is
pub record IsLowestFree (places : Directory) (slot : ℕ) : Type 0 where
  pub free : IsFree places slot
  pub lowest : (other : ℕ) → other < slot → IsFree places other → ⊥

-- The queues that a directory lists, and the words that tell of them.
use Rattle.std.specs.Prelude.{◌≡◌, ◌⊎◌, IsSome, ℕ, ◌+◌, ◌<◌, ◌==◌, if◌then◌else◌, List, Option, Some, None, map, slice_index}
use Rattle.std.specs.List.{range_with_len}
use Rattle.words.specs.declared.call.Kind.{Kind}
use Rattle.words.specs.declared.call.Kind.TheVariants.{Durable, Log}
use Rattle.arena.specs.Broker.{directory_from}
use Rattle.arena.specs.declared.broker.TheConstants.{SLOTS}
use Rattle.arena.specs.declared.codes.TheConstants.{DURABLE_QUEUE, LOG_QUEUE, CLOSED_GATE, OPEN_GATE}
use Rattle.directory.specs.Name.{name_of}
use Rattle.directory.specs.declared.queue.Queue.{Queue}

abbrev pub kind_code : Kind → ℕ
kind_code Durable = DURABLE_QUEUE
kind_code Log = LOG_QUEUE

abbrev pub kind_of : ℕ → Option Kind
kind_of code = if code == DURABLE_QUEUE then Some Durable else (if code == LOG_QUEUE then Some Log else None)

abbrev pub queue_with : Option (List ℕ) → Option Kind → Option Queue
queue_with (Some name) (Some kind) = Some (record { name = name; kind = kind })
queue_with (Some name) None = None
queue_with None kind = None

-- the queue that two name words and a kind tell of, if they tell of one
abbrev pub queue_of : ℕ → ℕ → ℕ → Option Queue
queue_of first second code = queue_with (name_of first second) (kind_of code)

-- the four words of a slot
abbrev pub first_name_at : ℕ → ℕ
first_name_at slot = directory_from slot

abbrev pub second_name_at : ℕ → ℕ
second_name_at slot = directory_from slot + 1

abbrev pub kind_at : ℕ → ℕ
kind_at slot = directory_from slot + 2

abbrev pub gate_at : ℕ → ℕ
gate_at slot = directory_from slot + 3

-- what a slot has, by these words: a queue where its gate is open
abbrev pub queue_in : List ℕ → ℕ → Option Queue
queue_in ws slot =
    queue_of (slice_index ws (first_name_at slot)) (slice_index ws (second_name_at slot))
    (slice_index ws (kind_at slot))

abbrev pub slot_in : List ℕ → ℕ → Option Queue
slot_in ws slot = if slice_index ws (gate_at slot) == OPEN_GATE then queue_in ws slot else None

-- the gate is open and the words tell of a queue; so it is of a slot of the directory; or the gate is closed
pub record IsOpen (ws : List ℕ) (slot : ℕ) : Type 0 where
  pub gate : slice_index ws (gate_at slot) ≡ OPEN_GATE
  pub queue : IsSome (queue_in ws slot)

pub record IsOpenSlot (ws : List ℕ) (slot : ℕ) : Type 0 where
  pub in_range : slot < SLOTS
  pub opened : IsOpen ws slot

abbrev pub IsSlotSound : List ℕ → ℕ → Type 0
IsSlotSound ws slot = (slice_index ws (gate_at slot) ≡ CLOSED_GATE) ⊎ IsOpen ws slot

-- the directory that these words have: what each of the eight slots has
unfoldable pub directory_of : List ℕ → List (Option Queue)
directory_of ws = map (slot_in ws) (range_with_len 0 SLOTS)

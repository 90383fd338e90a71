-- What was asked for through the ports of a broker's queues and of its creation.
use Rattle.std.specs.Prelude.{ℕ, ◌+◌, ◌*◌, Option, Some, None}
use Rattle.words.specs.declared.limits.TheConstants.{QUEUE_PORTS}
use Rattle.persist.specs.Memory.{MemoryState, Request, asked_through, seen_in, seen_whole}
use Rattle.arena.specs.Broker.{block_from, block_size_of}
use Rattle.arena.specs.Shape.{Counts}
use Rattle.directory.specs.Creation.{access_of}
use Rattle.directory.specs.Step.{IsAskedFor}
use Rattle.directory.specs.declared.creation.Creation.{Creation}
use Rattle.interleave.specs.Asked.{AreAsked}
use Rattle.interleave.specs.State.{State}
use Rattle.named.specs.Brokers.{Brokered, IsWell, world_at}
use Rattle.named.specs.Slots.{IfWorld}
use Rattle.named.specs.declared.broker.TheConstants.{CREATION_PORT}
use Rattle.named.specs.declared.recovery.BrokerRecovery.{BrokerRecovery}

-- what the ports of the queue in a slot ask for, as its block shows it, and that what waits in its world to complete a
-- flush has asked for it
abbrev pub requests_at : Counts → MemoryState → ℕ → ℕ → Request
requests_at c m slot port =
    seen_in (block_from c slot) (block_size_of c.clients c.records) (asked_through m (QUEUE_PORTS * slot + port))

abbrev pub IsWorldAsked : Counts → MemoryState → ℕ → State → Type 0
IsWorldAsked c m slot w = AreAsked w.shape w.calls w.recovery (requests_at c m slot)

-- a creation's port has what its next step completes: one that a crash dropped has no next step
abbrev pub IfCreationAsked : Counts → Option BrokerRecovery → Option Creation → Request → Type 0
IfCreationAsked c None (Some creation) request = IsAskedFor c (access_of creation) request
IfCreationAsked c _ _ request = Unit {0}

-- a broker over its memory is well, and what waits to complete a flush has asked for it
pub record IsWellOver (b : Brokered) (m : MemoryState) : Type 0 where
  pub well : IsWell b
  pub slots : (slot : ℕ) → IfWorld (world_at b slot) (IsWorldAsked b.counts m slot)
  pub creation : IfCreationAsked b.counts b.recovery b.creation (seen_whole (asked_through m CREATION_PORT))

-- A queue in its block: a core, where its words lie in the memory of a broker, and which ports it acts through.
use Rattle.std.specs.Prelude.{◌≡◌, ℕ, ◌+◌, ◌-◌, ◌<◌, ◌≤◌, ◌⊎◌, Result, Some, length}
use Rattle.words.specs.declared.call.Client.{Client}
use Rattle.words.specs.declared.call.Reply.{Reply}
use Rattle.words.specs.declared.limits.TheConstants.{QUEUE_PORTS}
use Rattle.words.specs.declared.refusal.Refusal.{Refusal}
use Rattle.persist.specs.Memory.{MemoryState, Request, Words, IsSameOutside, asked_through, seen_in, words_after_crash, words_in}
use Rattle.persist.specs.declared.memory.TheConstants.{PORTS}
use Rattle.arena.specs.Shape.{Shape}
use Rattle.recover.specs.Table.{boot_recovery}
use Rattle.interleave.specs.Asked.{AreAsked}
use Rattle.interleave.specs.Booted.{booted_world}
use Rattle.interleave.specs.Core.{CoreState, roomy_over, state_of}
use Rattle.interleave.specs.Holds.{Holds}
use Rattle.interleave.specs.Ranges.{AreUnused}
use Rattle.interleave.specs.Rules.{Rule, IsByAlone, IsByRule}
use Rattle.interleave.specs.State.{State, after_evict, world_over}
use Rattle.interleave.specs.Trace.{Roomy}

pub record BlockState : Type 0 where
  pub core : CoreState
  pub from : ℕ
  pub len : ℕ
  pub port : ℕ

-- the world that it is
abbrev pub state_in : Words → BlockState → State
state_in ws block = state_of block.core (words_in block.from block.len ws)

-- and for how many acts more there is room
abbrev pub roomy_in : Words → BlockState → Roomy
roomy_in ws block = roomy_over block.core (words_in block.from block.len ws)

-- what an eviction of a word, by its number in the whole memory, makes of its world
abbrev pub state_evicted_in : Words → ℕ → BlockState → State
state_evicted_in ws word block = after_evict (state_in ws block) (word - block.from)

-- the world of a queue that recovery is the first to find: nobody called yet, and its recovery is to come
abbrev pub world_to_recover : Shape → Words → State
world_to_recover s ws = record (world_over s ws) { recovery = Some boot_recovery }

-- once these words crash, the block is the world that begins on what this part of them keeps
abbrev pub IsBlockBooted : Shape → ℕ → ℕ → Words → BlockState → Type 0
IsBlockBooted s from len ws block = state_in (words_after_crash ws) block ≡ booted_world s (words_in from len ws)

-- the block is inside the memory, which has the queue's ports, and its world holds there
pub record IsWellIn (ws : Words) (block : BlockState) : Type 0 where
  pub some : 1 ≤ block.len
  pub inside : block.from + block.len ≤ length ws.cached
  pub ports : block.port + QUEUE_PORTS ≤ PORTS
  pub holds : Holds (state_in ws block)

-- so it is over all words where the block is of the memory, with ports that there are, and nobody used it
abbrev pub IsWellWhereUnused : Shape → ℕ → ℕ → ℕ → BlockState → Type 0
IsWellWhereUnused s from len port block =
    (ws : Words) → 1 ≤ len → from + len ≤ length ws.cached → port + QUEUE_PORTS ≤ PORTS
    → AreUnused s (words_in from len ws) → IsWellIn ws block

-- two memories have the same values, after as many accesses
pub record IsSameWords (old new : Words) : Type 0 where
  pub cached : new.cached ≡ old.cached
  pub kept : new.kept ≡ old.kept
  pub accesses : new.accesses ≡ old.accesses

-- what the queue's ports ask for, as its block shows it, and that what waits to complete a flush has asked for it
abbrev pub requests_in : MemoryState → BlockState → ℕ → Request
requests_in m block port = seen_in block.from block.len (asked_through m (block.port + port))

abbrev pub IsAskedIn : MemoryState → BlockState → Type 0
IsAskedIn m block = AreAsked block.core.shape block.core.calls block.core.trace.recovery (requests_in m block)

-- through every port but those of a queue's, from this one on, the same was asked for
abbrev pub IsBeside : ℕ → ℕ → Type 0
IsBeside first port = (port < first) ⊎ (first + QUEUE_PORTS ≤ port)

abbrev pub AskAlikeBeside : ℕ → MemoryState → MemoryState → Type 0
AskAlikeBeside first old new = (port : ℕ) → IsBeside first port → asked_through new port ≡ asked_through old port

-- two blocks lie in the same place, have the same ports, and are laid out in the same way
abbrev pub LieInOnePlace : BlockState → BlockState → Type 0
LieInOnePlace old new =
    (new.from ≡ old.from) × (new.len ≡ old.len) × (new.port ≡ old.port) × (new.core.shape ≡ old.core.shape)

-- an act on the queue went through its block and its ports alone, and all is well with it again
pub record IsWithinBlock (old_memory : MemoryState) (old : BlockState) (new_memory : MemoryState) (new : BlockState)
    : Type 0 where
  pub well : IsWellIn new_memory.words new
  pub asked : IsAskedIn new_memory new
  pub beside : AskAlikeBeside old.port old_memory new_memory
  pub outside : IsSameOutside old.from old.len old_memory.words new_memory.words
  pub place : LieInOnePlace old new

-- such an act by a rule
pub record IsActIn {A : Type 0} (rule : Rule A) (old_memory : MemoryState) (old : BlockState) (result : Result A Refusal)
    (new_memory : MemoryState) (new : BlockState) : Type 0 where
  pub by_rule : IsByRule rule (roomy_in old_memory.words old) result (roomy_in new_memory.words new)
  pub within : IsWithinBlock old_memory old new_memory new

-- and a call that goes on alone
pub record IsAloneIn (client : Client) (old_memory : MemoryState) (old : BlockState) (result : Result (Reply × ℕ) Refusal)
    (new_memory : MemoryState) (new : BlockState) : Type 0 where
  pub alone : IsByAlone client (roomy_in old_memory.words old) result (roomy_in new_memory.words new)
  pub within : IsWithinBlock old_memory old new_memory new

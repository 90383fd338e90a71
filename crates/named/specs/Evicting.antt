-- An eviction from a broker's memory, by the broker's numbers of words.
use Rattle.std.specs.Prelude.{◌≡◌, ℕ, ◌+◌, ◌-◌, ◌<◌, ◌≤◌, ◌⊎◌, Bool, ◌&&◌, Option, Result, Ok, Err, nat_le, nat_lt, if◌then◌else◌}
use Rattle.words.specs.declared.refusal.Refusal.{Refusal}
use Rattle.words.specs.declared.refusal.Refusal.TheVariants.{NoWord}
use Rattle.persist.specs.Changes.{change_of}
use Rattle.persist.specs.declared.access.Change.{Change}
use Rattle.arena.specs.Broker.{block_from, block_size_of, broker_size}
use Rattle.arena.specs.declared.broker.TheConstants.{BLOCKS_FROM, SLOTS}
use Rattle.arena.specs.Shape.{Counts}
use Rattle.interleave.specs.State.{State, after_evict}
use Rattle.named.specs.Brokers.{Brokered, world_at}
use Rattle.named.specs.Slots.{acted}

-- the word is one of the slot's block
abbrev pub is_in_block : Counts → ℕ → ℕ → Bool
is_in_block c slot word =
    nat_le (block_from c slot) word && nat_lt word (block_from c slot + block_size_of c.clients c.records)

-- the word is in the block of a slot that there is; it is in no block
pub record IsInBlockOf (c : Counts) (slot word : ℕ) : Type 0 where
  pub in_range : slot < SLOTS
  pub low : block_from c slot ≤ word
  pub high : word < block_from c slot + block_size_of c.clients c.records

abbrev pub IsInNoBlock : Counts → ℕ → Type 0
IsInNoBlock c word = (word < BLOCKS_FROM) ⊎ (broker_size c ≤ word)

-- what it makes of the world in a slot: in a queue's own numbers, words are counted from the beginning of its block
abbrev pub world_evicted : Counts → ℕ → ℕ → State → State
world_evicted c slot word w = if is_in_block c slot word then after_evict w (word - block_from c slot) else w

-- so it does in each slot
abbrev pub AreWorldsEvicted : Brokered → Brokered → ℕ → Type 0
AreWorldsEvicted old new word =
    (slot : ℕ) → world_at new slot ≡ acted (world_evicted old.counts slot word) (world_at old slot)

abbrev pub evict_result : Brokered → ℕ → Result (Option Change) Refusal
evict_result b word = if nat_lt word (broker_size b.counts) then Ok (change_of b.words word) else Err NoWord

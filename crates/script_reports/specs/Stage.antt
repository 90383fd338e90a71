-- What an act makes of a world over a memory.
use Rattle.std.specs.Prelude.{◌≡◌, ℕ, Bool}
use Rattle.persist.specs.Memory.{MemoryState}
use Rattle.protocol.specs.declared.acts.Act.{Act}
use Rattle.interleave.specs.Core.{CoreState, state_of}
use Rattle.interleave.specs.State.{after_attempt}

-- it is what the act leaves of the world, where memory is refused to it (`full`) or not
abbrev pub IsLeftBy : Act ℕ → Bool → CoreState → MemoryState → CoreState → MemoryState → Type 0
IsLeftBy act full core memory core_left memory_left =
    state_of core_left memory_left.words ≡ after_attempt full (state_of core memory.words) act

use Rattle.std.proofs.Common.{◌≡◌, ℕ, List, map}
use Rattle.arena.specs.Words.{values}
use Rattle.sound_words.specs.Kept.{kept_of}
use Rattle.renewal.proofs.Waiting.{IsFoundUpTo}
use Rattle.renewal.proofs.content.content.Given as goal

-- the items of the nodes that were found
abbrev pub invariant-loop : goal.invariant-loop
invariant-loop g l =
    (found : List ℕ) × (l.items.items ≡ map (values (kept_of l.queue)) found)
    × IsFoundUpTo l.queue.shape (kept_of l.queue) l.links l.counter l.node.0 found

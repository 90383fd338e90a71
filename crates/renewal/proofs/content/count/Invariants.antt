use Rattle.std.proofs.Common.{◌≡◌, ℕ, List, length}
use Rattle.sound_words.specs.Kept.{kept_of}
use Rattle.renewal.proofs.Waiting.{IsFoundUpTo}
use Rattle.renewal.proofs.content.count.Given as goal

-- so many nodes were found
abbrev pub invariant-loop : goal.invariant-loop
invariant-loop g l =
    (found : List ℕ) × (length found ≡ l.count) × IsFoundUpTo l.queue.shape (kept_of l.queue) l.links l.counter l.node.0 found

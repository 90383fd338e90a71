use Rattle.std.proofs.Common.{◌≡◌, ℕ, take, length, get_or}
use Rattle.renewal.specs.Renewed.{follower}
use Rattle.renewal.proofs.Chained.{last_of}
use Rattle.renewal.proofs.chain.links_of.Given as goal

-- the links of the nodes so far, of which this one is the last
abbrev pub invariant-loop-node : goal.invariant-loop-node
invariant-loop-node l = record {
  long : length l.links.items ≡ l.count;
  last : l.last ≡ last_of 0 (take l.node-index l.nodes);
  so_far : (n : ℕ) → get_or l.links.items n 0 ≡ follower n 0 (take l.node-index l.nodes);
}

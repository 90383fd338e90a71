use Rattle.std.proofs.Common.{◌≡◌, ◌<◌, ◌+◌, ℕ, take, length, get_or, set, refl, sym, subst, ◌∙◌, arith}
use Rattle.std.proofs.Math.ListN.{length-set}
use Rattle.renewal.specs.Renewed.{follower}
use Rattle.renewal.proofs.Chained.{chain_distinct, last_of, last_taken, last_within, link_added}
use Rattle.renewal.proofs.chain.links_of.Goals as goal

pub index_mut-requires : goal.index_mut-requires
index_mut-requires c =
    omega (
      arith,
      c.loop-node.links.ok.0,
      c.loop-node.invariant.long,
      c.loop-node.invariant.last,
      last_within c.args.nodes.now c.loop-node.node-index c.args.count c.requires.within,
    )

pub loop-node-preserved : goal.loop-node-preserved
loop-node-preserved c =
    let i : ℕ = c.loop-node.node-index in
    let x : ℕ = get_or c.args.nodes.now i 0 in
    let within : last_of 0 (take i c.args.nodes.now) < length c.loop-node.links.items =
    subst (λ (n : ℕ). last_of 0 (take i c.args.nodes.now) < n) (sym c.loop-node.invariant.long) (last_within c.args.nodes.now i c.args.count c.requires.within) in
    record {
      long = length-set c.loop-node.links.items c.loop-node.last x ∙ c.loop-node.invariant.long;
      last = last_taken c.args.nodes.now i x c.loop-node-test.true refl;
      so_far =
          subst (λ (last : ℕ). (n : ℕ) → get_or (set c.loop-node.links.items last x) n 0 ≡ follower n 0 (take (i + 1) c.args.nodes.now))
          (sym c.loop-node.invariant.last)
          (link_added c.loop-node.links.items c.args.nodes.now i x (chain_distinct c.args.nodes.now c.requires.chain) c.loop-node-test.true refl within c.loop-node.invariant.so_far);
    }

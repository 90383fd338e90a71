use Rattle.std.proofs.Common.{below_more, rules, sym, ◌∙◌, ◌<◌}
use Rattle.std.proofs.lemmas.Bool.{false≢true}
use Rattle.arena.specs.Place.{IsRecord}
use Rattle.sound_words.proofs.kept.KeptQueue.are_claims_told.Goals as goal

pub loop-node-preserved : goal.loop-node-preserved
loop-node-preserved g c = below_more _ _ c.loop-node.invariant (λ low. c.is_claim_told.ensures.0 c.if-not-is_claim_told.false)

pub returns-then-not-is_claim_told : goal.returns-then-not-is_claim_told
returns-then-not-is_claim_told g c =
    let one : IsRecord c.args.self.now.shape c.loop-node.node = search rules in
    (search rules, λ all. absurd (false≢true (sym c.if-not-is_claim_told.true ∙ c.is_claim_told.ensures.1 (all _ one))))

pub returns : goal.returns
returns g c = (
  λ told n r. let before : n < c.loop-node.node = search rules in c.loop-node.invariant n before r.0,
  λ all. search rules,
)

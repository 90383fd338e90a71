use Rattle.std.proofs.Common.{below_more, rules, sym, ◌∙◌, ◌<◌}
use Rattle.std.proofs.lemmas.Bool.{false≢true}
use Rattle.arena.specs.Place.{IsRecord}
use Rattle.sound_words.proofs.kept.KeptQueue.are_inserted.Goals as goal

pub loop-node-preserved : goal.loop-node-preserved
loop-node-preserved g c = below_more _ _ c.loop-node.invariant (λ low. c.is_inserted_if_on.ensures.0 c.if-not-is_inserted_if_on.false)

pub returns-then-not-is_inserted_if_on : goal.returns-then-not-is_inserted_if_on
returns-then-not-is_inserted_if_on g c =
    let one : IsRecord c.args.self.now.shape c.loop-node.node = search rules in
    (search rules, λ all. absurd (false≢true (sym c.if-not-is_inserted_if_on.true ∙ c.is_inserted_if_on.ensures.1 (all _ one))))

pub returns : goal.returns
returns g c = (
  λ told n r. let before : n < c.loop-node.node = search rules in c.loop-node.invariant n before r.0,
  λ all. search rules,
)

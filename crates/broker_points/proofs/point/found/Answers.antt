use Rattle.std.proofs.Common.{◌≡◌, ap, sym, subst, ◌∙◌}
use Rattle.std.proofs.lemmas.Bool.{false≢true}
use Rattle.std.specs.Prelude.{IsTrue}
use Rattle.directory.specs.Directory.{Directory}
use Rattle.named.specs.Brokers.{Brokered}
use Rattle.broker_script.specs.Standing.{QueuesStay}
use Rattle.broker_points.proofs.Explaining.{of_ok}
use Rattle.broker_points.proofs.point.found.Goals as goal
use Rattle.broker_points.proofs.point.found.Goals.{then-kept, else-kept}

pub returns-clause-ok : goal.returns-clause-ok
returns-clause-ok c =
    let listed = of_ok c.list.result c.unwrap-places.result _ c.unwrap-places.ensures c.list.ensures.places in
    let places : c.unwrap-places.result.now ≡ c.args.player.now.broker.directory =
    listed ∙ ap (λ (b : Brokered). b.directory) c.broker-broker.ensures.broker in
    let stay : QueuesStay c.args.known.now c.unwrap-places.result.now =
    subst (λ (d : Directory). QueuesStay c.args.known.now d) (sym places) c.requires.known in
    let kept : IsTrue c.are_kept-kept.result = c.are_kept-kept.ensures.1 stay in
    elim c.if-kept.branch [
      | then-kept b ↦ subst IsTrue (sym b.ok-is) c.in_ok-explained.ensures.explained
      | else-kept b ↦ absurd (false≢true (sym b.if-kept.false ∙ kept))
    ]

use Rattle.std.proofs.Common.{◌++◌, ◌∷◌, [], map, ap, ◌∙◌}
use Rattle.std.proofs.lemmas.List.{map-append}
use Rattle.std.proofs.lemmas.Result.{on_ok_weaker}
use Rattle.explore.specs.Points.{found_of}
use Rattle.explore.proofs.walk.add_stop.Goals as goal

pub returns-clause-points : goal.returns-clause-points
returns-clause-points c =
    on_ok_weaker c.push.result (λ is. ap (map found_of) is
    ∙ map-append found_of c.args.points.now.items (c.in_ok-found.found ∷ [])
    ∙ ap (λ x. map found_of c.args.points.now.items ++ x ∷ []) c.in_ok-found.ensures.found) c.push.ensures.items

use Rattle.std.proofs.Common.{◌++◌, ◌∷◌, [], ℕ, List, take, sym, ap, ◌∙◌}
use Rattle.std.proofs.lemmas.List.{take_more}
use Rattle.protocol.specs.declared.acts.Act.{Act}
use Rattle.interleave.specs.State.{State, after_act, after_acts}
use Rattle.explore.proofs.InOrder.{after_more}
use Rattle.explore.proofs.walk.go_on.Goals as goal

pub returns-in_ok-attempt-clause-world : goal.returns-in_ok-attempt-clause-world
returns-in_ok-attempt-clause-world c w before =
    let acts : List (Act ℕ) = c.args.acts.now in
    let point : ℕ = c.args.point in
    let act : Act ℕ = c.index-acts-point.result in
    c.in_ok-attempt.ensures.world ∙ ap (λ (u : State). after_act u act) before
    ∙ sym (after_more w (take point acts) (act ∷ []))
    ∙ ap (after_acts w) (sym (take_more acts point _ c.if-point-acts.true
    ∙ ap (λ (x : Act ℕ). take point acts ++ x ∷ []) (sym c.index-acts-point.is)))

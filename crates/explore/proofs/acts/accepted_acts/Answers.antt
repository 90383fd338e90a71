use Rattle.std.proofs.Common.{sym, ap, ◌∙◌}
use Rattle.std.proofs.lemmas.Result.{IfOk-weaker}
use Rattle.interleave.specs.State.{State, new_world}
use Rattle.explore.specs.Acts.{acts_of}
use Rattle.explore.proofs.acts.accepted_acts.Goals as goal

pub accepted_in-requires : goal.accepted_in-requires
accepted_in-requires c =
    let made = c.in_ok-world.ensures.made in made ∙ ap (λ (w : State). new_world w.shape) (sym made)

pub returns-clause-acts : goal.returns-clause-acts
returns-clause-acts c =
    IfOk-weaker c.accepted_in.result _ _
    (λ acts is. is ∙ ap (λ (w : State). acts_of w.shape c.args.commands.now) c.in_ok-world.ensures.made) c.accepted_in.ensures.acts

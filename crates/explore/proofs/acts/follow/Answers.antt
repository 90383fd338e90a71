use Rattle.std.proofs.Common.{◌++◌, sym, ap, ◌∙◌}
use Rattle.std.proofs.lemmas.Result.{on_ok_weaker}
use Rattle.interleave.specs.State.{after_acts}
use Rattle.explore.specs.Acts.{accepted_of, attempts_of}
use Rattle.playing.specs.Play.{most_alone}
use Rattle.explore.proofs.acts.follow.Goals as goal

pub returns-in-End-clause-world : goal.returns-in-End-clause-world
unfolding most_alone
returns-in-End-clause-world c =
    let w = c.args.world.now.now in
    on_ok_weaker c.some-in-End.result (λ leads.
    leads ∙ ap (λ command. after_acts w (attempts_of w.shape command)) (sym c.in-End.is)) c.some-in-End.ensures.world

pub returns-in-End-clause-acts : goal.returns-in-End-clause-acts
unfolding most_alone
returns-in-End-clause-acts c =
    let w = c.args.world.now.now in
    on_ok_weaker c.some-in-End.result (λ gives.
    gives ∙ ap (λ command. c.args.acts.now.items ++ accepted_of w (attempts_of w.shape command)) (sym c.in-End.is))
    c.some-in-End.ensures.acts

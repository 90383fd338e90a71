use Rattle.std.proofs.Common.{◌++◌, replicate, sym, ap, ◌∙◌}
use Rattle.std.proofs.lemmas.Result.{on_ok_weaker}
use Rattle.explore.proofs.InOrder.{accepted_again}
use Rattle.explore.proofs.acts.some.Goals as goal

pub returns-clause-acts : goal.returns-clause-acts
returns-clause-acts c =
    let old = c.args.acts.now.items in
    on_ok_weaker c.push_all.result (λ added.
    added ∙ ap (λ n. old ++ replicate n c.args.act.now) c.in_ok-times.ensures.accepted
    ∙ ap (λ l. old ++ l) (sym (accepted_again c.args.most c.args.world.now.now c.args.act.now))) c.push_all.ensures.acts

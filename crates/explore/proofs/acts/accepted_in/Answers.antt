use Rattle.std.proofs.Common.{◌≡◌, ◌++◌, [], drop, refl, sym, ap, ◌∙◌, arith}
use Rattle.std.proofs.lemmas.List.{append-nil, drop_all}
use Rattle.interleave.specs.State.{State}
use Rattle.explore.specs.Acts.{accepted_of, attempts_of_all}
use Rattle.explore.proofs.InOrder.{acts_along, acts_are}
use Rattle.explore.proofs.acts.accepted_in.Goals as goal

pub returns-clause-acts : goal.returns-clause-acts
returns-clause-acts c =
    let w = c.loop-command.world.now in
    let s = c.args.world.now.now.shape in
    let acts = c.loop-command.acts.items in
    let none : drop c.loop-command.command-index c.args.commands.now ≡ [] =
    drop_all c.loop-command.command-index c.args.commands.now (omega (arith, c.loop-command-test.false)) in
    sym (append-nil acts) ∙ ap (λ l. acts ++ acts_along w l) (sym none) ∙ c.loop-command.invariant
    ∙ acts_are c.args.commands.now c.args.world.now.now s refl
    ∙ ap (λ (v : State). accepted_of v (attempts_of_all s c.args.commands.now)) c.requires

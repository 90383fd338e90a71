use Rattle.std.proofs.Common.{ap, sym, subst, refl}
use Rattle.std.proofs.lemmas.Result.{IfOk-weaker}
use Rattle.grammar.specs.declared.commands.Command.{Command}
use Rattle.named.specs.Brokers.{IsWell}
use Rattle.broker_script.specs.OnQueue.{IsFollowedIn}
use Rattle.broker_script.proofs.Acted.{only_none}
use Rattle.broker_script.proofs.player.Player.shown_in.Goals as goal

pub returns-in-Content-clause-followed : goal.returns-in-Content-clause-followed
returns-in-Content-clause-followed c =
    let slot = c.args.slot.0 in
    let well : IsWell c.args.self.now.broker = subst IsWell (ap (λ p. p.broker) c.self.view_is) c.self.invariant.broker.well in
    IfOk-weaker c.show_content.result _ _ (λ lines is.
    subst (λ (command : Command). IsFollowedIn c.args.self.now slot command lines.items c.args.self.now) (sym c.in-Content.is)
    (record { gives = is; play = refl; only = only_none slot c.args.self.now well })) c.show_content.ensures.lines

pub returns-in-Order-clause-followed : goal.returns-in-Order-clause-followed
returns-in-Order-clause-followed c =
    let slot = c.args.slot.0 in
    let well : IsWell c.args.self.now.broker = subst IsWell (ap (λ p. p.broker) c.self.view_is) c.self.invariant.broker.well in
    IfOk-weaker c.show_order.result _ _ (λ lines is.
    subst (λ (command : Command). IsFollowedIn c.args.self.now slot command lines.items c.args.self.now) (sym c.in-Order.is)
    (record { gives = is; play = refl; only = only_none slot c.args.self.now well })) c.show_order.ensures.lines

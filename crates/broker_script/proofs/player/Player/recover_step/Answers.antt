use Rattle.std.proofs.Common.{◌≡◌, ap, sym, ◌∙◌, subst}
use Rattle.std.specs.Prelude.{None, Err}
use Rattle.named.specs.Brokers.{Brokered}
use Rattle.named.specs.GoingOn.{BrokerGoesOn}
use Rattle.named.specs.Stopping.{IsRecoveryStep}
use Rattle.session.specs.Keeping.{SessionGoesOn}
use Rattle.broker_script.specs.PlayerView.{player_view}
use Rattle.broker_script.specs.Play.{Played, session_of}
use Rattle.broker_script.proofs.Staying.{refused_ready}
use Rattle.broker_script.proofs.PutOffs.{recovery_put_off}
use Rattle.broker_script.proofs.player.Player.recover_step.Goals as goal

pub returns-in-Err-clause-step : goal.returns-in-Err-clause-step
returns-in-Err-clause-step c other =
    let same = ap (λ (p : Played). p.broker) c.self.view_is in
    let refusal = c.in-Err.refusal in
    let new = c.recover_step.new.self in
    let none : c.self.inside.session.broker.recovery ≡ None =
    refused_ready c.self.inside.session.broker new.broker refusal c.self.invariant.broker.well (λ e. other (cc)) c.in-Err.ensures.step in
    record {
      step = subst (λ (b : Brokered). IsRecoveryStep b new.broker (Err refusal) b.recovery) same c.in-Err.ensures.step;
      refused = ap (λ (b : Brokered). b.recovery) (sym same) ∙ none;
      goes_on = subst (λ (b : Brokered). BrokerGoesOn b new.broker) same c.in-Err.ensures.downtime.goes_on;
      kept = c.in-Err.ensures.kept ∙ ap (λ (p : Played). p.kept) c.self.view_is;
      settled = subst (λ (p : Played). SessionGoesOn (session_of p) new) c.self.view_is c.in-Err.ensures.goes_on;
      counted = ap (λ (p : Played). record p { broker = new.broker; kept = new.kept }) c.self.view_is;
    }

pub returns-in-Err-clause-put_off : goal.returns-in-Err-clause-put_off
returns-in-Err-clause-put_off c memory =
    recovery_put_off c.args.self.now
    (player_view c.self.inside)
    c.self.view_is c.recover_step.new.self c.in-Err.refusal c.self.invariant.broker.well
    c.in-Err.ensures.promises.broker.well (cc) c.in-Err.ensures.step c.in-Err.ensures.kept

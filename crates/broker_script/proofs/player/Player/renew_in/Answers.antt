use Rattle.std.proofs.Common.{ap, ◌∙◌, subst}
use Rattle.std.proofs.lemmas.Result.{IfOk-weaker}
use Rattle.std.specs.Prelude.{Err}
use Rattle.named.specs.Brokers.{Brokered}
use Rattle.named.specs.Renewing.{IsWhyNotRenewedAt}
use Rattle.session.specs.Sessions.{Sessioned}
use Rattle.broker_script.specs.Play.{Played, session_of}
use Rattle.broker_script.proofs.PutOffs.{unchanged}
use Rattle.broker_script.proofs.player.Player.renew_in.Goals as goal

pub returns-in-Err-clause-renews : goal.returns-in-Err-clause-renews
returns-in-Err-clause-renews c =
    let same = ap (λ (p : Played). p.broker) c.self.view_is in
    let refusal = c.in-Err.refusal in
    IfOk-weaker c.refused.result _ _ (λ lines said. record {
      result = Err refusal;
      line = said.1;
      may = tt;
      renewed = tt;
      others = tt;
      errors = record {
        memory = said.0;
        why = subst (λ (b : Brokered). IsWhyNotRenewedAt b c.args.slot.0 refusal) same c.in-Err.ensures.errors;
      };
      same =
          ap (λ (p : Played). record p { broker = c.renew.new.self.broker; kept = c.renew.new.self.kept }) c.self.view_is
          ∙ ap (λ (s : Sessioned). record c.args.self.now { broker = s.broker; kept = s.kept })
          (c.in-Err.ensures.same ∙ ap session_of c.self.view_is);
    }) c.refused.ensures.line

pub returns-in-Err-clause-put_off : goal.returns-in-Err-clause-put_off
returns-in-Err-clause-put_off c =
    unchanged c.refused.result c.args.self.now _
    (ap (λ (p : Played). record p { broker = c.renew.new.self.broker; kept = c.renew.new.self.kept }) c.self.view_is
    ∙ ap (λ (s : Sessioned). record c.args.self.now { broker = s.broker; kept = s.kept })
    (c.in-Err.ensures.same ∙ ap session_of c.self.view_is))

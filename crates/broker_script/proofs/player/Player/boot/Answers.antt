use Rattle.std.proofs.Common.{◌≡◌, ap, ◌∙◌}
use Rattle.std.proofs.lemmas.Result.{IfOk-weaker}
use Rattle.broker_script.specs.Play.{Played}
use Rattle.broker_script.proofs.Imaged.{boots_made, boots_not}
use Rattle.broker_script.proofs.player.Player.boot.Goals as goal

pub returns-in-Ok-clause-boots : goal.returns-in-Ok-clause-boots
returns-in-Ok-clause-boots c =
    let image : c.deref.result.now ≡ c.args.self.now.image =
    c.deref.ensures.value ∙ ap (λ (p : Played). p.image) c.self.view_is in
    boots_made c.args.self.now c.begin_with.new.self c.deref.result.now c.booted.result c.in-Ok.session c.fill.result.items image
    c.in-Ok.is c.in-Ok.ensures.booted c.in-Ok.ensures.kept c.in-Ok.ensures.sound c.booted.ensures.none c.begin_with.ensures c.fill.ensures

pub returns-in-Err-clause-boots : goal.returns-in-Err-clause-boots
returns-in-Err-clause-boots c =
    let image : c.deref.result.now ≡ c.args.self.now.image =
    c.deref.ensures.value ∙ ap (λ (p : Played). p.image) c.self.view_is in
    IfOk-weaker c.unbooted.result _ _ (λ lines said.
    boots_not c.args.self.now c.deref.result.now c.booted.result c.in-Err.refusal lines.items image c.in-Err.is
    c.in-Err.ensures.errors c.booted.ensures.none said) c.unbooted.ensures.line

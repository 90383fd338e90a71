use Rattle.std.proofs.Common.{rules, ◌≡◌, Result, Err, sym, subst, ◌∙◌}
use Rattle.words.specs.declared.refusal.Refusal.{Refusal}
use Rattle.interleave.specs.Rules.{starting}
use Rattle.named.specs.Acting.{IsActAt}
use Rattle.named.specs.Looking.{look_at}
use Rattle.named.proofs.acts.Acts.{nothing_beside}
use Rattle.named.proofs.acts.Continuity.{broker_stays}
use Rattle.named.proofs.acts.Looks.{not_acted}
use Rattle.named.proofs.broker.Broker.start.Goals as goal

pub returns-in_err-look-clause-act : goal.returns-in_err-look-clause-act
returns-in_err-look-clause-act c =
    let answer : c.from_residual.result ≡ Err c.in_err-look.field-0.0 = search rules in
    subst (λ (r : Result Unit Refusal). IsActAt (starting c.args.client c.args.number c.args.call) c.args.slot.0 c.args.client c.args.self.now r c.args.self.now) (sym answer)
    (not_acted (look_at c.args.client) c.args.self.now c.args.slot.0 c.args.client c.in_err-look.field-0.0 (sym c.look.ensures.look ∙ c.in_err-look.was) Unit (starting c.args.client c.args.number c.args.call))

pub returns-in_err-look-clause-beside : goal.returns-in_err-look-clause-beside
returns-in_err-look-clause-beside c = nothing_beside _ c.args.slot.0 c.look.ensures.promises.well

pub returns-in_err-look-clause-goes_on : goal.returns-in_err-look-clause-goes_on
returns-in_err-look-clause-goes_on c = broker_stays _

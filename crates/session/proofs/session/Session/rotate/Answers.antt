use Rattle.session.proofs.answers.Promises.{numbers_kept}
use Rattle.session.proofs.brokers.Histories.{rotated_right}
use Rattle.session.proofs.session.Session.rotate.Goals as goal

pub invariant_of-self : goal.invariant_of-self
invariant_of-self c =
    rotated_right c.self.inside.broker c.rotate.new.self c.self.inside.kept c.self.invariant c.rotate.result
    c.rotate.ensures.promises.well c.rotate.ensures.result c.rotate.ensures.rotated c.rotate.ensures.same

pub returns-clause-promises : goal.returns-clause-promises
returns-clause-promises c = numbers_kept _ (invariant_of-self c)

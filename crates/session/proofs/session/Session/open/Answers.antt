use Rattle.session.proofs.answers.Tellings.{right_asked}
use Rattle.session.proofs.answers.Promises.{numbers_kept}
use Rattle.session.proofs.session.Session.open.Goals as goal

pub invariant_of-result : goal.invariant_of-result
invariant_of-result c =
    right_asked c.args.broker c.told-kept.ensures.promises.well c.told-kept.result c.told-kept.ensures.heard
    c.told-kept.ensures.heard.no_client c.requires.rested

pub returns-clause-promises : goal.returns-clause-promises
returns-clause-promises c = numbers_kept _ (invariant_of-result c)

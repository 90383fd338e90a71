use Rattle.std.proofs.Common.{subst}
use Rattle.findings.proofs.Offered.{means_take_not, means_take_open}
use Rattle.deciding.specs.Heard.{IsHeard}
use Rattle.deciding.proofs.meaning.take_knows.Goals as goal

pub returns-in-Refused-clause-found : goal.returns-in-Refused-clause-found
returns-in-Refused-clause-found c = means_take_not c.requires.takes
    (subst (IsHeard c.args.findings.now.events c.args.findings.now.learnt c.args.place) c.in-Refused.is c.requires.heard)

pub returns-in-Nothing-clause-found : goal.returns-in-Nothing-clause-found
returns-in-Nothing-clause-found c = means_take_open c.requires.takes
    (subst (IsHeard c.args.findings.now.events c.args.findings.now.learnt c.args.place) c.in-Nothing.is c.requires.heard)

use Rattle.findings.proofs.Offered.{means_took}
use Rattle.deciding.proofs.Meant.{nobody_put}
use Rattle.deciding.proofs.meaning.got_knows.Goals as goal

pub returns-in-Some-clause-found : goal.returns-in-Some-clause-found
returns-in-Some-clause-found c = means_took c.args.value.now c.in-Some.put c.requires.takes c.requires.got
    c.in-Some.ensures.found

pub returns-in-None-clause-none : goal.returns-in-None-clause-none
returns-in-None-clause-none c = nobody_put c.args.findings.now.events c.args.findings.now.learnt c.args.place c.args.value.now
    c.requires.got c.in-None.ensures.none

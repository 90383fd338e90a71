use Rattle.std.proofs.Common.{◌∙◌}
use Rattle.deciding.proofs.Hearing.{end_found, end_missing}
use Rattle.deciding.proofs.reading.end_of.Goals as goal

pub returns-in-Some : goal.returns-in-Some
returns-in-Some c = end_found c.args.findings.now.events c.args.place c.in-Some.end c.in-Some.ensures.some

pub returns-in-None : goal.returns-in-None
returns-in-None c = c.len.ensures.events ∙ end_missing c.args.findings.now.events c.args.place c.in-None.ensures.none

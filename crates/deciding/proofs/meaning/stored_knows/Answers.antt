use Rattle.std.proofs.Common.{subst}
use Rattle.std.proofs.lemmas.Bool.{iff_false}
use Rattle.findings.specs.Findings.{IsKnown}
use Rattle.findings.proofs.Offered.{means_done}
use Rattle.deciding.proofs.Meant.{no_such_put}
use Rattle.deciding.proofs.meaning.stored_knows.Goals as goal

pub returns-then-is_done-clause-found : goal.returns-then-is_done-clause-found
returns-then-is_done-clause-found c = means_done c.args.value.now c.requires.puts
    (subst (IsKnown c.args.findings.now.events c.args.findings.now.learnt c.args.place)
    (c.is_done.ensures.0 c.if-is_done.true) c.requires.known)

pub returns-else-is_done-clause-none : goal.returns-else-is_done-clause-none
returns-else-is_done-clause-none c = no_such_put c.args.findings.now.events c.args.findings.now.learnt c.args.place c.args.value.now
    c.args.reply.now c.requires.puts c.requires.known (iff_false c.is_done.ensures c.if-is_done.false)

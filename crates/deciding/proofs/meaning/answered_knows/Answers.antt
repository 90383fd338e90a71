use Rattle.std.proofs.Common.{subst, ⊎_elim}
use Rattle.std.proofs.lemmas.Bool.{iff_false}
use Rattle.findings.specs.Findings.{IsKnown}
use Rattle.findings.proofs.Offered.{means_nothing}
use Rattle.deciding.proofs.Meant.{no_such_take}
use Rattle.deciding.proofs.meaning.answered_knows.Goals as goal

pub returns-then-is_empty-clause-found : goal.returns-then-is_empty-clause-found
returns-then-is_empty-clause-found c = means_nothing c.requires.takes
    (subst (IsKnown c.args.findings.now.events c.args.findings.now.learnt c.args.place)
    (c.is_empty.ensures.0 c.if-is_empty.true) c.requires.known)

pub returns-in-None-clause-none : goal.returns-in-None-clause-none
returns-in-None-clause-none c = λ of_queue. ⊎_elim
    (λ done. no_such_take c.args.findings.now.events c.args.findings.now.learnt c.args.place c.args.reply.now c.requires.takes
    c.requires.known done of_queue)
    (λ nothing. absurd (iff_false c.is_empty.ensures c.if-is_empty.false nothing))
    c.in-None.ensures.none

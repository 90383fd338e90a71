use Rattle.std.proofs.Common.{Option, subst}
use Rattle.journal_store.specs.Found.{IsFoundThere}
use Rattle.journal_store.specs.declared.found.Found.{Found}
use Rattle.pqd.proofs.Files.{of_files}
use Rattle.pqd.proofs.keeping.broker_from.Goals as goal

pub returns-clause-found : goal.returns-clause-found
returns-clause-found g c =
    of_files c.args.asked.now c.args.store.now.files c.in-Some.found c.in_ok-broker_on.field-0
    (subst (λ (o : Option Found). IsFoundThere c.args.store.now.files o) c.in-Some.is c.in_ok-found.ensures)
    c.in_ok-broker_on.ensures.words

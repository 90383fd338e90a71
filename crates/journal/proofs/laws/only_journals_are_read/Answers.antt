use Rattle.journal.proofs.OnlyJournals.{only_journals}
use Rattle.journal.proofs.laws.only_journals_are_read.Goals as goal

pub returns : goal.returns
returns c = only_journals

use Rattle.journal.proofs.JournalsRead.{journal_before_zeros, journal_is_read, whole_journal_is_read}
use Rattle.journal.proofs.laws.journals_are_read.Goals as goal

pub returns-clause-whole : goal.returns-clause-whole
returns-clause-whole c = whole_journal_is_read

pub returns-clause-torn : goal.returns-clause-torn
returns-clause-torn c = journal_is_read

pub returns-clause-zeros : goal.returns-clause-zeros
returns-clause-zeros c = journal_before_zeros

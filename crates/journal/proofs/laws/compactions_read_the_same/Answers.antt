use Rattle.journal.proofs.Appends.{is_journal_anew, read_anew}
use Rattle.journal.proofs.laws.compactions_read_the_same.Goals as goal

pub returns-clause-journal : goal.returns-clause-journal
returns-clause-journal c = is_journal_anew

pub returns-clause-read : goal.returns-clause-read
returns-clause-read c = read_anew

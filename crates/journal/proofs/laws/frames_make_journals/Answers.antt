use Rattle.journal.proofs.Appends.{end_more, is_journal_more, journal_more}
use Rattle.journal.proofs.laws.frames_make_journals.Goals as goal

pub returns-clause-journal : goal.returns-clause-journal
returns-clause-journal c = is_journal_more

pub returns-clause-bytes : goal.returns-clause-bytes
returns-clause-bytes c = journal_more

pub returns-clause-end : goal.returns-clause-end
returns-clause-end c = end_more

use Rattle.notes.proofs.Making.{made_by_more, made_by_notes}
use Rattle.notes.proofs.laws.noted_changes_make_words.Goals as goal

pub returns-clause-more : goal.returns-clause-more
returns-clause-more c = made_by_more

pub returns-clause-noted : goal.returns-clause-noted
returns-clause-noted c = made_by_notes

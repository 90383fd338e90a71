use Rattle.journal.proofs.Appends.{after_changes, applied_more}
use Rattle.journal.proofs.laws.batches_are_their_changes.Goals as goal

pub returns-clause-batches : goal.returns-clause-batches
returns-clause-batches c = after_changes

pub returns-clause-changes : goal.returns-clause-changes
returns-clause-changes c = applied_more

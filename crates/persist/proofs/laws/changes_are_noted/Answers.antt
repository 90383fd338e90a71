use Rattle.persist.proofs.Noting.{accessed_noted, applied_length, evicted_noted, more_noted, part_noted}
use Rattle.persist.proofs.laws.changes_are_noted.Goals as goal

pub returns-clause-accessed : goal.returns-clause-accessed
returns-clause-accessed c = accessed_noted

pub returns-clause-evicted : goal.returns-clause-evicted
returns-clause-evicted c = evicted_noted

pub returns-clause-within : goal.returns-clause-within
returns-clause-within c = λ from len old new same within change. part_noted from len change old new same within

pub returns-clause-more : goal.returns-clause-more
returns-clause-more c = more_noted

pub returns-clause-length : goal.returns-clause-length
returns-clause-length c = applied_length

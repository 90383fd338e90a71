use Rattle.std.proofs.Common.{refl}
use Rattle.journal_file.proofs.Restarts.{running_if_known}
use Rattle.journal_file.proofs.laws.running_journals_are_read.Goals as goal

pub returns : goal.returns
returns c = λ key base batches count j is going. running_if_known key base batches count j j.words is going refl

use Rattle.journal.proofs.Cuts.{cut_is_left, left_is_read}
use Rattle.journal.proofs.laws.stops_leave_a_beginning.Goals as goal

pub returns-clause-cut : goal.returns-clause-cut
returns-clause-cut c = λ key base batches is n kept. cut_is_left key base batches n kept is

pub returns-clause-read : goal.returns-clause-read
returns-clause-read c = λ key base batches is kept bytes whole tail. left_is_read key base batches kept bytes whole tail is

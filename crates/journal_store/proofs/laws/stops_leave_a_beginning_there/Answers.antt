use Rattle.journal_store.proofs.Cuts.{cut_off}
use Rattle.journal_store.proofs.laws.stops_leave_a_beginning_there.Goals as goal

pub returns : goal.returns
returns c = λ fs left. cut_off fs.place.file fs.place.named fs.fresh left

use Rattle.sound_words.specs.Kept.{kept_of}
use Rattle.sound_words.proofs.Tellings.{AreToldBefore}
use Rattle.sound_words.proofs.kept.KeptQueue.reports.Given as goal

abbrev pub invariant-loop-t : goal.invariant-loop-t
invariant-loop-t g l = AreToldBefore l.self.shape (kept_of l.self) l.tells l.t

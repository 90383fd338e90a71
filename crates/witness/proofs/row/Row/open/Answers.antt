use Rattle.witness.proofs.Steps.{begins}
use Rattle.std.proofs.Common.{[], ◌∷◌}
use Rattle.witness.proofs.row.Row.open.Goals as goal

pub of_words-requires : goal.of_words-requires
of_words-requires g c = begins (0 ∷ [])

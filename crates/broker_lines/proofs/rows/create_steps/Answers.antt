use Rattle.std.proofs.Common.{◌≡◌, [], ◌∷◌, decimal}
use Rattle.broker_lines.proofs.rows.create_steps.Goals as goal

pub returns-in_default : goal.returns-in_default
returns-in_default c most says =
    let none : decimal most ∷ [] ≡ [] = c.in_default.ensures (decimal most ∷ []) says.words in cc

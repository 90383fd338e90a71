use Rattle.std.proofs.Common.{◌≡◌, [], ◌∷◌, decimal}
use Rattle.broker_lines.proofs.rows.kind_and_steps.Goals as goal

pub returns-in_default : goal.returns-in_default
returns-in_default c kind n within is =
    let none : decimal n ∷ [] ≡ [] = c.in_default.ensures kind (decimal n ∷ []) is in cc

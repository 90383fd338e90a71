use Rattle.std.proofs.Common.{◌<◌, ◌≤◌, arith, ⊎_elim}
use Rattle.std.proofs.lemmas.Bool.{cases_lt}
use Rattle.deciding.specs.Right.{calls_in}
use Rattle.deciding.proofs.Wide.{not_wide}
use Rattle.deciding.proofs.ranges.overfull_from.Goals as goal

pub returns-clause-none : goal.returns-clause-none
returns-clause-none c = λ to full. ⊎_elim
    (λ (less : to < c.loop-to.to). c.loop-to.invariant to less full)
    (λ (more : c.loop-to.to ≤ to).
    not_wide (calls_in c.args.tables.now) c.requires.calls c.args.from to c.loop-to.to
    (omega (arith, c.requires.opens.long)) more full)
    (cases_lt to c.loop-to.to)

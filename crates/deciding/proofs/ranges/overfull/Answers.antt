use Rattle.std.proofs.Common.{◌<◌, ◌≤◌, arith, ⊎_elim}
use Rattle.std.proofs.lemmas.Bool.{cases_lt}
use Rattle.deciding.specs.Right.{calls_in}
use Rattle.deciding.proofs.Wide.{not_far}
use Rattle.deciding.proofs.ranges.overfull.Goals as goal

pub returns-clause-none : goal.returns-clause-none
returns-clause-none c = λ from to full. ⊎_elim
    (λ (less : from < c.loop-from.from). c.loop-from.invariant from to less full)
    (λ (more : c.loop-from.from ≤ from).
    not_far (calls_in c.args.tables.now) c.requires.calls from to (omega (arith, c.requires.opens.long, more)) full)
    (cases_lt from c.loop-from.from)

use Rattle.std.proofs.Common.{arith, below_more}
use Rattle.std.proofs.lemmas.Bool.{iff_false, false≢true}
use Rattle.deciding.specs.Bad.{IsBadTake}
use Rattle.deciding.specs.Right.{calls_in}
use Rattle.deciding.proofs.wrong.any_bad_take.Goals as goal

pub loop-take-preserved : goal.loop-take-preserved
loop-take-preserved c = below_more (λ take. IsBadTake (calls_in c.args.tables.now) take → ⊥) c.loop-take.take
    c.loop-take.invariant (iff_false c.is_bad_take.ensures c.if-is_bad_take.false)

pub returns : goal.returns
returns c = (
  (λ truly. absurd (false≢true truly)),
  (λ some. absurd (c.loop-take.invariant some.0 (omega (arith, some.1.0)) some.1.1)),
)

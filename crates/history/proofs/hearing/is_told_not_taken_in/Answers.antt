use Rattle.std.proofs.Common.{rules, arith}
use Rattle.history.proofs.hearing.is_told_not_taken_in.Goals as goal

pub returns : goal.returns
returns c = (
  search rules,
  λ told. absurd (c.loop-p.invariant told.place
      (omega (arith, told.before, c.loop-p-test.false)) told.after told.tells),
)

use Rattle.std.proofs.lemmas.Bool.{not-true, not_from_false, false_from_ne_true, both_ways}
use Rattle.deciding.specs.Right.{calls_in}
use Rattle.deciding.proofs.Clear.{clear_is}
use Rattle.deciding.proofs.empties.is_clear.Goals as goal

pub returns-then-not-is_covered : goal.returns-then-not-is_covered
returns-then-not-is_covered c = (
  (λ pass. clear_is (calls_in c.args.tables.now) c.requires.right.calls c.args.place _ c.requires.right.opens.long
      (λ u lt covered. both_ways c.is_covered.result c.if-not-is_covered.true
      (c.is_covered.ensures.1 (u, (lt, covered))))
      (λ from lt full. both_ways c.any_crowded.result (not-true c.any_crowded.result pass)
      (c.any_crowded.ensures.1 (from, (lt, full))))),
  (λ clear. not_from_false c.any_crowded.result (false_from_ne_true c.any_crowded.result
      (λ yes_it_is. let some = c.any_crowded.ensures.0 yes_it_is in clear.not_crowded some.0 some.1.1))),
)

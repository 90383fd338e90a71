use Rattle.std.proofs.lemmas.Bool.{not-false}
use Rattle.deciding.specs.Right.{calls_in}
use Rattle.deciding.proofs.Decided.{bad_take_pattern, cross_pattern, full_pattern, never_pattern}
use Rattle.deciding.proofs.judging.is_explained.Goals as goal
use Rattle.deciding.proofs.judging.is_explained.Goals.{then-any_bad_take-via-then-any_bad_take}
use Rattle.deciding.proofs.judging.is_explained.Goals.{then-any_bad_take-via-else-any_bad_take+then-any_two_cross}

pub returns-then-any_bad_take-clause-pattern : goal.returns-then-any_bad_take-clause-pattern
returns-then-any_bad_take-clause-pattern c = λ fails. elim c.then-any_bad_take.branch [
  | then-any_bad_take-via-then-any_bad_take w ↦
      let some = c.any_bad_take.ensures.0 w.if-any_bad_take.true in
      bad_take_pattern (calls_in c.args.tables.now) c.requires.calls some.0 some.1.0 some.1.1
  | then-any_bad_take-via-else-any_bad_take+then-any_two_cross w ↦
      let some = w.any_two_cross.ensures.0 w.if-any_two_cross.true in
      cross_pattern (calls_in c.args.tables.now) c.requires.calls some.0 some.1.1.0 some.1.1.1.1
]

pub returns-in-Some-clause-pattern : goal.returns-in-Some-clause-pattern
returns-in-Some-clause-pattern c = λ fails. full_pattern (calls_in c.args.tables.now) c.requires.calls
    c.in-Some._range.0 c.in-Some._range.1 c.in-Some.ensures.found

pub returns-clause-pattern : goal.returns-clause-pattern
returns-clause-pattern c = λ fails.
    let some = c.any_never_empty.ensures.0 (not-false c.any_never_empty.result fails) in
    never_pattern (calls_in c.args.tables.now) c.requires.calls some.0 some.1.0 some.1.1

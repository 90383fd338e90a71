use Rattle.std.proofs.Common.{arith, sym, ◌∙◌}
use Rattle.journal.proofs.Frames.{whole_of_short, knows_not_whole, knows_not_above, knows_not_before, knows_whole}
use Rattle.journal.proofs.frame.tells_kept.Goals.{then-front-place-via-then-front-place, then-front-place-via-else-front-place+then-front-at}
use Rattle.journal.proofs.frame.tells_kept.Goals as goal

pub returns-in_default : goal.returns-in_default
returns-in_default c =
    sym (knows_not_whole c.args.key.now c.args.place c.args.at c.args.bytes.now (whole_of_short c.args.key.now c.args.bytes.now (omega (arith, c.in_default.ensures.short))))

pub returns-then-front-place : goal.returns-then-front-place
returns-then-front-place c = elim c.then-front-place.branch [
  | then-front-place-via-then-front-place w ↦ sym (knows_not_above c.args.key.now c.args.place c.args.at c.args.bytes.now (omega (arith, w.if-front-place.true, c.in-Some.ensures.kept)))
  | then-front-place-via-else-front-place+then-front-at w ↦ sym (knows_not_before c.args.key.now c.args.place c.args.at c.args.bytes.now (omega (arith, w.if-front-at.true, c.in-Some.ensures.kept)))
]

pub returns : goal.returns
returns c =
    knows_whole c.args.key.now c.args.place c.args.at c.args.bytes.now c.is_some.result
    (omega (arith, c.if-front-place.false, c.in-Some.ensures.kept)) (omega (arith, c.if-front-at.false, c.in-Some.ensures.kept)) (c.is_some.ensures ∙ c.whole_frame.ensures.whole)

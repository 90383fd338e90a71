use Rattle.std.proofs.Common.{◌≡◌, ◌<◌, ◌≤◌, ◌∙◌, ℕ, arith, length, sym, slice_get}
use Rattle.workers.proofs.lists.SameRow.{same_list}
use Rattle.workers.proofs.looks.copy_of.Goals as goal

pub returns : goal.returns
returns c =
    let i = c.loop-slot.invariant in
    let copied = c.loop-slot.copied in
    let places = c.args.places.now in
    same_list copied places (i.0 ∙ sym c.type_inv.places)
    (λ k below. i.1 k (omega (arith, below, i.0, c.loop-slot.auto, c.loop-slot-test.false)))

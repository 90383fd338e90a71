use Rattle.std.proofs.Common.{ℕ, ◌≡◌, ◌+◌, List, ◌∷◌, [], ◌++◌, arith, sym, ◌∙◌, subst}
use Rattle.deciding.specs.Table.{calls_by}
use Rattle.deciding.proofs.Listing.{OpensSo, opens_more, opens_same}
use Rattle.deciding.proofs.opens.opens_of.Goals as goal
use Rattle.deciding.proofs.opens.opens_of.Goals.{then-is_open+in_ok-push, else-is_open}

pub loop-place-preserved : goal.loop-place-preserved
loop-place-preserved c = elim c.if-is_open.branch [
  | then-is_open+in_ok-push w ↦
      let same : c.if-is_open.opens.items ≡ c.loop-place.opens.items ++ c.loop-place.place ∷ [] =
      cc (w.opens-is, w.in_ok-push.ensures.items) in
      subst (λ (xs : List ℕ). OpensSo (calls_by c.args.known.now c.args.ends.now) (c.loop-place.place + 1) xs)
      (sym same)
      (opens_more (calls_by c.args.known.now c.args.ends.now) c.loop-place.place c.loop-place.opens.items
      c.loop-place.invariant (omega arith) (sym c.is_open.ensures ∙ w.if-is_open.true))
  | else-is_open w ↦
      let same : c.if-is_open.opens.items ≡ c.loop-place.opens.items = cc (w.opens-is) in
      subst (λ (xs : List ℕ). OpensSo (calls_by c.args.known.now c.args.ends.now) (c.loop-place.place + 1) xs)
      (sym same)
      (opens_same (calls_by c.args.known.now c.args.ends.now) c.loop-place.place c.loop-place.opens.items
      c.loop-place.invariant (sym c.is_open.ensures ∙ w.if-is_open.false))
]

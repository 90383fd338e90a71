use Rattle.std.proofs.Common.{◌≡◌, ℕ, ◌++◌, ◌∷◌, [], subst, arith}
use Rattle.std.specs.List.{insert}
use Rattle.persist.proofs.changes.carry_down.Goals as goal

pub returns : goal.returns
returns c =
    let first : c.loop-place.place ≡ c.args.at = omega (arith, c.loop-place-test.false, c.loop-place.invariant.from) in
    subst (λ (i : ℕ). insert c.loop-place.entries i c.loop-place.carried ≡ c.args.entries.now ++ c.args.entry ∷ []) first c.loop-place.invariant.whole

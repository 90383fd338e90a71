use Rattle.std.proofs.Common.{◌≡◌, ◌+◌, ◌-◌, ◌++◌, ◌∷◌, [], ℕ, suc, replicate, sym, ap, ◌∙◌, arith, append_assoc}
use Rattle.explore.proofs.acts.push_all.Goals as goal

pub loop-preserved : goal.loop-preserved
loop-preserved c =
    let rest : ℕ = c.args.times - (c.loop.counter + 1) in
    let left : c.args.times - c.loop.counter ≡ suc rest = omega (arith, c.loop-test.true) in
    let pushed : c.add.new.acts.items ≡ c.loop.acts.items ++ c.args.act.now ∷ [] = c.in_ok-add.ensures.acts in
    ap (λ l. l ++ replicate rest c.args.act.now) pushed
    ∙ append_assoc c.loop.acts.items (c.args.act.now ∷ []) (replicate rest c.args.act.now)
    ∙ ap (λ n. c.loop.acts.items ++ replicate n c.args.act.now) (sym left) ∙ c.loop.invariant

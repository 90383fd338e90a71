use Rattle.std.proofs.Common.{◌≡◌, ◌+◌, ◌-◌, ℕ, suc, map, sym, ap, ◌∙◌, arith}
use Rattle.std.specs.List.{range_with_len}
use Rattle.protocol.specs.declared.acts.Act.TheVariants.{Evict}
use Rattle.interleave.specs.State.{State, after_acts}
use Rattle.explore.proofs.evictions.evict_all.Goals as goal

pub loop-word-preserved : goal.loop-word-preserved
loop-word-preserved c =
    let rest : ℕ = c.args.words - (c.loop-word.word + 1) in
    let left : c.args.words - c.loop-word.word ≡ suc rest = omega (arith, c.loop-word-test.true) in
    ap (λ (w : State). after_acts w (map Evict (range_with_len (c.loop-word.word + 1) rest))) c.evict.ensures.by_rule.leaves
    ∙ ap (λ n. after_acts c.loop-word.world.now (map Evict (range_with_len c.loop-word.word n))) (sym left)
    ∙ c.loop-word.invariant

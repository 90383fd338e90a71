use Rattle.std.proofs.Common.{◌≡◌, ◌+◌, ◌-◌, ℕ, suc, map, sym, ap, ◌∙◌, arith}
use Rattle.protocol.specs.declared.acts.Act.TheVariants.{Evict}
use Rattle.interleave.specs.State.{State, after_acts}
use Rattle.interleave.specs.Trace.{Roomy}
use Rattle.explore.specs.Points.{drawn_words}
use Rattle.explore.proofs.Draws.{draw_taken, draw_passed}
use Rattle.explore.proofs.evictions.evict_drawn.Goals as goal
use Rattle.explore.proofs.evictions.evict_drawn.Goals.{then-next_word-eq1, else-next_word-eq1}

pub loop-word-preserved : goal.loop-word-preserved
loop-word-preserved c =
    let w : State = c.loop-word.world.now in
    let v : State = c.if-next_word-eq1.world.now in
    let word : ℕ = c.loop-word.word in
    let rest : ℕ = c.args.words - (word + 1) in
    let left : c.args.words - word ≡ suc rest = omega (arith, c.loop-word-test.true) in
    let all = ap (λ n. after_acts w (map Evict (drawn_words n word c.loop-word.draws))) (sym left) ∙ c.loop-word.invariant in
    let bits = ap (λ p. p.0) c.next_word.ensures in
    let next = ap (λ p. p.1) c.next_word.ensures in
    elim c.if-next_word-eq1.branch [
      | then-next_word-eq1 b ↦ draw_taken w v rest word c.next_word.result c.loop-word.draws c.next_word.new.self bits next b.if-next_word-eq1.true
          (ap (λ (r : Roomy). r.now) b.world-is ∙ b.evict.ensures.by_rule.leaves) ∙ all
      | else-next_word-eq1 b ↦ draw_passed w v rest word c.next_word.result c.loop-word.draws c.next_word.new.self bits next b.if-next_word-eq1.false
          (ap (λ (r : Roomy). r.now) b.world-is) ∙ all
    ]

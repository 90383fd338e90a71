use Rattle.std.proofs.Common.{◌≡◌, ◌+◌, ◌-◌, ◌++◌, ℕ, suc, ap, ◌∙◌, arith}
use Rattle.explore.specs.Points.{drawn_words}
use Rattle.explore.proofs.Drawing.{draw_taken, draw_passed}
use Rattle.explore.proofs.evictions.drawn_words.Goals as goal
use Rattle.explore.proofs.evictions.drawn_words.Goals.{then-next_word-eq1+in_ok-push, else-next_word-eq1}

pub loop-word-preserved : goal.loop-word-preserved
loop-word-preserved c =
    let word : ℕ = c.loop-word.word in
    let rest : ℕ = c.args.size - (word + 1) in
    let all = drawn_words c.args.size 0 c.args.draws in
    let so_far = c.loop-word.words.items in
    let left : suc rest ≡ c.args.size - word = omega (arith, c.loop-word-test.true) in
    let before : so_far ++ drawn_words (suc rest) word c.loop-word.draws ≡ all =
    ap (λ n. so_far ++ drawn_words n word c.loop-word.draws) left ∙ c.loop-word.invariant in
    let bits = ap (λ p. p.0) c.next_word.ensures in
    let next = ap (λ p. p.1) c.next_word.ensures in
    elim c.if-next_word-eq1.branch [
      | then-next_word-eq1+in_ok-push b ↦ draw_taken rest word c.next_word.result c.loop-word.draws c.next_word.new.self so_far
          c.if-next_word-eq1.words.items all bits next b.if-next_word-eq1.true (ap (λ v. v.items) b.words-is ∙ b.in_ok-push.ensures.items) before
      | else-next_word-eq1 b ↦ draw_passed rest word c.next_word.result c.loop-word.draws c.next_word.new.self so_far
          c.if-next_word-eq1.words.items all bits next b.if-next_word-eq1.false (ap (λ v. v.items) b.words-is) before
    ]

use Rattle.std.proofs.Common.{◌≡◌, ◌++◌, ◌∷◌, [], ap, ◌∙◌, arith, ◌+◌}
use Rattle.rayon.specs.Shown.{run-append}
use Rattle.std.specs.List.{range_with_len}
use Rattle.explore.proofs.evictions.all_words.Goals as goal

pub loop-word-preserved : goal.loop-word-preserved
loop-word-preserved c =
    let n = c.loop-word.word in
    let from : n ≡ 0 + n = omega arith in
    c.in_ok-push.ensures.items ∙ ap (λ l. l ++ n ∷ []) c.loop-word.invariant
    ∙ ap (λ m. range_with_len 0 n ++ m ∷ []) from ∙ run-append 0 n 1

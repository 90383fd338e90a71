use Rattle.std.proofs.Common.{◌≡◌, ◌+◌, ◌++◌, ◌∷◌, [], ◌<◌, ◌≤◌, ℕ, List, length, slice_index, take, ap, sym, ◌∙◌, arith}
use Rattle.std.proofs.lemmas.List.{take_all, take_more}
use Rattle.broker_script.proofs.imaging.kept_words.Goals as goal

pub loop-word-preserved : goal.loop-word-preserved
loop-word-preserved c =
    let kept = c.args.memory.now.words.kept in
    let word = c.loop-word.word in
    let size = c.size-word-end.ensures in
    let small : word < length kept = omega (arith, c.loop-word-test.true, size) in
    let more : take (word + 1) kept ≡ take word kept ++ slice_index kept word ∷ [] = take_more kept word 0 small in
    c.in_ok-push.ensures.items
    ∙ ap (λ (l : List ℕ). l ++ c.kept.result ∷ []) c.loop-word.invariant
    ∙ ap (λ (n : ℕ). take word kept ++ n ∷ []) c.kept.ensures ∙ sym more

pub returns-clause-words : goal.returns-clause-words
returns-clause-words c =
    let kept = c.args.memory.now.words.kept in
    let word = c.loop-word.word in
    let all : length kept ≤ word = omega (arith, c.loop-word-test.false, c.size-word-end.ensures) in
    c.loop-word.invariant ∙ take_all word kept all

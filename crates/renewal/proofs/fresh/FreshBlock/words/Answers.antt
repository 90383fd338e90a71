use Rattle.std.proofs.Common.{◌<◌, ◌++◌, ◌∷◌, ℕ, List, [], length, take, sym, ap, ◌∙◌, arith}
use Rattle.std.proofs.lemmas.List.{take_all, take_more}
use Rattle.renewal.proofs.fresh.FreshBlock.words.Goals as goal

pub loop-word-preserved : goal.loop-word-preserved
loop-word-preserved c =
    let block : List ℕ = c.args.self.now in
    let word : ℕ = c.loop-word.word in
    let below : word < length block = omega (arith, c.loop-word-test.true, c.size-size.ensures) in
    c.in_ok-push.ensures.items
    ∙ ap (λ (xs : List ℕ). xs ++ c.kept.result ∷ []) c.loop-word.invariant
    ∙ ap (λ (x : ℕ). take word block ++ x ∷ []) c.kept.ensures
    ∙ sym (take_more block word 0 below)

pub returns : goal.returns
returns c =
    c.loop-word.invariant
    ∙ take_all c.loop-word.word c.args.self.now (omega (arith, c.loop-word-test.false, c.size-size.ensures))

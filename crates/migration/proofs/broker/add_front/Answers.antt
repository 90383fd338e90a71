use Rattle.std.proofs.Common.{◌≡◌, ◌++◌, ℕ, List, [], ◌∷◌, take, sym, ap, ◌∙◌, arith}
use Rattle.std.proofs.lemmas.List.{append-nil, append_assoc, take_more}
use Rattle.migration.proofs.broker.add_front.Goals as goal

pub loop-word-init : goal.loop-word-init
loop-word-init c = sym (append-nil _)

pub loop-word-preserved : goal.loop-word-preserved
loop-word-preserved c =
    let old : List ℕ = c.args.words.now.items in
    let ws : List ℕ = c.args.memory.now.words.kept in
    c.in_ok-push.ensures.items ∙ ap (λ (l : List ℕ). l ++ c.kept.result ∷ []) c.loop-word.invariant
    ∙ append_assoc old (take c.loop-word.word ws) (c.kept.result ∷ [])
    ∙ ap (λ (x : ℕ). old ++ (take c.loop-word.word ws ++ x ∷ [])) c.kept.ensures
    ∙ ap (λ (l : List ℕ). old ++ l) (sym (take_more ws c.loop-word.word 0 (omega (arith, c.requires, c.loop-word-test.true))))

pub returns : goal.returns
returns c =
    let last : c.loop-word.word ≡ 34 = omega (arith, c.loop-word-test.false, c.loop-word.auto.word-end) in
    c.loop-word.invariant ∙ ap (λ (n : ℕ). c.args.words.now.items ++ take n c.args.memory.now.words.kept) last

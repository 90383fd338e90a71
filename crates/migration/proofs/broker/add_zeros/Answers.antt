use Rattle.std.proofs.Common.{◌≡◌, ◌++◌, ℕ, List, [], ◌∷◌, replicate, sym, ap, ◌∙◌, arith}
use Rattle.std.proofs.lemmas.List.{append-nil, append_assoc, replicate-append-replicate}
use Rattle.migration.proofs.broker.add_zeros.Goals as goal

pub loop-init : goal.loop-init
loop-init c = sym (append-nil _)

pub loop-preserved : goal.loop-preserved
loop-preserved c =
    let old : List ℕ = c.args.words.now.items in
    c.in_ok-push.ensures.items ∙ ap (λ (l : List ℕ). l ++ 0 ∷ []) c.loop.invariant ∙ append_assoc old (replicate c.loop.counter 0) (0 ∷ [])
    ∙ ap (λ (l : List ℕ). old ++ l) (replicate-append-replicate c.loop.counter 1 0)

pub returns : goal.returns
returns c =
    let last : c.loop.counter ≡ c.args.count = omega (arith, c.loop-test.false, c.loop.auto.counter-end) in
    c.loop.invariant ∙ ap (λ (n : ℕ). c.args.words.now.items ++ replicate n 0) last

use Rattle.std.proofs.Common.{◌≡◌, ◌++◌, ◌+◌, ◌-◌, ℕ, List, [], ◌∷◌, map, slice_index, sym, ap, ◌∙◌, append_assoc, arith}
use Rattle.std.specs.List.{range_with_len}
use Rattle.std.proofs.lemmas.List.FromFn.{map-range_with_len_more}
use Rattle.renewal.proofs.broker.add_front.Goals as goal

pub loop-word-preserved : goal.loop-word-preserved
loop-word-preserved c =
    let f : ℕ → ℕ = slice_index c.args.memory.now.words.kept in
    let word : ℕ = c.loop-word.word in
    let head : List ℕ = c.args.to.now.clients ∷ c.args.to.now.records ∷ [] in
    let old : List ℕ = c.args.words.now.items in
    let so_far : List ℕ = map f (range_with_len 2 (word - 2)) in
    let more : word - 2 + 1 ≡ word + 1 - 2 = omega (arith, c.loop-word.auto.word) in
    let next : map f (range_with_len 2 (word + 1 - 2)) ≡ so_far ++ f word ∷ [] =
    ap (λ (n : ℕ). map f (range_with_len 2 n)) (sym more) ∙ map-range_with_len_more f 2 (word - 2) word (omega (arith, c.loop-word.auto.word)) in
    c.in_ok-push-3.ensures.items ∙ ap (λ (xs : List ℕ). xs ++ c.kept.result ∷ []) c.loop-word.invariant
    ∙ append_assoc old (head ++ so_far) (c.kept.result ∷ [])
    ∙ ap (λ (x : ℕ). old ++ (head ++ so_far ++ x ∷ [])) c.kept.ensures
    ∙ ap (λ (xs : List ℕ). old ++ (head ++ xs)) (sym next)

pub returns-clause-words : goal.returns-clause-words
returns-clause-words c =
    let f : ℕ → ℕ = slice_index c.args.memory.now.words.kept in
    let last : c.loop-word.word - 2 ≡ 32 = omega (arith, c.loop-word-test.false, c.loop-word.auto.word-end) in
    c.loop-word.invariant
    ∙ ap (λ (n : ℕ). c.args.words.now.items ++ ((c.args.to.now.clients ∷ c.args.to.now.records ∷ []) ++ map f (range_with_len 2 n))) last

use Rattle.std.proofs.Common.{◌++◌, ℕ, List, [], ◌∷◌, map, sym, ap, ◌∙◌, append_assoc, arith}
use Rattle.std.specs.List.{range_with_len}
use Rattle.std.proofs.lemmas.List.FromFn.{map-range_with_len_more}
use Rattle.renewal.specs.Roles.{item_record}
use Rattle.renewal.proofs.renewal.Renewal.add_waiting.Goals as goal

pub loop-at-preserved : goal.loop-at-preserved
loop-at-preserved c =
    let f : ℕ → ℕ = item_record c.args.self.now.shape in
    let at : ℕ = c.loop-at.at in
    let old : List ℕ = c.args.nodes.now.items in
    c.in_ok-push.ensures.items ∙ ap (λ (xs : List ℕ). xs ++ c.item_record.result ∷ []) c.loop-at.invariant
    ∙ append_assoc old (map f (range_with_len 0 at)) (c.item_record.result ∷ [])
    ∙ ap (λ (x : ℕ). old ++ (map f (range_with_len 0 at) ++ x ∷ [])) c.item_record.ensures
    ∙ ap (λ (xs : List ℕ). old ++ xs) (sym (map-range_with_len_more f 0 at at (omega arith)))

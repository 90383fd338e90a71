use Rattle.std.proofs.Common.{◌++◌, ℕ, List, [], ◌∷◌, map, filter, if◌then◌else◌, sym, ap, ◌∙◌, append_assoc}
use Rattle.std.specs.List.{range_with_len}
use Rattle.renewal.specs.Renewal.{Renewal}
use Rattle.renewal.specs.Renewed.{has_node}
use Rattle.renewal.specs.Roles.{first_record}
use Rattle.renewal.proofs.Lists.{part_more}
use Rattle.renewal.proofs.renewal.Renewal.add_removed.Goals as goal

pub loop-client-preserved : goal.loop-client-preserved
loop-client-preserved c =
    let r : Renewal = c.args.self.now in
    let t : ℕ = c.loop-client.client in
    let so_far : List ℕ = map (first_record r.shape) (filter (has_node r) (range_with_len 0 t)) in
    let one : List ℕ = if has_node r t then first_record r.shape t ∷ [] else [] in
    c.in_ok-add_node.ensures ∙ ap (λ (xs : List ℕ). xs ++ one) c.loop-client.invariant ∙ append_assoc c.args.nodes.now.items so_far one
    ∙ ap (λ (xs : List ℕ). c.args.nodes.now.items ++ xs) (sym (part_more (first_record r.shape) (has_node r) t))

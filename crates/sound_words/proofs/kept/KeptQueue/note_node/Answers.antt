use Rattle.std.proofs.Common.{ℕ, ◌<◌, ◌/◌, ◌-◌, length, sym, ap, ◌∙◌, arith}
use Rattle.sound_words.proofs.Looked.{owner_of_client, node_noted, node_passed}
use Rattle.sound_words.proofs.kept.KeptQueue.note_node.Goals as goal

pub returns-then-announced-node : goal.returns-then-announced-node
returns-then-announced-node g c =
    let owns = ap (λ (r : ℕ). (c.args.node - 1) / r) c.records.ensures.value in
    let names = sym c.kept_at-announced.ensures.value ∙ c.if-announced-node.true in
    let below = owner_of_client c.args.self.now.shape c.args.node _ c.requires.node c.records.ensures.value in
    let within : (c.args.node - 1) / c.records.result < length c.args.on_chain.now = grind (arith, below, c.records.ensures.counts.few_clients) in
    node_noted _ _ c.requires.sound c.args.on_chain.now c.args.node _ within owns names

pub returns-else-announced-node : goal.returns-else-announced-node
returns-else-announced-node g c =
    let owns = ap (λ (r : ℕ). (c.args.node - 1) / r) c.records.ensures.value in
    node_passed _ _ c.requires.sound c.args.on_chain.now c.args.node _ owns (λ e. c.if-announced-node.false (c.kept_at-announced.ensures.value ∙ e))

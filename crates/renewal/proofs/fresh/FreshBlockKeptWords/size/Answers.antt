use Rattle.std.proofs.Common.{ℕ, List, length, sym, ap, ap₂, ◌∙◌}
use Rattle.arena.specs.Broker.{block_size_of}
use Rattle.renewal.specs.Renewal.{Renewal}
use Rattle.renewal.proofs.Words.{block_length}
use Rattle.renewal.proofs.fresh.FreshBlockKeptWords.size.Goals as goal

pub returns : goal.returns
returns c =
    let r : Renewal = record { shape = c.self.inside.layout; content = c.self.inside.content.items; tells = c.self.inside.tells } in
    c.block_size.ensures.value ∙ ap₂ block_size_of c.clients.ensures.value c.records.ensures.value ∙ sym (block_length r)
    ∙ ap (λ (words : List ℕ). length words) c.self.view_is

use Rattle.std.proofs.Common.{◌<◌, Some, slice_get, length, ap, sym, ◌∙◌, arith}
use Rattle.findings.specs.Facts.{Known, event_at}
use Rattle.findings.proofs.Placing.{length_kept, at_kept}
use Rattle.findings.proofs.facts.Facts.at.Goals as goal

pub index-requires : goal.index-requires
index-requires c = omega (
  arith,
  c.requires,
  ap (λ (known : Known). length known.events) c.self.view_is,
  length_kept (λ n. n.fact) c.self.inside.noted.items,
)

pub returns : goal.returns
returns c =
    let lt : c.args.place < length c.self.inside.noted.items =
    omega (
      arith,
      c.requires,
      ap (λ (known : Known). length known.events) c.self.view_is,
      length_kept (λ n. n.fact) c.self.inside.noted.items,
    ) in
    ap (λ (known : Known). slice_get known.events c.args.place) (sym c.self.view_is)
    ∙ at_kept (λ n. n.fact) c.self.inside.noted.items c.args.place c.index.result.now lt
    ∙ ap (λ n. Some (event_at c.args.place n.fact)) (sym c.index.ensures)

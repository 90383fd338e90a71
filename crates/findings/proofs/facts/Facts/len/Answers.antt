use Rattle.std.proofs.Common.{length, ap, arith}
use Rattle.findings.specs.Facts.{Known}
use Rattle.findings.proofs.Placing.{length_kept}
use Rattle.findings.proofs.facts.Facts.len.Goals as goal

pub returns-clause-events : goal.returns-clause-events
returns-clause-events c = omega (
  arith,
  c.len.ensures,
  length_kept (λ n. n.fact) c.self.inside.noted.items,
  ap (λ (known : Known). length known.events) c.self.view_is,
)

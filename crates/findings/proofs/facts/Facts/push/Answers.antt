use Rattle.std.proofs.Common.{◌++◌, ◌∷◌, [], length, map, ap, ◌∙◌}
use Rattle.findings.specs.Facts.{Known, event_at, events_from}
use Rattle.findings.proofs.Placing.{push_kept}
use Rattle.findings.proofs.facts.Facts.push.Goals as goal

pub returns-clause-events : goal.returns-clause-events
returns-clause-events c =
    ap (λ noted. events_from 0 (map (λ n. n.fact) noted)) c.in_ok-push.ensures.items
    ∙ push_kept (λ n. n.fact) c.self.inside.noted.items (record { fact = c.args.fact; learnt = c.args.learnt })
    ∙ ap (λ (known : Known). known.events ++ event_at (length known.events) c.args.fact ∷ []) c.self.view_is

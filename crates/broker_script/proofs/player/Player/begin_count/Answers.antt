use Rattle.std.proofs.Common.{ap, ◌∙◌}
use Rattle.std.specs.Prelude.{slice_get, slice_set}
use Rattle.broker_script.specs.Play.{Played}
use Rattle.broker_script.proofs.Acted.{set_beside}
use Rattle.broker_script.proofs.player.Player.begin_count.Goals as goal

pub returns-clause-others : goal.returns-clause-others
returns-clause-others c other apart =
    set_beside c.self.inside.steps c.args.slot.0 c.begin.new.self other apart
    ∙ ap (λ (p : Played). slice_get p.steps other) c.self.view_is

pub returns-clause-same : goal.returns-clause-same
returns-clause-same c =
    ap (λ (p : Played). record p { steps = slice_set c.self.inside.steps c.args.slot.0 c.begin.new.self }) c.self.view_is

use Rattle.std.proofs.Common.{◌∙◌}
use Rattle.directory.proofs.Kept.{queue_of-same}
use Rattle.directory.proofs.soundness.queue_in.Goals as goal

pub returns : goal.returns
returns g c = c.queue_of.ensures ∙ queue_of-same _ _ _ _ _ _ c.kept_at-first.ensures c.kept_at-second.ensures c.kept_at-kind.ensures

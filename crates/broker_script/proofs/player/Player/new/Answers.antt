use Rattle.session.proofs.Facts.{uncalled_new}
use Rattle.broker_script.proofs.player.Player.new.Goals as goal

pub open-requires : goal.open-requires
open-requires c = uncalled_new _ _ c.in_ok-broker.ensures.made

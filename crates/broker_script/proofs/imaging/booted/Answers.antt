use Rattle.session.proofs.Facts.{uncalled_booted}
use Rattle.broker_script.proofs.imaging.booted.Goals as goal

pub open-requires : goal.open-requires
open-requires c = uncalled_booted _ _ c.in_ok-broker.ensures.promises.well c.in_ok-broker.ensures.booted

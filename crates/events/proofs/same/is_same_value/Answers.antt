use Rattle.events.proofs.Items.{items_equal}
use Rattle.events.proofs.same.is_same_value.Goals as goal

pub returns : goal.returns
returns c = items_equal _ _ _ c.eq.ensures

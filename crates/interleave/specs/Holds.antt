-- What holds of a world at every moment.
use Rattle.std.specs.Prelude.{◌≡◌}
use Rattle.events.specs.Explains.{Explains}
use Rattle.events.specs.History.{IsHistory}
use Rattle.events.specs.Replay.{queue_after}
use Rattle.protocol.specs.Machine.{World}
use Rattle.protocol.specs.invariants.Worlds.{Inv}
use Rattle.interleave.specs.Floors.{AreFloorsRight}
use Rattle.interleave.specs.Numbers.{AreNumbersOnce, AreNumbersRising}
use Rattle.interleave.specs.Ranges.{IsSafe, IsOfKind}
use Rattle.interleave.specs.Reuse.{AreAccountedFor}
use Rattle.interleave.specs.State.{State, machine, order_in, kept_content}

-- the machine keeps its invariants
pub Invariant : World → Type 0
Invariant w = Inv w

pub from_invariant : (w : World) → Invariant w → Inv w
unfolding Invariant
from_invariant w keeps = keeps

pub to_invariant : (w : World) → Inv w → Invariant w
unfolding Invariant
to_invariant w inv = inv

-- its words and waiting points are in range, its queue is of the layout's kind, the machine that it is keeps its
-- invariants, the numbers of a log queue's calls rise and its floors fit them, and each record that a call took is
-- accounted for
pub record Holds (w : State) : Type 0 where
  pub safe : IsSafe w.shape w.words w.calls
  pub kind : IsOfKind w.shape.kind w.queue
  pub inv : Invariant (machine w)
  pub numbers : AreNumbersRising w
  pub floors : AreFloorsRight w
  pub records : AreAccountedFor (machine w)

-- the history may arise, the order explains it, the kept words hold what the replay of the order leaves, and no number
-- of a log queue's call stands twice in the order
pub record IsExplained (w : State) : Type 0 where
  pub history : IsHistory w.log.events
  pub explains : Explains w.base w.told w.log.events (order_in w)
  pub agrees : kept_content w ≡ queue_after w.log.events w.base (order_in w)
  pub numbers : AreNumbersOnce w

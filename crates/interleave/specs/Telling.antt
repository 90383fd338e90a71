-- What the clients of a queue are told once its recovery is at its end.
use Rattle.std.specs.Prelude.{◌≡◌}
use Rattle.interleave.specs.Numbers.{AreWithinFloors}
use Rattle.interleave.specs.Queue.{told_in}
use Rattle.interleave.specs.Standing.{IsToldForGood, UnannouncedAreOut}
use Rattle.interleave.specs.State.{State, AreToldOfAnnounced, IsMended, kept_tells, order_in}
use Rattle.interleave.specs.Turn.{NobodyCalls}

-- a queue whose recovery has just ended: each client was told what the kept words tell, which is right of the call that
-- it had announced, and stands for good; an unannounced call that a crash cut off has taken no effect, and never will;
-- nobody calls, the floors are right, and what the crash left half done is mended
pub record IsToldAtReady (w : State) : Type 0 where
  pub told : told_in w.queue ≡ kept_tells w
  pub announced : AreToldOfAnnounced w
  pub unannounced : UnannouncedAreOut (order_in w) w
  pub stands : IsToldForGood w
  pub nobody : NobodyCalls w
  pub floors : AreWithinFloors w
  pub mended : IsMended w

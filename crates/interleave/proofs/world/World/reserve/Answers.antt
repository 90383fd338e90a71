use Rattle.interleave.proofs.machine.Invariants.{room_held}
use Rattle.interleave.proofs.world.World.reserve.Goals as goal

pub reserve-requires : goal.reserve-requires
reserve-requires c = room_held c.self.invariant.world

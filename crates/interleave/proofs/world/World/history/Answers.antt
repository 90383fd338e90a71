use Rattle.std.proofs.Common.{subst, ap}
use Rattle.interleave.specs.Holds.{Holds, IsExplained}
use Rattle.interleave.specs.Core.{state_of}
use Rattle.interleave.specs.State.{State}
use Rattle.interleave.specs.Trace.{Roomy}
use Rattle.interleave.proofs.machine.Holding.{explained_world}
use Rattle.interleave.proofs.world.World.history.Goals as goal

pub returns-clause-explained : goal.returns-clause-explained
returns-clause-explained c =
    let old : State = state_of c.self.inside.core c.self.inside.memory.words in
    subst IsExplained (ap (λ (r : Roomy). r.now) c.self.view_is) (explained_world old c.self.invariant.world)

pub returns-clause-holds : goal.returns-clause-holds
returns-clause-holds c =
    subst Holds (ap (λ (r : Roomy). r.now) c.self.view_is) c.self.invariant.world

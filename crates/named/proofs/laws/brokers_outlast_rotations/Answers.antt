use Rattle.named.proofs.acts.Comings.{came_further, came_of_itself, came_over_rotation, came_unrotated, queues_came}
use Rattle.named.proofs.laws.brokers_outlast_rotations.Goals as goal

pub returns-clause-none : goal.returns-clause-none
returns-clause-none c = came_of_itself

pub returns-clause-more : goal.returns-clause-more
returns-clause-more c = λ first now new was. came_further first was now new

pub returns-clause-rotation : goal.returns-clause-rotation
returns-clause-rotation c = λ first now new was. came_over_rotation first was now new

pub returns-clause-unrotated : goal.returns-clause-unrotated
returns-clause-unrotated c = came_unrotated

pub returns-clause-queues : goal.returns-clause-queues
returns-clause-queues c = λ first now was. queues_came first was now

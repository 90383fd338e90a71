use Rattle.std.proofs.Common.{subst}
use Rattle.desk.specs.Serving.{Desked, IsDesked}
use Rattle.desk.proofs.marking.MarkingDesk.has_told.Goals as goal

pub returns-clause-turn : goal.returns-clause-turn
returns-clause-turn g c =
    (subst (λ (d : Desked). IsDesked g.J.Naming.clients g.J.Naming.first d) c.self.view_is c.self.invariant).turn

pub returns-clause-lasting : goal.returns-clause-lasting
returns-clause-lasting g c =
    (subst (λ (d : Desked). IsDesked g.J.Naming.clients g.J.Naming.first d) c.self.view_is c.self.invariant).lasting

pub returns-clause-known : goal.returns-clause-known
returns-clause-known g c =
    (subst (λ (d : Desked). IsDesked g.J.Naming.clients g.J.Naming.first d) c.self.view_is c.self.invariant).known

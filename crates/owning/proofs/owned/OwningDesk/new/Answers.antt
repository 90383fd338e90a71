use Rattle.owning.proofs.Leading.{owned_first}
use Rattle.owning.proofs.owned.OwningDesk.new.Goals as goal

pub invariant_of-result : goal.invariant_of-result
invariant_of-result g c =
    owned_first g.J.Beginning.first c.args.session c.in_ok-served.served c.requires.name c.in_ok-served.ensures
    c.requires.promises

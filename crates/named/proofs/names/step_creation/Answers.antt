use Rattle.std.proofs.Common.{rules, ◌≡◌}
use Rattle.persist.specs.Lent.{port_lent}
use Rattle.persist.specs.Memory.{MemoryState, asked_through}
use Rattle.directory.specs.Creation.{access_of}
use Rattle.named.specs.declared.broker.TheConstants.{CREATION_PORT}
use Rattle.named.proofs.acts.Requests.{one_lender, others_left}
use Rattle.named.proofs.names.step_creation.Goals as goal

pub returns-clause-others : goal.returns-clause-others
returns-clause-others c = λ port ne.
    let p = c.in-Ok.port in
    let v = c.step.new.memory in
    let old : MemoryState = c.args.memory.now in
    let new : MemoryState = v.memory.now in
    let name : v.memory.ghost_name ≡ p.memory.ghost_name = one_lender c.args.layout.now (access_of c.args.creation) (port_lent p) (port_lent v) c.step.ensures.lent in
    let fact : asked_through new port ≡ asked_through old port =
    others_left c.args.layout.now (access_of c.args.creation) _ CREATION_PORT v.memory.ghost_name v.port old new (port_lent p) c.in-Ok.ensures.lent c.step.ensures.lent port ne in
    search rules

use Rattle.std.proofs.Common.{Result, subst, Ok, Err}
use Rattle.words.specs.declared.refusal.Refusal.{Refusal}
use Rattle.words.specs.declared.told.Told.{Told}
use Rattle.desk.specs.Answering.{IsToldOf}
use Rattle.desk.proofs.Calling.{told_on_wire}
use Rattle.desk.proofs.counter.Counter.tell.Goals as goal

pub returns-in-Ok-clause-is : goal.returns-in-Ok-clause-is
returns-in-Ok-clause-is g c =
    let now = c.told-marked.result.0.broker in
    told_on_wire g.J.Naming.clients now c.args.number c.args.queue (Ok c.in-Ok.told)
    (subst (λ (r : Result Told Refusal). IsToldOf g.J.Naming.clients now c.args.number c.args.queue r) c.in-Ok.is
    c.told-marked.ensures.is)

pub returns-in-Err-clause-is : goal.returns-in-Err-clause-is
returns-in-Err-clause-is g c =
    let now = c.told-marked.result.0.broker in
    told_on_wire g.J.Naming.clients now c.args.number c.args.queue (Err c.in-Err.refusal)
    (subst (λ (r : Result Told Refusal). IsToldOf g.J.Naming.clients now c.args.number c.args.queue r) c.in-Err.is
    c.told-marked.ensures.is)

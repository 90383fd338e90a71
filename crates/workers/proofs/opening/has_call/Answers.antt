use Rattle.std.proofs.Common.{◌∙◌, sym, ap, Ok, inr, subst}
use Rattle.words.specs.declared.call.Client.{Client}
use Rattle.named.specs.Brokers.{Brokered}
use Rattle.workers.specs.Opening.{IsCalling}
use Rattle.workers.proofs.opening.has_call.Goals as goal

pub returns-in-Ok-Some-clause-busy : goal.returns-in-Ok-Some-clause-busy
returns-in-Ok-Some-clause-busy c _ =
    let slot = c.args.queue.0 in
    let client : Client = record { 0 = c.loop-client.client } in
    let number = c.in-Ok-Some.field-0-0 in
    let calling = sym c.calling.ensures ∙ (c.in-Ok-Some.is ∙ ap Ok c.in-Ok-Some.field-0-is) in
    let looked = c.broker-in-loop-client.ensures.broker in
    inr (record {
      slot = slot;
      client = client;
      number = number;
      calling = subst (λ (b : Brokered). IsCalling b slot client number) looked calling;
    })

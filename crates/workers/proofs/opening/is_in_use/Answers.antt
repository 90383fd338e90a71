use Rattle.std.proofs.Common.{◌∙◌, sym, ap, arith}
use Rattle.named.specs.Brokers.{is_creating}
use Rattle.workers.proofs.guard.Idleness.{calls_within}
use Rattle.workers.proofs.opening.is_in_use.Goals as goal

pub returns-clause-idle : goal.returns-clause-idle
returns-clause-idle c _ =
    let looked = c.broker.ensures.broker in
    let b = c.args.session.now.broker in
    let well = c.broker.ensures.promises.broker.well in
    let counted = c.loop-slot.auto.slot-end in
    record {
      creating = sym (ap is_creating looked) ∙ (sym c.is_creating.ensures ∙ c.if-is_creating.false);
      calls = λ slot client number calling.
          let within = calls_within b slot client number well calling in
          c.loop-slot.invariant slot (omega (arith, within, c.loop-slot-test.false, counted)) client number calling;
    }

use Rattle.std.proofs.Common.{◌<◌, ◌∙◌, Bool, Result, ap, subst, true≢false, sym}
use Rattle.std.specs.Prelude.{IfOk}
use Rattle.named.specs.Lasting.{steps_left}
use Rattle.workers.proofs.guard.Notes.{promised_on}
use Rattle.words.specs.declared.refusal.Refusal.{Refusal}
use Rattle.named.proofs.Facts.{broker_goes_further, broker_stays}
use Rattle.workers.specs.Recovered.{is_ready_after}
use Rattle.workers.proofs.locked.Locked.recover_all.Goals as goal

pub loop-ready-init : goal.loop-ready-init
loop-ready-init g c = record {
  goes_on = broker_stays c.args.self.now.session.broker;
  room = c.requires.room;
  promised = c.requires.promised;
  over = λ is. absurd (true≢false (sym is));
}

pub loop-ready-preserved : goal.loop-ready-preserved
loop-ready-preserved g c =
    let step = c.recover_promised.ensures in
    let i = c.loop-ready.invariant in
    record {
      goes_on = broker_goes_further c.args.self.now.session.broker c.loop-ready.self.session.broker
          c.recover_promised.new.self.session.broker i.goes_on step.goes_on;
      room = step.room i.room;
      promised = promised_on c.loop-ready.self.promised c.recover_promised.new.self.promised
          (steps_left c.loop-ready.self.session.broker) (steps_left c.recover_promised.new.self.session.broker) i.promised
          step.less
          (subst (λ (r : Result Bool Refusal). IfOk r (λ ready. steps_left c.recover_promised.new.self.session.broker
          < steps_left c.loop-ready.self.session.broker)) c.in-Ok.is step.falls);
      over = λ is. step.ready (ap is_ready_after c.in-Ok.is ∙ is);
    }

use Rattle.std.proofs.Common.{◌≡◌, ◌-◌, subst, arith}
use Rattle.std.specs.Prelude.{Option, Some, None, Ok}
use Rattle.arena.specs.declared.broker.SlotId.{SlotId}
use Rattle.broker_script.specs.Creating.{IsCreatedOn}
use Rattle.broker_script.proofs.Going.{leads_none, leads_more, leads_opened, leads_refused, leads_out}
use Rattle.broker_script.proofs.player.Player.go_on_creating.Goals as goal

pub loop-init : goal.loop-init
loop-init c = leads_none c.args.most c.args.self.now

pub returns-in-Err : goal.returns-in-Err
returns-in-Err c = record {
  creates =
      leads_refused c.args.most c.loop.counter c.args.self.now c.loop.self c.create_step.new.self c.in-Err.refusal c.fill.result.items
      c.loop-test.true c.in-Err.ensures.step c.fill.ensures c.loop.invariant;
}

pub returns-in-Ok-Some : goal.returns-in-Ok-Some
returns-in-Ok-Some c =
    let step : IsCreatedOn c.loop.self (Ok (Some c.in-Ok-Some.slot)) c.create_step.new.self =
    subst (λ (o : Option SlotId). IsCreatedOn c.loop.self (Ok o) c.create_step.new.self) c.in-Ok-Some.field-0-is c.in-Ok-Some.ensures.step in
    let shown = c.show_created.ensures.line in
    record {
      creates = leads_opened c.args.most c.loop.counter c.args.self.now c.loop.self c.create_step.new.self c.in-Ok-Some.slot shown.0
          c.show_created.result.items c.loop-test.true step shown.1 shown.2 c.loop.invariant;
    }

pub loop-preserved : goal.loop-preserved
loop-preserved c =
    let step : IsCreatedOn c.loop.self (Ok None) c.create_step.new.self =
    subst (λ (o : Option SlotId). IsCreatedOn c.loop.self (Ok o) c.create_step.new.self) c.in-Ok-None.field-0-is c.in-Ok-None.ensures.step in
    leads_more c.args.most c.loop.counter c.args.self.now c.loop.self c.create_step.new.self c.loop-test.true step c.loop.invariant

pub returns : goal.returns
returns c =
    let out : c.args.most - c.loop.counter ≡ 0 = omega arith in
    record {
      creates = leads_out c.args.most c.loop.counter c.args.self.now c.loop.self c.fill-2.result.items out c.fill-2.ensures c.loop.invariant;
    }

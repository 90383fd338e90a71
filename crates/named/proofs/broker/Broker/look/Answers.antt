use Rattle.std.proofs.Common.{◌≡◌, ℕ, Option, Ok, Result, sym, ap, ◌∙◌}
use Rattle.words.specs.declared.call.Kind.{Kind}
use Rattle.words.specs.declared.refusal.Refusal.{Refusal}
use Rattle.interleave.specs.State.{State}
use Rattle.named.specs.Blocks.{state_in}
use Rattle.named.specs.Brokers.{admission, answer_if, world_at}
use Rattle.named.specs.Looking.{look_at}
use Rattle.named.specs.Slots.{answered}
use Rattle.named.specs.declared.looks.Look.{Look}
use Rattle.named.proofs.acts.Looks.{by_admitted, not_admitted, unanswered}
use Rattle.named.proofs.acts.Refused.{not_done, passed_on}
use Rattle.named.proofs.promises.Promises.{promises_kept, promises_well}
use Rattle.named.proofs.broker.Broker.look.Goals as goal

abbrev found : Look → Result Look Refusal
found look = Ok look

abbrev look_with : Kind → Option ℕ → Look
look_with kind calling = record { kind = kind; calling = calling }

pub returns-in_err-admit-clause-promises : goal.returns-in_err-admit-clause-promises
returns-in_err-admit-clause-promises c = promises_kept _ _ c.self.invariant.well c.self.view_is

pub returns-clause-look : goal.returns-clause-look
returns-clause-look c =
    let admitted : admission c.args.self.now c.args.client ≡ Ok tt = sym c.admit.ensures ∙ c.in_ok-admit.was in
    let there : State = state_in c.args.self.now.words c.in_ok-queue.queue.now in
    let looked = λ (w : State). found (look_at c.args.client w) in
    let is : look_with c.kind.result c.calling.result ≡ look_at c.args.client there =
    ap (λ (kind : Kind). look_with kind c.calling.result) c.kind.ensures
    ∙ ap (look_with there.shape.kind) (c.calling.ensures c.args.self.now.words) in
    ap found is ∙ ap (answered looked) (sym c.in_ok-queue.ensures.world)
    ∙ sym (ap (λ (r : Result Unit Refusal). answer_if r (answered looked (world_at c.args.self.now c.args.slot.0))) admitted)

pub returns-in_err-admit-clause-look : goal.returns-in_err-admit-clause-look
returns-in_err-admit-clause-look c =
    not_admitted (λ (w : State). found (look_at c.args.client w)) c.args.self.now c.args.slot.0 c.args.client c.from_residual.result c.in_err-admit.field-0.0 c.in_err-admit.ensures
    (passed_on c.from_residual.result c.in_err-admit.field-0.0 c.from_residual.ensures)

pub returns-in_err-admit-clause-open : goal.returns-in_err-admit-clause-open
returns-in_err-admit-clause-open c = not_done _ c.from_residual.result c.in_err-admit.field-0.0 c.from_residual.ensures

pub returns-in_err-queue-clause-look : goal.returns-in_err-queue-clause-look
returns-in_err-queue-clause-look c =
    by_admitted (λ (w : State). found (look_at c.args.client w)) c.args.self.now c.args.slot.0 c.args.client c.from_residual-in_err-queue.result (sym c.admit.ensures ∙ c.in_ok-admit.was)
    (unanswered (λ (w : State). found (look_at c.args.client w)) c.args.self.now c.args.slot.0 c.args.client c.from_residual-in_err-queue.result c.in_err-queue.field-0.0 c.in_err-queue.ensures.errors (passed_on c.from_residual-in_err-queue.result c.in_err-queue.field-0.0 c.from_residual-in_err-queue.ensures))

pub returns-in_err-queue-clause-open : goal.returns-in_err-queue-clause-open
returns-in_err-queue-clause-open c = not_done _ c.from_residual-in_err-queue.result c.in_err-queue.field-0.0 c.from_residual-in_err-queue.ensures

pub returns-in_err-queue-clause-promises : goal.returns-in_err-queue-clause-promises
returns-in_err-queue-clause-promises c = promises_well _ c.in_err-queue.ensures.whole

pub returns-clause-open : goal.returns-clause-open
returns-clause-open c = record {
  world = state_in c.args.self.now.words c.in_ok-queue.queue.now;
  here = c.in_ok-queue.ensures.world;
  admitted = sym c.admit.ensures ∙ c.in_ok-admit.was;
}

pub returns-clause-promises : goal.returns-clause-promises
returns-clause-promises c = promises_well _ c.in_ok-queue.ensures.whole

use Rattle.std.proofs.Common.{Ok, Result, sym, ap, ◌∙◌}
use Rattle.words.specs.declared.call.Client.{Client}
use Rattle.words.specs.declared.refusal.Refusal.{Refusal}
use Rattle.words.specs.declared.told.Told.{Told}
use Rattle.interleave.specs.Queue.{told_in, told_to}
use Rattle.interleave.specs.State.{State}
use Rattle.named.specs.Blocks.{state_in}
use Rattle.named.proofs.acts.Looks.{by_admitted, by_world, not_admitted, unanswered}
use Rattle.named.proofs.acts.Refused.{passed_on}
use Rattle.named.proofs.promises.Promises.{promises_kept, promises_well}
use Rattle.named.proofs.broker.Broker.told.Goals as goal

abbrev told_answer : State → Client → Result Told Refusal
told_answer w client = Ok (told_to (told_in w.queue) client)

pub returns-in_err-admit-clause-promises : goal.returns-in_err-admit-clause-promises
returns-in_err-admit-clause-promises c = promises_kept _ _ c.self.invariant.well c.self.view_is

pub returns-in_err-admit-clause-told : goal.returns-in_err-admit-clause-told
returns-in_err-admit-clause-told c =
    not_admitted (λ (w : State). told_answer w c.args.client) c.args.self.now c.args.slot.0 c.args.client c.from_residual.result c.in_err-admit.field-0.0 c.in_err-admit.ensures
    (passed_on c.from_residual.result c.in_err-admit.field-0.0 c.from_residual.ensures)

pub returns-in_err-queue-clause-told : goal.returns-in_err-queue-clause-told
returns-in_err-queue-clause-told c =
    by_admitted (λ (w : State). told_answer w c.args.client) c.args.self.now c.args.slot.0 c.args.client c.from_residual-in_err-queue.result (sym c.admit.ensures ∙ c.in_ok-admit.was)
    (unanswered (λ (w : State). told_answer w c.args.client) c.args.self.now c.args.slot.0 c.args.client c.from_residual-in_err-queue.result c.in_err-queue.field-0.0 c.in_err-queue.ensures.errors (passed_on c.from_residual-in_err-queue.result c.in_err-queue.field-0.0 c.from_residual-in_err-queue.ensures))

pub returns-in_err-queue-clause-promises : goal.returns-in_err-queue-clause-promises
returns-in_err-queue-clause-promises c = promises_well _ c.in_err-queue.ensures.whole

pub returns-clause-promises : goal.returns-clause-promises
returns-clause-promises c = promises_well _ c.in_ok-queue.ensures.whole

pub returns-clause-told : goal.returns-clause-told
returns-clause-told c =
    let there : State = state_in c.args.self.now.words c.in_ok-queue.field-0.now in
    by_admitted (λ (w : State). told_answer w c.args.client) c.args.self.now c.args.slot.0 c.args.client _ (sym c.admit.ensures ∙ c.in_ok-admit.was)
    (by_world (λ (w : State). told_answer w c.args.client) c.args.self.now c.args.slot.0 c.args.client _ there c.in_ok-queue.ensures.world (ap (λ (x : Told). let r : Result Told Refusal = Ok x in r) c.told.ensures))

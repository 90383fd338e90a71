use Rattle.std.proofs.Common.{Ok, Err, Result, sym, ap, ◌∙◌}
use Rattle.words.specs.declared.call.Kind.{Kind}
use Rattle.words.specs.declared.refusal.Refusal.{Refusal}
use Rattle.interleave.specs.State.{State}
use Rattle.named.specs.Slots.{answered}
use Rattle.named.proofs.acts.Refused.{passed_on}
use Rattle.named.proofs.promises.Promises.{promises_well}
use Rattle.named.proofs.broker.Broker.kind.Goals as goal

abbrev kind_answer : State → Result Kind Refusal
kind_answer w = Ok w.shape.kind

pub returns-in_err-queue-clause-kind : goal.returns-in_err-queue-clause-kind
returns-in_err-queue-clause-kind c =
    passed_on c.from_residual.result c.in_err-queue.field-0.0 c.from_residual.ensures ∙ ap (λ (e : Refusal). let r : Result Kind Refusal = Err e in r) c.in_err-queue.ensures.errors.0 ∙ sym (ap (answered kind_answer) c.in_err-queue.ensures.errors.1)

pub returns-in_err-queue-clause-promises : goal.returns-in_err-queue-clause-promises
returns-in_err-queue-clause-promises c = promises_well _ c.in_err-queue.ensures.whole

pub returns-clause-promises : goal.returns-clause-promises
returns-clause-promises c = promises_well _ c.in_ok-queue.ensures.whole

pub returns-clause-kind : goal.returns-clause-kind
returns-clause-kind c = ap (λ (x : Kind). let r : Result Kind Refusal = Ok x in r) c.kind.ensures ∙ sym (ap (answered kind_answer) c.in_ok-queue.ensures.world)

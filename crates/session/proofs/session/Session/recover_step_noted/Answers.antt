use Rattle.std.proofs.Common.{◌≡◌, ◌≤◌, ◌<◌, ◌+◌, Bool, true, false, None, Result, Ok, Err, ap, sym, subst, ◌∙◌}
use Rattle.std.proofs.lemmas.Bool.{false≢true}
use Rattle.words.specs.declared.refusal.Refusal.{Refusal}
use Rattle.persist.specs.Noted.{IsNoted, answer_in}
use Rattle.interleave.specs.Calls.{is_no_memory}
use Rattle.named.specs.Brokers.{room_at}
use Rattle.named.specs.Stopping.{HasFullQueue}
use Rattle.named.specs.Telling.{TellAtReady}
use Rattle.session.specs.Acts.{IsNextRecoveryStep}
use Rattle.named.specs.Lasting.{most_kept, steps_left}
use Rattle.session.specs.SessionView.{session_view}
use Rattle.session.specs.Keeping.{SessionGoesOn}
use Rattle.session.specs.Sessions.{Sessioned}
use Rattle.session.proofs.answers.RecoverySteps.{ready_goes_on, right_ready, right_unready, unready_goes_on}
use Rattle.session.proofs.answers.Promises.{numbers_kept}
use Rattle.session.proofs.calls.Queues.{downtime_on}
use Rattle.session.proofs.calls.Refusing.{answered_so, answers_none, answers_this, left, noted_as, nothing}
use Rattle.session.proofs.session.Session.recover_step_noted.Goals as goal

-- the step is refused
pub invariant_of-self : goal.invariant_of-self
invariant_of-self c =
    let s : Sessioned = session_view c.self.inside in
    right_unready s c.recover_step_noted.new.self (answer_in c.recover_step_noted.result) c.self.invariant c.recover_step_noted.ensures.promises.well
    c.recover_step_noted.ensures.step (λ ready. absurd (answers_none c.recover_step_noted.result c.in_err-ready.field-0.0 true c.in_err-ready.was ready))

pub returns-in_err-ready-clause-few : goal.returns-in_err-ready-clause-few
returns-in_err-ready-clause-few c =
    subst (λ (x : Sessioned). steps_left x.broker ≤ 32 + most_kept x.broker) c.self.view_is c.recover_step_noted.ensures.few

pub returns-in_err-ready-clause-goes_on : goal.returns-in_err-ready-clause-goes_on
returns-in_err-ready-clause-goes_on c =
    let s : Sessioned = session_view c.self.inside in
    let new : Sessioned = record s { broker = c.recover_step_noted.new.self } in
    subst (λ (x : Sessioned). SessionGoesOn x new) c.self.view_is
    (unready_goes_on s c.recover_step_noted.new.self (answer_in c.recover_step_noted.result) c.self.invariant
    c.recover_step_noted.ensures.promises.well c.recover_step_noted.ensures.step)

pub returns-in_err-ready-clause-promises : goal.returns-in_err-ready-clause-promises
returns-in_err-ready-clause-promises c = numbers_kept _ (invariant_of-self c)

-- the broker is ready by it
pub invariant_of-self-then-ready : goal.invariant_of-self-then-ready
invariant_of-self-then-ready c =
    let s : Sessioned = session_view c.self.inside in
    let ready : (answer_in c.recover_step_noted.result) ≡ Ok true =
    ap (answer_in {T = Bool}) c.in_ok-ready.was ∙ ap (λ (x : Bool). let r : Result Bool Refusal = Ok x in r) c.if-ready.true in
    right_ready s c.recover_step_noted.new.self (answer_in c.recover_step_noted.result) c.self.invariant c.recover_step_noted.ensures.promises.well
    c.recover_step_noted.ensures.step ready c.told-self-inside.result c.told-self-inside.ensures.heard
    c.told-self-inside.ensures.heard.no_client

pub returns-then-ready-clause-few : goal.returns-then-ready-clause-few
returns-then-ready-clause-few c =
    subst (λ (x : Sessioned). steps_left x.broker ≤ 32 + most_kept x.broker) c.self.view_is c.recover_step_noted.ensures.few

pub returns-then-ready-clause-goes_on : goal.returns-then-ready-clause-goes_on
returns-then-ready-clause-goes_on c =
    let s : Sessioned = session_view c.self.inside in
    let new : Sessioned = record { broker = c.recover_step_noted.new.self; kept = c.told-self-inside.result } in
    let ready : (answer_in c.recover_step_noted.result) ≡ Ok true =
    ap (answer_in {T = Bool}) c.in_ok-ready.was ∙ ap (λ (x : Bool). let r : Result Bool Refusal = Ok x in r) c.if-ready.true in
    subst (λ (x : Sessioned). SessionGoesOn x new) c.self.view_is
    (ready_goes_on s c.recover_step_noted.new.self (answer_in c.recover_step_noted.result) c.self.invariant c.recover_step_noted.ensures.promises.well
    c.recover_step_noted.ensures.step ready c.told-self-inside.result c.told-self-inside.ensures.heard
    c.told-self-inside.ensures.heard.no_client)

pub returns-then-ready-clause-promises : goal.returns-then-ready-clause-promises
returns-then-ready-clause-promises c = numbers_kept _ (invariant_of-self-then-ready c)

-- recovery goes on
pub invariant_of-self-else-ready : goal.invariant_of-self-else-ready
invariant_of-self-else-ready c =
    let s : Sessioned = session_view c.self.inside in
    right_unready s c.recover_step_noted.new.self (answer_in c.recover_step_noted.result) c.self.invariant c.recover_step_noted.ensures.promises.well
    c.recover_step_noted.ensures.step (λ ready. absurd (false≢true (answers_this c.recover_step_noted.result c.in_ok-ready.field-0 false true c.in_ok-ready.was c.if-ready.false ready)))

pub returns-else-ready-clause-few : goal.returns-else-ready-clause-few
returns-else-ready-clause-few c =
    subst (λ (x : Sessioned). steps_left x.broker ≤ 32 + most_kept x.broker) c.self.view_is c.recover_step_noted.ensures.few

pub returns-else-ready-clause-goes_on : goal.returns-else-ready-clause-goes_on
returns-else-ready-clause-goes_on c =
    let s : Sessioned = session_view c.self.inside in
    let new : Sessioned = record s { broker = c.recover_step_noted.new.self } in
    subst (λ (x : Sessioned). SessionGoesOn x new) c.self.view_is
    (unready_goes_on s c.recover_step_noted.new.self (answer_in c.recover_step_noted.result) c.self.invariant
    c.recover_step_noted.ensures.promises.well c.recover_step_noted.ensures.step)

pub returns-else-ready-clause-promises : goal.returns-else-ready-clause-promises
returns-else-ready-clause-promises c = numbers_kept _ (invariant_of-self-else-ready c)

pub returns-in_err-ready-clause-downtime : goal.returns-in_err-ready-clause-downtime
returns-in_err-ready-clause-downtime c = downtime_on _ _ _ c.self.view_is c.recover_step_noted.ensures.downtime

pub returns-then-ready-clause-downtime : goal.returns-then-ready-clause-downtime
returns-then-ready-clause-downtime c = downtime_on _ _ _ c.self.view_is c.recover_step_noted.ensures.downtime

pub returns-else-ready-clause-downtime : goal.returns-else-ready-clause-downtime
returns-else-ready-clause-downtime c = downtime_on _ _ _ c.self.view_is c.recover_step_noted.ensures.downtime

pub returns-in_err-ready-clause-room : goal.returns-in_err-ready-clause-room
returns-in_err-ready-clause-room c = λ slot. subst (λ (s : Sessioned). room_at s.broker slot ≤ room_at c.recover_step_noted.new.self slot + 1) c.self.view_is (c.recover_step_noted.ensures.room slot)

pub returns-in_err-ready-clause-told : goal.returns-in_err-ready-clause-told
returns-in_err-ready-clause-told c = subst (λ (s : Sessioned). TellAtReady s.broker c.recover_step_noted.new.self) c.self.view_is c.recover_step_noted.ensures.told

pub returns-in_err-ready-clause-full : goal.returns-in_err-ready-clause-full
returns-in_err-ready-clause-full c = λ full.
    subst (λ (s : Sessioned). HasFullQueue s.broker) c.self.view_is (c.in_err-ready.ensures.full (sym (ap (λ (r : Result Bool Refusal). is_no_memory r) (answered_so c.from_residual.result c.in_err-ready.field-0.0 c.from_residual.ensures)) ∙ full))

pub returns-in_err-ready-clause-spare : goal.returns-in_err-ready-clause-spare
returns-in_err-ready-clause-spare c = left _ c.from_residual.result (λ slot. subst (λ (s : Sessioned). room_at s.broker slot ≤ room_at c.recover_step_noted.new.self slot) c.self.view_is (c.in_err-ready.ensures.spare slot))

pub returns-in_err-ready-clause-noted : goal.returns-in_err-ready-clause-noted
returns-in_err-ready-clause-noted c =
    noted_as c.from_residual.result c.in_err-ready.field-0.0 _ _ c.from_residual.ensures
    (subst (λ (s : Sessioned). IsNoted None s.broker.words.kept c.recover_step_noted.new.self.words.kept) c.self.view_is c.in_err-ready.ensures.noted)

pub returns-in_err-ready-clause-falls : goal.returns-in_err-ready-clause-falls
returns-in_err-ready-clause-falls c = nothing _ c.from_residual.result c.in_err-ready.field-0.0 c.from_residual.ensures

pub returns-in_err-ready-clause-step : goal.returns-in_err-ready-clause-step
returns-in_err-ready-clause-step c =
    subst (λ (r : Result Bool Refusal). IsNextRecoveryStep c.args.self.now.broker c.recover_step_noted.new.self r) (sym (answered_so c.from_residual.result c.in_err-ready.field-0.0 c.from_residual.ensures))
    (subst (λ (s : Sessioned). IsNextRecoveryStep s.broker c.recover_step_noted.new.self (Err c.in_err-ready.field-0.0)) c.self.view_is c.in_err-ready.ensures.step)

pub returns-then-ready-clause-room : goal.returns-then-ready-clause-room
returns-then-ready-clause-room c = λ slot. subst (λ (s : Sessioned). room_at s.broker slot ≤ room_at c.recover_step_noted.new.self slot + 1) c.self.view_is (c.recover_step_noted.ensures.room slot)

pub returns-then-ready-clause-told : goal.returns-then-ready-clause-told
returns-then-ready-clause-told c = subst (λ (s : Sessioned). TellAtReady s.broker c.recover_step_noted.new.self) c.self.view_is c.recover_step_noted.ensures.told

pub returns-then-ready-clause-full : goal.returns-then-ready-clause-full
returns-then-ready-clause-full c = λ full. absurd (false≢true full)

pub returns-then-ready-clause-spare : goal.returns-then-ready-clause-spare
returns-then-ready-clause-spare c = tt

pub returns-then-ready-clause-noted : goal.returns-then-ready-clause-noted
returns-then-ready-clause-noted c = subst (λ (s : Sessioned). IsNoted c.in_ok-ready.field-0.change s.broker.words.kept c.recover_step_noted.new.self.words.kept) c.self.view_is c.in_ok-ready.ensures.noted

pub returns-then-ready-clause-falls : goal.returns-then-ready-clause-falls
returns-then-ready-clause-falls c = subst (λ (s : Sessioned). steps_left c.recover_step_noted.new.self < steps_left s.broker) c.self.view_is c.in_ok-ready.ensures.falls

pub returns-else-ready-clause-room : goal.returns-else-ready-clause-room
returns-else-ready-clause-room c = λ slot. subst (λ (s : Sessioned). room_at s.broker slot ≤ room_at c.recover_step_noted.new.self slot + 1) c.self.view_is (c.recover_step_noted.ensures.room slot)

pub returns-else-ready-clause-told : goal.returns-else-ready-clause-told
returns-else-ready-clause-told c = subst (λ (s : Sessioned). TellAtReady s.broker c.recover_step_noted.new.self) c.self.view_is c.recover_step_noted.ensures.told

pub returns-else-ready-clause-full : goal.returns-else-ready-clause-full
returns-else-ready-clause-full c = λ full. absurd (false≢true full)

pub returns-else-ready-clause-spare : goal.returns-else-ready-clause-spare
returns-else-ready-clause-spare c = tt

pub returns-else-ready-clause-noted : goal.returns-else-ready-clause-noted
returns-else-ready-clause-noted c = subst (λ (s : Sessioned). IsNoted c.in_ok-ready.field-0.change s.broker.words.kept c.recover_step_noted.new.self.words.kept) c.self.view_is c.in_ok-ready.ensures.noted

pub returns-else-ready-clause-falls : goal.returns-else-ready-clause-falls
returns-else-ready-clause-falls c = subst (λ (s : Sessioned). steps_left c.recover_step_noted.new.self < steps_left s.broker) c.self.view_is c.in_ok-ready.ensures.falls

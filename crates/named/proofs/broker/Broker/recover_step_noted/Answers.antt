use Rattle.std.proofs.Common.{rules, ◌≡◌, arith, refl, ◌+◌, ◌≤◌, Ok, Some, subst}
use Rattle.persist.specs.Noted.{answer_in}
use Rattle.arena.specs.declared.broker.SlotId.{SlotId}
use Rattle.directory.specs.declared.recovery.DirectoryRecovery.{DirectoryRecovery}
use Rattle.named.specs.BrokerView.{broker_view}
use Rattle.named.specs.Brokers.{Brokered, IsWell}
use Rattle.named.specs.Lasting.{most_kept, steps_left}
use Rattle.named.specs.declared.recovery.BrokerRecovery.TheVariants.{ReadDirectory, RecoverQueue}
use Rattle.named.proofs.downtime.Steps.{directory_downtime, queue_downtime}
use Rattle.named.proofs.acts.Continuity.{nothing_downtime}
use Rattle.named.proofs.downtime.StepsLeft.{few_left}
use Rattle.named.proofs.promises.Promises.{promises_kept}
use Rattle.named.proofs.broker.Broker.recover_step_noted.Goals as goal

pub returns-in-Some-RecoverQueue-clause-few : goal.returns-in-Some-RecoverQueue-clause-few
returns-in-Some-RecoverQueue-clause-few c =
    let b : Brokered = broker_view c.self.inside in
    subst (λ (x : Brokered). steps_left x ≤ 32 + most_kept x) c.self.view_is (few_left b c.self.invariant.well)

pub returns-in-None-clause-promises : goal.returns-in-None-clause-promises
returns-in-None-clause-promises c = promises_kept _ _ c.self.invariant.well c.self.view_is

pub returns-in-None-clause-downtime : goal.returns-in-None-clause-downtime
returns-in-None-clause-downtime c = nothing_downtime _

pub returns-in-Some-ReadDirectory-clause-downtime : goal.returns-in-Some-ReadDirectory-clause-downtime
returns-in-Some-ReadDirectory-clause-downtime c =
    let at : DirectoryRecovery = c.in-Some-ReadDirectory.at in
    let is : c.args.self.now.recovery ≡ Some (ReadDirectory at) = search rules in
    directory_downtime c.args.self.now c.read_directory.new.self at (Ok c.read_directory.result) (subst IsWell c.self.view_is c.self.invariant.well) is c.read_directory.ensures.read

pub returns-in-Some-RecoverQueue-clause-downtime : goal.returns-in-Some-RecoverQueue-clause-downtime
returns-in-Some-RecoverQueue-clause-downtime c =
    let slot : SlotId = c.in-Some-RecoverQueue.slot in
    let is : c.args.self.now.recovery ≡ Some (RecoverQueue slot) = search rules in
    queue_downtime c.args.self.now c.recover_queue.new.self slot.0 (answer_in c.recover_queue.result) (subst IsWell c.self.view_is c.self.invariant.well) c.recover_queue.ensures.recovered

pub returns-in-None-clause-full : goal.returns-in-None-clause-full
returns-in-None-clause-full c = λ full. absurd (cc (full))

pub returns-in-None-clause-room : goal.returns-in-None-clause-room
returns-in-None-clause-room c = λ slot. omega arith

pub returns-in-None-clause-spare : goal.returns-in-None-clause-spare
returns-in-None-clause-spare c = λ slot. omega arith

pub returns-in-None-clause-noted : goal.returns-in-None-clause-noted
returns-in-None-clause-noted c = record { real = tt; applied = refl }

pub returns-in-None-clause-told : goal.returns-in-None-clause-told
returns-in-None-clause-told c = λ slot down up. absurd (cc (down, up))

pub returns-in-None-clause-falls : goal.returns-in-None-clause-falls
returns-in-None-clause-falls c = tt

pub returns-in-Some-ReadDirectory-clause-full : goal.returns-in-Some-ReadDirectory-clause-full
returns-in-Some-ReadDirectory-clause-full c = λ full. absurd (cc (full))

pub returns-in-Some-ReadDirectory-clause-room : goal.returns-in-Some-ReadDirectory-clause-room
returns-in-Some-ReadDirectory-clause-room c = c.read_directory.ensures.room

pub returns-in-Some-ReadDirectory-clause-spare : goal.returns-in-Some-ReadDirectory-clause-spare
returns-in-Some-ReadDirectory-clause-spare c = tt

pub returns-in-Some-ReadDirectory-clause-noted : goal.returns-in-Some-ReadDirectory-clause-noted
returns-in-Some-ReadDirectory-clause-noted c = record { real = tt; applied = c.read_directory.ensures.kept }

pub returns-in-Some-ReadDirectory-clause-told : goal.returns-in-Some-ReadDirectory-clause-told
returns-in-Some-ReadDirectory-clause-told c = c.read_directory.ensures.told

pub returns-in-Some-ReadDirectory-clause-falls : goal.returns-in-Some-ReadDirectory-clause-falls
returns-in-Some-ReadDirectory-clause-falls c = c.read_directory.ensures.falls

pub returns-in-Some-RecoverQueue-clause-full : goal.returns-in-Some-RecoverQueue-clause-full
returns-in-Some-RecoverQueue-clause-full c = c.recover_queue.ensures.full

pub returns-in-Some-RecoverQueue-clause-room : goal.returns-in-Some-RecoverQueue-clause-room
returns-in-Some-RecoverQueue-clause-room c = c.recover_queue.ensures.room

pub returns-in-Some-RecoverQueue-clause-spare : goal.returns-in-Some-RecoverQueue-clause-spare
returns-in-Some-RecoverQueue-clause-spare c = c.recover_queue.ensures.spare

pub returns-in-Some-RecoverQueue-clause-noted : goal.returns-in-Some-RecoverQueue-clause-noted
returns-in-Some-RecoverQueue-clause-noted c = c.recover_queue.ensures.noted

pub returns-in-Some-RecoverQueue-clause-told : goal.returns-in-Some-RecoverQueue-clause-told
returns-in-Some-RecoverQueue-clause-told c = c.recover_queue.ensures.told

pub returns-in-Some-RecoverQueue-clause-falls : goal.returns-in-Some-RecoverQueue-clause-falls
returns-in-Some-RecoverQueue-clause-falls c = c.recover_queue.ensures.falls

pub returns-in-Some-ReadDirectory-clause-few : goal.returns-in-Some-ReadDirectory-clause-few
returns-in-Some-ReadDirectory-clause-few c =
    let b : Brokered = broker_view c.self.inside in
    subst (λ (x : Brokered). steps_left x ≤ 32 + most_kept x) c.self.view_is (few_left b c.self.invariant.well)

pub returns-in-None-clause-few : goal.returns-in-None-clause-few
returns-in-None-clause-few c =
    let b : Brokered = broker_view c.self.inside in
    subst (λ (x : Brokered). steps_left x ≤ 32 + most_kept x) c.self.view_is (few_left b c.self.invariant.well)

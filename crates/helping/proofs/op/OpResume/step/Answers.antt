use Rattle.std.proofs.Common.{ap, ◌∙◌}
use Rattle.words.specs.declared.call.Reply.{Reply}
use Rattle.stepper.specs.declared.prepare.Begun.{Begun}
use Rattle.stepper.specs.declared.prepare.Prepare.{Prepare}
use Rattle.stepper.specs.declared.resume.After.{After}
use Rattle.stepper.specs.declared.resume.After.TheVariants.{More}
use Rattle.helping.specs.Table.{prepared_op}
use Rattle.helping.specs.declared.op.Op.{Op}
use Rattle.helping.proofs.op.OpResume.step.Goals as goal

-- the call goes on from here
abbrev more : Op → After Op Reply
more op = More op

pub step-requires : goal.step-requires
step-requires g c = rw c.in-PrepareStore.is at c.requires

pub returns-in-PrepareStore : goal.returns-in-PrepareStore
returns-in-PrepareStore g c = rw c.in-PrepareStore.is (record {
  one_access = c.step.ensures.one_access;
  lent = c.step.ensures.lent;
  next = c.go_on.ensures.after ∙ ap (λ (after : After Prepare Begun). more (prepared_op after)) c.step.ensures.next;
  change = c.go_on.ensures.change ∙ c.step.ensures.change;
})

pub step-requires-in-PrepareFlush : goal.step-requires-in-PrepareFlush
step-requires-in-PrepareFlush g c = rw c.in-PrepareFlush.is at c.requires

pub returns-in-PrepareFlush : goal.returns-in-PrepareFlush
returns-in-PrepareFlush g c = rw c.in-PrepareFlush.is (record {
  one_access = c.step-in-PrepareFlush.ensures.one_access;
  lent = c.step-in-PrepareFlush.ensures.lent;
  next = c.go_on-in-PrepareFlush.ensures.after ∙ ap (λ (after : After Prepare Begun). more (prepared_op after)) c.step-in-PrepareFlush.ensures.next;
  change = c.go_on-in-PrepareFlush.ensures.change ∙ c.step-in-PrepareFlush.ensures.change;
})

pub step-requires-in-PrepareFence : goal.step-requires-in-PrepareFence
step-requires-in-PrepareFence g c = rw c.in-PrepareFence.is at c.requires

pub returns-in-PrepareFence : goal.returns-in-PrepareFence
returns-in-PrepareFence g c = rw c.in-PrepareFence.is (record {
  one_access = c.step-in-PrepareFence.ensures.one_access;
  lent = c.step-in-PrepareFence.ensures.lent;
  next = c.go_on-in-PrepareFence.ensures.after ∙ ap (λ (after : After Prepare Begun). more (prepared_op after)) c.step-in-PrepareFence.ensures.next;
  change = c.go_on-in-PrepareFence.ensures.change ∙ c.step-in-PrepareFence.ensures.change;
})

pub step-requires-in-EnqueueLoadTail : goal.step-requires-in-EnqueueLoadTail
step-requires-in-EnqueueLoadTail g c = rw c.in-EnqueueLoadTail.is at c.requires

pub returns-in-EnqueueLoadTail : goal.returns-in-EnqueueLoadTail
returns-in-EnqueueLoadTail g c = rw c.in-EnqueueLoadTail.is c.step-in-EnqueueLoadTail.ensures

pub step-requires-in-EnqueueLoadNext : goal.step-requires-in-EnqueueLoadNext
step-requires-in-EnqueueLoadNext g c = rw c.in-EnqueueLoadNext.is at c.requires

pub returns-in-EnqueueLoadNext : goal.returns-in-EnqueueLoadNext
returns-in-EnqueueLoadNext g c = rw c.in-EnqueueLoadNext.is c.step-in-EnqueueLoadNext.ensures

pub step-requires-in-EnqueueCheckTail : goal.step-requires-in-EnqueueCheckTail
step-requires-in-EnqueueCheckTail g c = rw c.in-EnqueueCheckTail.is at c.requires

pub returns-in-EnqueueCheckTail : goal.returns-in-EnqueueCheckTail
returns-in-EnqueueCheckTail g c = rw c.in-EnqueueCheckTail.is c.step-in-EnqueueCheckTail.ensures

pub step-requires-in-EnqueueLink : goal.step-requires-in-EnqueueLink
step-requires-in-EnqueueLink g c = rw c.in-EnqueueLink.is at c.requires

pub returns-in-EnqueueLink : goal.returns-in-EnqueueLink
returns-in-EnqueueLink g c = rw c.in-EnqueueLink.is c.step-in-EnqueueLink.ensures

pub step-requires-in-EnqueueMoveTail : goal.step-requires-in-EnqueueMoveTail
step-requires-in-EnqueueMoveTail g c = rw c.in-EnqueueMoveTail.is at c.requires

pub returns-in-EnqueueMoveTail : goal.returns-in-EnqueueMoveTail
returns-in-EnqueueMoveTail g c = rw c.in-EnqueueMoveTail.is c.step-in-EnqueueMoveTail.ensures

pub step-requires-in-EnqueueHelpTail : goal.step-requires-in-EnqueueHelpTail
step-requires-in-EnqueueHelpTail g c = rw c.in-EnqueueHelpTail.is at c.requires

pub returns-in-EnqueueHelpTail : goal.returns-in-EnqueueHelpTail
returns-in-EnqueueHelpTail g c = rw c.in-EnqueueHelpTail.is c.step-in-EnqueueHelpTail.ensures

pub step-requires-in-DequeueLoadHead : goal.step-requires-in-DequeueLoadHead
step-requires-in-DequeueLoadHead g c = rw c.in-DequeueLoadHead.is at c.requires

pub returns-in-DequeueLoadHead : goal.returns-in-DequeueLoadHead
returns-in-DequeueLoadHead g c = rw c.in-DequeueLoadHead.is c.step-in-DequeueLoadHead.ensures

pub step-requires-in-DequeueLoadTail : goal.step-requires-in-DequeueLoadTail
step-requires-in-DequeueLoadTail g c = rw c.in-DequeueLoadTail.is at c.requires

pub returns-in-DequeueLoadTail : goal.returns-in-DequeueLoadTail
returns-in-DequeueLoadTail g c = rw c.in-DequeueLoadTail.is c.step-in-DequeueLoadTail.ensures

pub step-requires-in-DequeueLoadNext : goal.step-requires-in-DequeueLoadNext
step-requires-in-DequeueLoadNext g c = rw c.in-DequeueLoadNext.is at c.requires

pub returns-in-DequeueLoadNext : goal.returns-in-DequeueLoadNext
returns-in-DequeueLoadNext g c = rw c.in-DequeueLoadNext.is c.step-in-DequeueLoadNext.ensures

pub step-requires-in-DequeueCheckHead : goal.step-requires-in-DequeueCheckHead
step-requires-in-DequeueCheckHead g c = rw c.in-DequeueCheckHead.is at c.requires

pub returns-in-DequeueCheckHead : goal.returns-in-DequeueCheckHead
returns-in-DequeueCheckHead g c = rw c.in-DequeueCheckHead.is c.step-in-DequeueCheckHead.ensures

pub step-requires-in-DequeueStoreEmpty : goal.step-requires-in-DequeueStoreEmpty
step-requires-in-DequeueStoreEmpty g c = rw c.in-DequeueStoreEmpty.is at c.requires

pub returns-in-DequeueStoreEmpty : goal.returns-in-DequeueStoreEmpty
returns-in-DequeueStoreEmpty g c = rw c.in-DequeueStoreEmpty.is c.step-in-DequeueStoreEmpty.ensures

pub step-requires-in-DequeueHelpTail : goal.step-requires-in-DequeueHelpTail
step-requires-in-DequeueHelpTail g c = rw c.in-DequeueHelpTail.is at c.requires

pub returns-in-DequeueHelpTail : goal.returns-in-DequeueHelpTail
returns-in-DequeueHelpTail g c = rw c.in-DequeueHelpTail.is c.step-in-DequeueHelpTail.ensures

pub step-requires-in-DequeueLoadItem : goal.step-requires-in-DequeueLoadItem
step-requires-in-DequeueLoadItem g c = rw c.in-DequeueLoadItem.is at c.requires

pub returns-in-DequeueLoadItem : goal.returns-in-DequeueLoadItem
returns-in-DequeueLoadItem g c = rw c.in-DequeueLoadItem.is c.step-in-DequeueLoadItem.ensures

pub step-requires-in-DequeueClaim : goal.step-requires-in-DequeueClaim
step-requires-in-DequeueClaim g c = rw c.in-DequeueClaim.is at c.requires

pub returns-in-DequeueClaim : goal.returns-in-DequeueClaim
returns-in-DequeueClaim g c = rw c.in-DequeueClaim.is c.step-in-DequeueClaim.ensures

pub step-requires-in-DequeueStoreResult : goal.step-requires-in-DequeueStoreResult
step-requires-in-DequeueStoreResult g c = rw c.in-DequeueStoreResult.is at c.requires

pub returns-in-DequeueStoreResult : goal.returns-in-DequeueStoreResult
returns-in-DequeueStoreResult g c = rw c.in-DequeueStoreResult.is c.step-in-DequeueStoreResult.ensures

pub step-requires-in-DequeueMoveHead : goal.step-requires-in-DequeueMoveHead
step-requires-in-DequeueMoveHead g c = rw c.in-DequeueMoveHead.is at c.requires

pub returns-in-DequeueMoveHead : goal.returns-in-DequeueMoveHead
returns-in-DequeueMoveHead g c = rw c.in-DequeueMoveHead.is c.step-in-DequeueMoveHead.ensures

pub ask-requires : goal.ask-requires
ask-requires g c = record { room = c.requires.room; point = rw c.in-Flush.is at c.requires.point }

pub returns-in-Flush : goal.returns-in-Flush
returns-in-Flush g c = rw c.in-Flush.is c.ask.ensures

pub complete-requires : goal.complete-requires
complete-requires g c = record { point = rw c.in-Fence.is at c.requires.point; asked = rw c.in-Fence.is at c.requires.asked }

pub returns-in-Fence : goal.returns-in-Fence
returns-in-Fence g c = rw c.in-Fence.is c.complete.ensures

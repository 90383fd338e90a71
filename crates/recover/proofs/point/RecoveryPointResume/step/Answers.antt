use Rattle.recover.proofs.point.RecoveryPointResume.step.Goals as goal

pub step-requires : goal.step-requires
step-requires g c = rw c.in-RecoveryLoadHead.is at c.requires

pub returns-in-RecoveryLoadHead : goal.returns-in-RecoveryLoadHead
returns-in-RecoveryLoadHead g c = rw c.in-RecoveryLoadHead.is c.step.ensures

pub step-requires-in-RecoveryLoadNext : goal.step-requires-in-RecoveryLoadNext
step-requires-in-RecoveryLoadNext g c = rw c.in-RecoveryLoadNext.is at c.requires

pub returns-in-RecoveryLoadNext : goal.returns-in-RecoveryLoadNext
returns-in-RecoveryLoadNext g c = rw c.in-RecoveryLoadNext.is c.step-in-RecoveryLoadNext.ensures

pub step-requires-in-RecoveryLoadInsert : goal.step-requires-in-RecoveryLoadInsert
step-requires-in-RecoveryLoadInsert g c = rw c.in-RecoveryLoadInsert.is at c.requires

pub returns-in-RecoveryLoadInsert : goal.returns-in-RecoveryLoadInsert
returns-in-RecoveryLoadInsert g c = rw c.in-RecoveryLoadInsert.is c.step-in-RecoveryLoadInsert.ensures

pub step-requires-in-RecoveryStoreStatus : goal.step-requires-in-RecoveryStoreStatus
step-requires-in-RecoveryStoreStatus g c = rw c.in-RecoveryStoreStatus.is at c.requires

pub returns-in-RecoveryStoreStatus : goal.returns-in-RecoveryStoreStatus
returns-in-RecoveryStoreStatus g c = rw c.in-RecoveryStoreStatus.is c.step-in-RecoveryStoreStatus.ensures

pub step-requires-in-RecoveryLoadMark : goal.step-requires-in-RecoveryLoadMark
step-requires-in-RecoveryLoadMark g c = rw c.in-RecoveryLoadMark.is at c.requires

pub returns-in-RecoveryLoadMark : goal.returns-in-RecoveryLoadMark
returns-in-RecoveryLoadMark g c = rw c.in-RecoveryLoadMark.is c.step-in-RecoveryLoadMark.ensures

pub step-requires-in-RecoveryStoreResult : goal.step-requires-in-RecoveryStoreResult
step-requires-in-RecoveryStoreResult g c = rw c.in-RecoveryStoreResult.is at c.requires

pub returns-in-RecoveryStoreResult : goal.returns-in-RecoveryStoreResult
returns-in-RecoveryStoreResult g c = rw c.in-RecoveryStoreResult.is c.step-in-RecoveryStoreResult.ensures

pub step-requires-in-RecoveryStoreHead : goal.step-requires-in-RecoveryStoreHead
step-requires-in-RecoveryStoreHead g c = rw c.in-RecoveryStoreHead.is at c.requires

pub returns-in-RecoveryStoreHead : goal.returns-in-RecoveryStoreHead
returns-in-RecoveryStoreHead g c = rw c.in-RecoveryStoreHead.is c.step-in-RecoveryStoreHead.ensures

pub step-requires-in-RecoveryStoreTail : goal.step-requires-in-RecoveryStoreTail
step-requires-in-RecoveryStoreTail g c = rw c.in-RecoveryStoreTail.is at c.requires

pub returns-in-RecoveryStoreTail : goal.returns-in-RecoveryStoreTail
returns-in-RecoveryStoreTail g c = rw c.in-RecoveryStoreTail.is c.step-in-RecoveryStoreTail.ensures

pub step-requires-in-RecoveryLoadAnnouncement : goal.step-requires-in-RecoveryLoadAnnouncement
step-requires-in-RecoveryLoadAnnouncement g c = rw c.in-RecoveryLoadAnnouncement.is at c.requires

pub returns-in-RecoveryLoadAnnouncement : goal.returns-in-RecoveryLoadAnnouncement
returns-in-RecoveryLoadAnnouncement g c = rw c.in-RecoveryLoadAnnouncement.is c.step-in-RecoveryLoadAnnouncement.ensures

pub step-requires-in-RecoveryLoadCell : goal.step-requires-in-RecoveryLoadCell
step-requires-in-RecoveryLoadCell g c = rw c.in-RecoveryLoadCell.is at c.requires

pub returns-in-RecoveryLoadCell : goal.returns-in-RecoveryLoadCell
returns-in-RecoveryLoadCell g c = rw c.in-RecoveryLoadCell.is c.step-in-RecoveryLoadCell.ensures

pub step-requires-in-RecoveryLoadGot : goal.step-requires-in-RecoveryLoadGot
step-requires-in-RecoveryLoadGot g c = rw c.in-RecoveryLoadGot.is at c.requires

pub returns-in-RecoveryLoadGot : goal.returns-in-RecoveryLoadGot
returns-in-RecoveryLoadGot g c = rw c.in-RecoveryLoadGot.is c.step-in-RecoveryLoadGot.ensures

pub step-requires-in-RecoveryLoadNumber : goal.step-requires-in-RecoveryLoadNumber
step-requires-in-RecoveryLoadNumber g c = rw c.in-RecoveryLoadNumber.is at c.requires

pub returns-in-RecoveryLoadNumber : goal.returns-in-RecoveryLoadNumber
returns-in-RecoveryLoadNumber g c = rw c.in-RecoveryLoadNumber.is c.step-in-RecoveryLoadNumber.ensures

pub step-requires-in-RecoveryLoadKind : goal.step-requires-in-RecoveryLoadKind
step-requires-in-RecoveryLoadKind g c = rw c.in-RecoveryLoadKind.is at c.requires

pub returns-in-RecoveryLoadKind : goal.returns-in-RecoveryLoadKind
returns-in-RecoveryLoadKind g c = rw c.in-RecoveryLoadKind.is c.step-in-RecoveryLoadKind.ensures

pub step-requires-in-RecoveryLoadStatus : goal.step-requires-in-RecoveryLoadStatus
step-requires-in-RecoveryLoadStatus g c = rw c.in-RecoveryLoadStatus.is at c.requires

pub returns-in-RecoveryLoadStatus : goal.returns-in-RecoveryLoadStatus
returns-in-RecoveryLoadStatus g c = rw c.in-RecoveryLoadStatus.is c.step-in-RecoveryLoadStatus.ensures

pub step-requires-in-RecoveryLoadRemove : goal.step-requires-in-RecoveryLoadRemove
step-requires-in-RecoveryLoadRemove g c = rw c.in-RecoveryLoadRemove.is at c.requires

pub returns-in-RecoveryLoadRemove : goal.returns-in-RecoveryLoadRemove
returns-in-RecoveryLoadRemove g c = rw c.in-RecoveryLoadRemove.is c.step-in-RecoveryLoadRemove.ensures

pub step-requires-in-RecoveryLoadEntryNode : goal.step-requires-in-RecoveryLoadEntryNode
step-requires-in-RecoveryLoadEntryNode g c = rw c.in-RecoveryLoadEntryNode.is at c.requires

pub returns-in-RecoveryLoadEntryNode : goal.returns-in-RecoveryLoadEntryNode
returns-in-RecoveryLoadEntryNode g c = rw c.in-RecoveryLoadEntryNode.is c.step-in-RecoveryLoadEntryNode.ensures

pub step-requires-in-RecoveryLoadRemovedItem : goal.step-requires-in-RecoveryLoadRemovedItem
step-requires-in-RecoveryLoadRemovedItem g c = rw c.in-RecoveryLoadRemovedItem.is at c.requires

pub returns-in-RecoveryLoadRemovedItem : goal.returns-in-RecoveryLoadRemovedItem
returns-in-RecoveryLoadRemovedItem g c = rw c.in-RecoveryLoadRemovedItem.is c.step-in-RecoveryLoadRemovedItem.ensures

pub ask-requires : goal.ask-requires
ask-requires g c = record { room = c.requires.room; point = rw c.in-Flush.is at c.requires.point }

pub returns-in-Flush : goal.returns-in-Flush
returns-in-Flush g c = rw c.in-Flush.is c.ask.ensures

pub complete-requires : goal.complete-requires
complete-requires g c = record { point = rw c.in-Fence.is at c.requires.point; asked = rw c.in-Fence.is at c.requires.asked }

pub returns-in-Fence : goal.returns-in-Fence
returns-in-Fence g c = rw c.in-Fence.is c.complete.ensures

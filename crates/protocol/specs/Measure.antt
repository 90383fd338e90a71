-- How many steps recovery has left.
use Rattle.std.specs.Prelude.{ℕ, ◌+◌, ◌-◌, ◌*◌, length, Bool, true, false, Option, Some, None}
use Rattle.words.specs.declared.call.NodeId.{NodeId}
use Rattle.words.specs.declared.limits.TheConstants.{STEPS_BESIDES, STEPS_PER_CLIENT, STEPS_PER_RECORD}
use Rattle.arena.specs.Chain.{walk}
use Rattle.arena.specs.Shape.{Shape, greatest}
use Rattle.arena.specs.Words.{links}
use Rattle.arena.specs.declared.place.Place.{Place}
use Rattle.arena.specs.declared.place.Place.TheVariants.{Head}
use Rattle.stepper.specs.Loading.{parts_left}
use Rattle.stepper.specs.Steps.{keep_steps, load_steps}
use Rattle.recover.specs.declared.recovery.Recovery.{Recovery}
use Rattle.recover.specs.declared.point.RecoveryPoint.{RecoveryPoint}
use Rattle.recover.specs.declared.point.RecoveryPoint.TheVariants.{RecoveryLoadHead, RecoveryLoadNext, RecoveryLoadInsert, RecoveryStoreStatus, RecoveryLoadMark, RecoveryStoreResult, RecoveryStoreHead, RecoveryStoreTail, RecoveryLoadAnnouncement, RecoveryLoadCell, RecoveryLoadGot, RecoveryLoadNumber, RecoveryLoadKind, RecoveryLoadStatus, RecoveryLoadRemove, RecoveryLoadEntryNode, RecoveryLoadRemovedItem, Flush as FlushPoint, Fence as FencePoint}
use Rattle.recover.specs.declared.keeping.RecoveryKeeping.{RecoveryKeeping}
use Rattle.recover.specs.declared.keeping.RecoveryKeeping.TheVariants.{Status as KeepStatus, Result as KeepResult, Head as KeepHead, Tail as KeepTail}
use Rattle.protocol.specs.Machine.{World}

-- how many nodes follow this one
abbrev pub rest : Shape → (ℕ → ℕ) → ℕ → ℕ
rest s link n = length (walk (greatest s) link n)

-- the steps at a node, and at the next one, before the head is moved and after it
abbrev pub steps_beyond : Bool → ℕ
steps_beyond true = 2 + keep_steps
steps_beyond false = 3 + 2 * keep_steps

abbrev pub steps_on_arrival : Bool → ℕ
steps_on_arrival true = 2 + keep_steps
steps_on_arrival false = 6 + 3 * keep_steps

-- the steps past the head
abbrev pub steps_onward : Shape → (ℕ → ℕ) → Option NodeId → ℕ
steps_onward s link None = 0
steps_onward s link (Some n) = STEPS_PER_RECORD * rest s link n.0 + 1

-- the steps while clients are told
abbrev pub steps_to_tell : Shape → ℕ → ℕ
steps_to_tell s client = STEPS_PER_CLIENT * (s.clients - client)

-- the steps while each client is told
abbrev pub steps_to_tell_all : Shape → ℕ
steps_to_tell_all s = STEPS_PER_CLIENT * s.clients

-- what is left once it has kept a word
abbrev pub weight_kept : Shape → (Place → ℕ) → RecoveryKeeping → ℕ
weight_kept s c (KeepStatus p) =
    STEPS_PER_RECORD * rest s (links c) p.node.0 + steps_on_arrival p.moved + steps_to_tell_all s
weight_kept s c (KeepResult p) = STEPS_PER_RECORD * rest s (links c) p.node.0 + 3 + 2 * keep_steps + steps_to_tell_all s
weight_kept s c (KeepHead p) = steps_onward s (links c) p.unclaimed + 1 + keep_steps + steps_to_tell_all s
weight_kept s c (KeepTail p) = steps_to_tell_all s

-- a number that falls at each step
abbrev pub weight : Shape → (Place → ℕ) → RecoveryPoint → ℕ
weight s c (RecoveryLoadHead p) =
    STEPS_PER_RECORD * rest s (links c) (c Head) + 4 + 2 * keep_steps + steps_to_tell_all s
weight s c (RecoveryLoadNext p) =
    STEPS_PER_RECORD * rest s (links c) p.cur.0 + steps_beyond p.moved + steps_to_tell_all s
weight s c (RecoveryLoadInsert p) =
    STEPS_PER_RECORD * rest s (links c) p.node.0 + steps_on_arrival p.moved + 2 + keep_steps + steps_to_tell_all s
weight s c (RecoveryStoreStatus p) =
    STEPS_PER_RECORD * rest s (links c) p.node.0 + steps_on_arrival p.moved + 1 + keep_steps + steps_to_tell_all s
weight s c (RecoveryLoadMark p) = STEPS_PER_RECORD * rest s (links c) p.node.0 + steps_on_arrival false + steps_to_tell_all s
weight s c (RecoveryStoreResult p) =
    STEPS_PER_RECORD * rest s (links c) p.node.0 + 4 + 3 * keep_steps + steps_to_tell_all s
weight s c (RecoveryStoreHead p) = steps_onward s (links c) p.unclaimed + 2 + 2 * keep_steps + steps_to_tell_all s
weight s c (RecoveryStoreTail p) = 1 + keep_steps + steps_to_tell_all s
weight s c (RecoveryLoadAnnouncement p) = steps_to_tell s p.client.0
weight s c (RecoveryLoadCell p) = steps_to_tell s p.client.0 - 1
weight s c (RecoveryLoadGot p) = steps_to_tell s p.client.0 - 2 - load_steps + parts_left p.loading
weight s c (RecoveryLoadNumber p) = steps_to_tell s p.client.0 - 1
weight s c (RecoveryLoadKind p) = steps_to_tell s p.client.0 - 2
weight s c (RecoveryLoadStatus p) = steps_to_tell s p.client.0 - 3
weight s c (RecoveryLoadRemove p) = steps_to_tell s p.client.0 - 4
weight s c (RecoveryLoadEntryNode p) = steps_to_tell s p.client.0 - 4
weight s c (RecoveryLoadRemovedItem p) = steps_to_tell s p.client.0 - 5 - load_steps + parts_left p.loading
weight s c (FlushPoint k) = weight_kept s c k + keep_steps
weight s c (FencePoint k) = weight_kept s c k + keep_steps - 1

-- how many steps are left at most, none in a ready queue
abbrev pub steps_left_at : Shape → (Place → ℕ) → Option Recovery → ℕ
steps_left_at s c None = 0
steps_left_at s c (Some r) = weight s c r.at + 1

abbrev pub steps_left : World → ℕ
steps_left w = steps_left_at w.shape w.memory.cached w.recovery

-- and how many a recovery has at most, wherever it is
abbrev pub most_steps : Shape → ℕ
most_steps s = STEPS_PER_RECORD * greatest s + STEPS_PER_CLIENT * s.clients + STEPS_BESIDES

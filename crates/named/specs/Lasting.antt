-- How many steps a broker's recovery has left.
use Rattle.std.specs.Prelude.{ℕ, ◌+◌, Option, Some, None, drop}
use Rattle.std.specs.List.{sum_by}
use Rattle.arena.specs.Shape.{Counts, shape_of}
use Rattle.stepper.specs.declared.resume.After.{After}
use Rattle.stepper.specs.declared.resume.After.TheVariants.{More, Done}
use Rattle.directory.specs.Directory.{Directory}
use Rattle.directory.specs.Queue.{directory_of}
use Rattle.directory.specs.Recovering.{most_left}
use Rattle.directory.specs.declared.queue.Queue.{Queue}
use Rattle.directory.specs.declared.recovery.DirectoryRecovery.{DirectoryRecovery}
use Rattle.interleave.specs.State.{State, most_to_ready, steps_to_ready}
use Rattle.named.specs.Brokers.{Brokered, world_at}
use Rattle.named.specs.declared.recovery.BrokerRecovery.{BrokerRecovery}
use Rattle.named.specs.declared.recovery.BrokerRecovery.TheVariants.{ReadDirectory, RecoverQueue}

-- how many steps the recovery of a place's queue takes at most, and that of all the queues from a slot on
abbrev pub most_of : Counts → Option Queue → ℕ
most_of c None = 0
most_of c (Some queue) = most_to_ready (shape_of queue.kind c)

abbrev pub most_from : Counts → Directory → ℕ → ℕ
most_from c directory from = sum_by (most_of c) (drop from directory)

-- those of all the queues that the memory keeps
abbrev pub most_kept : Brokered → ℕ
most_kept b = most_from b.counts (directory_of b.words.kept) 0

-- how many the recovery of a queue that is under way has left at most
abbrev pub left_in : Option State → ℕ
left_in (Some w) = steps_to_ready w
left_in None = 0

-- how many the broker's has left at most
abbrev pub left_at : Brokered → Option BrokerRecovery → ℕ
left_at b None = 0
left_at b (Some (ReadDirectory at)) = most_left at + most_kept b
left_at b (Some (RecoverQueue slot)) = left_in (world_at b slot.0) + most_from b.counts b.directory (slot.0 + 1)

abbrev pub steps_left : Brokered → ℕ
steps_left b = left_at b b.recovery

-- and where the directory is read on
abbrev pub left_after_read : Brokered → After DirectoryRecovery Directory → ℕ
left_after_read b (More next) = most_left next + most_kept b
left_after_read b (Done places) = most_kept b

-- The steps of a directory's recovery: one load each, and what comes then.
use Rattle.std.specs.Prelude.{ℕ, ◌+◌, ◌==◌, nat_lt, if◌then◌else◌, Option, Some, None, replicate, slice_set}
use Rattle.persist.specs.Memory.{Access, Load}
use Rattle.arena.specs.declared.broker.TheConstants.{SLOTS}
use Rattle.arena.specs.declared.broker.SlotId.{SlotId}
use Rattle.arena.specs.declared.broker.BrokerPlace.{BrokerPlace}
use Rattle.arena.specs.declared.broker.BrokerPlace.TheVariants.{FirstName, SecondName, QueueKind, Gate}
use Rattle.arena.specs.declared.codes.TheConstants.{OPEN_GATE}
use Rattle.stepper.specs.declared.resume.After.{After}
use Rattle.stepper.specs.declared.resume.After.TheVariants.{More, Done}
use Rattle.directory.specs.Queue.{queue_of}
use Rattle.directory.specs.Directory.{Directory}
use Rattle.directory.specs.declared.queue.Queue.{Queue}
use Rattle.directory.specs.declared.recovery.DirectoryPoint.{DirectoryPoint}
use Rattle.directory.specs.declared.recovery.DirectoryPoint.TheVariants.{LoadGate, LoadFirstName, LoadSecondName, LoadKind}
use Rattle.directory.specs.declared.recovery.DirectoryRecovery.{DirectoryRecovery}
use Rattle.directory.specs.declared.recovery.Recovered.{Recovered}

abbrev pub recovery_at : Directory → DirectoryPoint → DirectoryRecovery
recovery_at places at = record { places = places; at = at }

-- it begins with the gate of slot 0, and has found nothing yet
abbrev pub boot_recovery : DirectoryRecovery
boot_recovery = recovery_at (replicate SLOTS None) (LoadGate (record { 0 = 0 }))

abbrev pub slot_at : DirectoryPoint → ℕ
slot_at (LoadGate slot) = slot.0
slot_at (LoadFirstName slot) = slot.0
slot_at (LoadSecondName slot first) = slot.0
slot_at (LoadKind slot first second) = slot.0

-- the one load of each waiting point
abbrev pub load_of : DirectoryPoint → BrokerPlace
load_of (LoadGate slot) = Gate slot
load_of (LoadFirstName slot) = FirstName slot
load_of (LoadSecondName slot first) = SecondName slot
load_of (LoadKind slot first second) = QueueKind slot

abbrev pub access_of : DirectoryRecovery → Access BrokerPlace
access_of recovery = Load (load_of recovery.at)

-- what comes once a slot was read: the gate of the next one, if there is one
abbrev pub past_slot : Directory → SlotId → After DirectoryRecovery Directory
past_slot places slot =
    if nat_lt (slot.0 + 1) SLOTS
    then More (recovery_at places (LoadGate (record { 0 = slot.0 + 1 })))
    else Done places

-- it goes on with the same slot
abbrev pub goes_on_at : Directory → DirectoryPoint → Recovered
goes_on_at places at = record { opened = None; after = More (recovery_at places at) }

-- what comes once the gate was loaded: an open one is told of
abbrev pub gate_found : Directory → SlotId → ℕ → Recovered
gate_found places slot gate =
    if gate == OPEN_GATE
    then record { opened = Some slot; after = More (recovery_at places (LoadFirstName slot)) }
    else record { opened = None; after = past_slot places slot }

-- what comes once the queue of an open slot was read
abbrev pub queue_found : Directory → SlotId → Option Queue → Recovered
queue_found places slot queue = record { opened = None; after = past_slot (slice_set places slot.0 queue) slot }

-- what comes once this value was loaded
abbrev pub recovered_at : Directory → DirectoryPoint → ℕ → Recovered
recovered_at places (LoadGate slot) found = gate_found places slot found
recovered_at places (LoadFirstName slot) found = goes_on_at places (LoadSecondName slot found)
recovered_at places (LoadSecondName slot first) found = goes_on_at places (LoadKind slot first found)
recovered_at places (LoadKind slot first second) found = queue_found places slot (queue_of first second found)

abbrev pub recovered : DirectoryRecovery → ℕ → Recovered
recovered recovery found = recovered_at recovery.places recovery.at found

-- What holds while a directory is recovered, and how many steps that takes.
use Rattle.std.specs.Prelude.{◌≡◌, ℕ, ◌+◌, ◌*◌, ◌-◌, ◌<◌, ◌≤◌, length, slice_index, slice_get, IfSome}
use Rattle.persist.specs.Memory.{Words}
use Rattle.arena.specs.Shape.{Counts}
use Rattle.arena.specs.declared.broker.TheConstants.{SLOTS}
use Rattle.arena.specs.declared.codes.TheConstants.{OPEN_GATE}
use Rattle.stepper.specs.declared.resume.After.{After}
use Rattle.stepper.specs.declared.resume.After.TheVariants.{More, Done}
use Rattle.directory.specs.Queue.{IsOpenSlot, first_name_at, second_name_at, gate_at}
use Rattle.directory.specs.Directory.{Directory, IsFree}
use Rattle.directory.specs.Recovery.{access_of, recovered, slot_at}
use Rattle.directory.specs.Step.{after_one, value_found}
use Rattle.directory.specs.UnderWay.{IsAtRest}
use Rattle.directory.specs.declared.recovery.DirectoryPoint.{DirectoryPoint}
use Rattle.directory.specs.declared.recovery.DirectoryPoint.TheVariants.{LoadGate, LoadFirstName, LoadSecondName, LoadKind}
use Rattle.directory.specs.declared.recovery.DirectoryRecovery.{DirectoryRecovery}
use Rattle.directory.specs.declared.recovery.Recovered.{Recovered}

-- the places before a slot are the directory's, and those from it on are free yet
pub record AreFoundBefore (places directory : Directory) (slot : ℕ) : Type 0 where
  pub count : length places ≡ SLOTS
  pub before : (other : ℕ) → other < slot → slice_get places other ≡ slice_get directory other
  pub from : (other : ℕ) → slot ≤ other → other < SLOTS → IsFree places other

-- what was loaded of a slot is what its words are: its gate was open
abbrev pub IsLoaded : Words → DirectoryPoint → Type 0
IsLoaded ws (LoadGate slot) = Unit {0}
IsLoaded ws (LoadFirstName slot) = slice_index ws.kept (gate_at slot.0) ≡ OPEN_GATE
IsLoaded ws (LoadSecondName slot first) =
    (slice_index ws.kept (gate_at slot.0) ≡ OPEN_GATE) × (slice_index ws.kept (first_name_at slot.0) ≡ first)
IsLoaded ws (LoadKind slot first second) =
    (slice_index ws.kept (gate_at slot.0) ≡ OPEN_GATE) × (slice_index ws.kept (first_name_at slot.0) ≡ first)
    × (slice_index ws.kept (second_name_at slot.0) ≡ second)

-- a recovery of this directory is under way
pub record IsRecovering (ws : Words) (recovery : DirectoryRecovery) (directory : Directory) : Type 0 where
  pub rest : IsAtRest ws directory
  pub in_range : slot_at recovery.at < SLOTS
  pub found : AreFoundBefore recovery.places directory (slot_at recovery.at)
  pub loaded : IsLoaded ws recovery.at

-- what a step of a recovery comes to: it goes on, or has found the whole directory
abbrev pub Finds : Words → Directory → After DirectoryRecovery Directory → Type 0
Finds ws directory (More next) = IsRecovering ws next directory
Finds ws directory (Done places) = places ≡ directory

-- words after its next step, and what comes then
abbrev pub after_recovery_step : Counts → Words → DirectoryRecovery → Words
after_recovery_step counts ws recovery = after_one counts (access_of recovery) ws

abbrev pub recovery_step : Counts → Words → DirectoryRecovery → Recovered
recovery_step counts ws recovery = recovered recovery (value_found counts (access_of recovery) ws)

-- so it is of its next step
abbrev pub RecoveryGoesOn : Counts → Words → DirectoryRecovery → Directory → Type 0
RecoveryGoesOn counts ws recovery directory =
    Finds (after_recovery_step counts ws recovery) directory (recovery_step counts ws recovery).after

-- a slot whose gate its next step finds open has a queue
abbrev pub FindsOpenSlot : Counts → Words → DirectoryRecovery → Type 0
FindsOpenSlot counts ws recovery = IfSome (recovery_step counts ws recovery).opened (λ slot. IsOpenSlot ws.kept slot.0)

-- how many steps a recovery has left: at least one a slot, and at most four
abbrev pub left_of_slot : DirectoryPoint → ℕ
left_of_slot (LoadGate slot) = 4
left_of_slot (LoadFirstName slot) = 3
left_of_slot (LoadSecondName slot first) = 2
left_of_slot (LoadKind slot first second) = 1

abbrev pub due_of_slot : DirectoryPoint → ℕ
due_of_slot (LoadGate slot) = 1
due_of_slot (LoadFirstName slot) = 3
due_of_slot (LoadSecondName slot first) = 2
due_of_slot (LoadKind slot first second) = 1

abbrev pub most_left : DirectoryRecovery → ℕ
most_left recovery = left_of_slot recovery.at + 4 * (SLOTS - (slot_at recovery.at + 1))

abbrev pub least_left : DirectoryRecovery → ℕ
least_left recovery = due_of_slot recovery.at + (SLOTS - (slot_at recovery.at + 1))

-- a step takes at least one off the most that are left, and at most one off the least
abbrev pub IsOneLess : DirectoryRecovery → After DirectoryRecovery Directory → Type 0
IsOneLess recovery (More next) =
    (most_left next + 1 ≤ most_left recovery) × (least_left recovery ≤ least_left next + 1)
IsOneLess recovery (Done places) = (1 ≤ most_left recovery) × (least_left recovery ≤ 1)

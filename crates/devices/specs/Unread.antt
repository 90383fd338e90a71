-- Reading to the end, which also wants memory.
use Rattle.std.specs.Prelude.{ℕ, Result, Ok, Err}
use Rattle.devices.specs.declared.transfer.Unread.{Unread}
use Rattle.devices.specs.declared.transfer.Unread.TheVariants.{Failed, NoMemory}

-- want of memory is no failure of the device
abbrev pub device_failures_of : {A : Type 0} → Result A Unread → ℕ
device_failures_of (Ok x) = 0
device_failures_of (Err Failed) = 1
device_failures_of (Err NoMemory) = 0

-- What the clients of each queue are told once its recovery is at its end.
use Rattle.std.specs.Prelude.{◌≡◌, ℕ, true, false}
use Rattle.interleave.specs.Telling.{IsToldAtReady}
use Rattle.named.specs.Slots.{IfWorld}
use Rattle.named.specs.Brokers.{Brokered, is_ready_at, world_at}

-- a queue that was not ready yet and is now has told its clients rightly, and for good
abbrev pub TellAtReady : Brokered → Brokered → Type 0
TellAtReady old new =
    (slot : ℕ) → is_ready_at old.recovery slot ≡ false → is_ready_at new.recovery slot ≡ true
    → IfWorld (world_at new slot) IsToldAtReady

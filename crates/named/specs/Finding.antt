-- Where the queue of a name is found.
use Rattle.std.specs.Prelude.{◌≡◌, List, None, ℕ, IsSome, Result, Ok, Err}
use Rattle.words.specs.declared.refusal.Refusal.{Refusal}
use Rattle.words.specs.declared.refusal.Refusal.TheVariants.{NoQueue, NotReady}
use Rattle.arena.specs.declared.broker.SlotId.{SlotId}
use Rattle.directory.specs.Directory.{HasName, IsNamed}
use Rattle.named.specs.Brokers.{Brokered}

-- in the slot that has it; or why it is not: the broker recovers, or there is no such queue
abbrev pub IsPlaced : Brokered → List ℕ → Result SlotId Refusal → Type 0
IsPlaced b name (Ok slot) = (b.recovery ≡ None) × IsNamed b.directory slot.0 name
IsPlaced b name (Err NotReady) = IsSome b.recovery
IsPlaced b name (Err NoQueue) = (b.recovery ≡ None) × (HasName b.directory name → ⊥)
IsPlaced b name (Err _) = ⊥

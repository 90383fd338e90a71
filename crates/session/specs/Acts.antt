-- What acts leave of a session and of its broker.
use Rattle.std.specs.Prelude.{◌≡◌, ℕ, Bool, false, List, Result, Ok}
use Rattle.words.specs.declared.refusal.Refusal.{Refusal}
use Rattle.persist.specs.declared.access.Change.{Change}
use Rattle.notes.specs.Noting.{HasNoted}
use Rattle.named.specs.Brokers.{Brokered, quiet, world_at}
use Rattle.named.specs.Rotating.{rotate_result}
use Rattle.named.specs.Stopping.{IsRecoveryStep}
use Rattle.session.specs.Sessions.{Sessioned}

-- all stays but the creation that is under way
abbrev pub IsSameButCreation : Sessioned → Sessioned → Type 0
IsSameButCreation old new = new ≡ record old { broker = record old.broker { creation = new.broker.creation } }

-- all stays but the words and the slots
abbrev pub IsSameButWordsAndSlots : Brokered → Brokered → Type 0
IsSameButWordsAndSlots old new = new ≡ record old { words = new.words; slots = new.slots }

-- the worlds of all slots are as they were, but for the count of accesses
abbrev pub AreWorldsAlike : Brokered → Brokered → Type 0
AreWorldsAlike old new = (slot : ℕ) → quiet (world_at new slot) ≡ quiet (world_at old slot)

-- the histories of its queues may end: nothing but want of memory refuses a rotation
abbrev pub MayRotate : Brokered → Type 0
MayRotate b = rotate_result false b ≡ Ok tt

-- recovery took its next step, or was refused it
abbrev pub IsNextRecoveryStep : Brokered → Brokered → Result Bool Refusal → Type 0
IsNextRecoveryStep old new result = IsRecoveryStep old new result old.recovery

-- behind what was noted stand the changes that made the kept words of the new session of those of the old
abbrev pub HasNotedAct : Sessioned → Sessioned → (noted noted_after : List Change) → Type 0
HasNotedAct old new noted noted_after = HasNoted noted noted_after old.broker.words.kept new.broker.words.kept

-- The slots of a broker: each closed, or open with a queue of either kind in its block.
use Rattle.std.specs.Prelude.{◌≡◌, ℕ, ◌+◌, ◌<◌, ◌≤◌, ◌⊎◌, Bool, true, not, is_some, length, Option, Some, None, Result, Err, IfOk, IfErr}
use Rattle.words.specs.declared.call.Client.{Client}
use Rattle.words.specs.declared.call.Reply.{Reply}
use Rattle.words.specs.declared.limits.TheConstants.{MAX_STEPS_ALONE}
use Rattle.words.specs.declared.call.Kind.{Kind}
use Rattle.words.specs.declared.refusal.Refusal.{Refusal}
use Rattle.words.specs.declared.refusal.Refusal.TheVariants.{NoMemory, NoQueue}
use Rattle.persist.specs.Memory.{MemoryState, Words, IsSameOutside, words_after_eviction}
use Rattle.protocol.specs.Rotated.{empty_trace}
use Rattle.interleave.specs.Calls.{is_no_memory}
use Rattle.interleave.specs.Rules.{Rule, waiting_in}
use Rattle.interleave.specs.State.{State, after_alone, IsAnsweredAlone}
use Rattle.named.specs.Blocks.{AskAlikeBeside, BlockState, IsAskedIn, LieInOnePlace, state_evicted_in, state_in, IsWellIn}
use Rattle.named.specs.declared.slot.Slot.{Slot}
use Rattle.named.specs.declared.slot.Slot.TheVariants.{Closed, Open}

-- the kind of a slot's queue, where it is open
abbrev pub kind_in : Slot → Option Kind
kind_in Closed = None
kind_in (Open block) = Some block.core.shape.kind

-- the world in a slot, where it is open
abbrev pub world_in : Words → Slot → Option State
world_in ws Closed = None
world_in ws (Open block) = Some (state_in ws block)

-- the room in the history of a slot's queue: how many further acts it has memory for
abbrev pub room_in : Slot → ℕ
room_in Closed = 0
room_in (Open block) = block.core.trace.room

-- no more calls of the queue took effect than there are events
abbrev pub AreEffectsFew : Slot → Type 0
AreEffectsFew Closed = Unit {0}
AreEffectsFew (Open block) = length block.core.trace.log.effects ≤ length block.core.trace.log.events

-- nothing happened yet in the history of the slot's queue
abbrev pub HasEmptyHistory : Slot → Type 0
HasEmptyHistory Closed = Unit {0}
HasEmptyHistory (Open block) = block.core.trace.log ≡ empty_trace

-- an act makes this of the world, where there is one
abbrev pub acted : (State → State) → Option State → Option State
acted f (Some w) = Some (f w)
acted f None = None

-- it is answered this; a closed slot has no queue
abbrev pub answered : {T : Type 0} → (State → Result T Refusal) → Option State → Result T Refusal
answered f (Some w) = f w
answered f None = Err NoQueue

-- this holds of the world, where there is one
abbrev pub IfWorld : Option State → (State → Type 0) → Type 0
IfWorld (Some w) p = p w
IfWorld None p = Unit {0}

-- why what a slot's queue has is not given out: there is no queue, or, where there is one, no memory
abbrev pub IsWhyUnread : Option State → Refusal → Type 0
IsWhyUnread (Some w) refusal = refusal ≡ NoMemory
IsWhyUnread None refusal = refusal ≡ NoQueue

-- the block of an open slot is inside the memory, and its world holds there
abbrev pub IsSlotWell : Words → Slot → Type 0
IsSlotWell ws Closed = Unit {0}
IsSlotWell ws (Open block) = IsWellIn ws block

-- what waits in the slot's queue to complete a flush has asked for it
abbrev pub IsSlotAsked : MemoryState → Slot → Type 0
IsSlotAsked m Closed = Unit {0}
IsSlotAsked m (Open block) = IsAskedIn m block

-- through every port that is not the slot's queue's the same was asked for
abbrev pub AskAlikeBesideSlot : Slot → MemoryState → MemoryState → Type 0
AskAlikeBesideSlot Closed old new = new.asked ≡ old.asked
AskAlikeBesideSlot (Open block) old new = AskAlikeBeside block.port old new

-- two memories differ within the slot's block at most
abbrev pub IsSameOutsideSlot : Slot → Words → Words → Type 0
IsSameOutsideSlot Closed old new = new ≡ old
IsSameOutsideSlot (Open block) old new = IsSameOutside block.from block.len old new

-- the slot is closed, or open with a queue of the same kind in the same place
abbrev pub IsSameSlot : Slot → Slot → Type 0
IsSameSlot Closed Closed = Unit {0}
IsSameSlot (Open old) (Open new) = LieInOnePlace old new
IsSameSlot _ _ = ⊥

-- the recovery of the slot's queue is as far as it was
abbrev pub IsAsReady : Slot → Slot → Type 0
IsAsReady (Open old) (Open new) = new.core.trace.recovery ≡ old.core.trace.recovery
IsAsReady _ _ = Unit {0}

-- the slot's queue is ready, or recovers; a closed slot has none
abbrev pub IsReadyIn : Bool → Slot → Type 0
IsReadyIn ready Closed = Unit {0}
IsReadyIn ready (Open block) = is_some block.core.trace.recovery ≡ not ready

-- the word is one of the queue's block
abbrev pub IsWordIn : BlockState → ℕ → Type 0
IsWordIn block word = (block.from ≤ word) × (word < block.from + block.len)

abbrev pub IsWordOf : Slot → ℕ → Type 0
IsWordOf Closed word = Unit {0}
IsWordOf (Open block) word = IsWordIn block word

-- what an eviction of a word of its block makes of the slot's world
abbrev pub world_evicted_in : Slot → ℕ → Words → Option State
world_evicted_in Closed word ws = None
world_evicted_in (Open block) word ws = Some (state_evicted_in ws word block)

-- what an eviction of a word of the slot's block leaves of the words outside it: a closed slot is evicted from itself
abbrev pub IsEvictedOutside : Slot → ℕ → Words → Words → Type 0
IsEvictedOutside Closed word old new = new ≡ words_after_eviction word old
IsEvictedOutside (Open block) word old new = IsSameOutside block.from block.len old new

-- the history of the slot's queue, if it has one, has room for so many acts
abbrev pub HasRoomFor : ℕ → Slot → Type 0
HasRoomFor acts Closed = Unit {0}
HasRoomFor acts (Open block) = acts ≤ block.core.trace.room

-- an act on the slot's queue went through its block and its ports alone, and all is well with it again
pub record IsWithinSlot (old_memory : MemoryState) (old : Slot) (new_memory : MemoryState) (new : Slot) : Type 0 where
  pub well : IsSlotWell new_memory.words new
  pub asked : IsSlotAsked new_memory new
  pub beside : AskAlikeBesideSlot old old_memory new_memory
  pub outside : IsSameOutsideSlot old old_memory.words new_memory.words
  pub same : IsSameSlot old new
  pub as_ready : IsAsReady old new

-- an act by a rule, of a client or of recovery: a closed slot has no queue
pub record IsActInSlot {A : Type 0} (rule : Rule A) (old_words : Words) (old : Slot) (result : Result A Refusal)
    (new_words : Words) (new : Slot) : Type 0 where
  pub world : world_in new_words new ≡ acted (rule.leaves (is_no_memory result)) (world_in old_words old)
  pub answers : result ≡ answered (rule.answers (is_no_memory result)) (world_in old_words old)
  pub full : is_no_memory result ≡ true → room_in old ≡ 0
  pub room : room_in old ≤ room_in new + 1
  pub spare : IfErr result (λ e. room_in old ≤ room_in new)

-- and a client's call that goes on alone
pub record IsAloneInSlot (client : Client) (old_words : Words) (old : Slot) (result : Result (Reply × ℕ) Refusal)
    (new_words : Words) (new : Slot) : Type 0 where
  pub refused : (refusal : Refusal) → answered (λ w. waiting_in w client) (world_in old_words old) ≡ Err refusal
      → result ≡ Err refusal
  pub errors : IfErr result
      (λ e. (e ≡ NoMemory) ⊎ (answered (λ w. waiting_in w client) (world_in old_words old) ≡ Err e))
  pub full : is_no_memory result ≡ true → room_in old ≡ 0
  pub same : IfErr result (λ e. world_in new_words new ≡ world_in old_words old)
  pub steps : IfOk result (λ answer. answer.1 ≤ MAX_STEPS_ALONE)
  pub answer : IfOk result
      (λ answer. IfWorld (world_in old_words old) (λ w. IsAnsweredAlone w client answer.1 answer.0))
  pub world : IfOk result
      (λ answer. world_in new_words new ≡ acted (λ w. after_alone answer.1 w client) (world_in old_words old))
  pub room : room_in old ≤ room_in new + 1
  pub spare : IfErr result (λ e. room_in old ≤ room_in new)

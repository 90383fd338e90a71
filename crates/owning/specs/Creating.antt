-- A creation that runs to its end.
use Rattle.std.specs.Prelude.{◌≡◌, ◌≢◌, ℕ, List, None, Option, Some, Result, Ok, Err, slice_set}
use Rattle.words.specs.declared.call.Kind.{Kind}
use Rattle.words.specs.declared.refusal.Refusal.{Refusal}
use Rattle.words.specs.declared.refusal.Refusal.TheVariants.{BadName}
use Rattle.arena.specs.Shape.{shape_of}
use Rattle.arena.specs.declared.broker.SlotId.{SlotId}
use Rattle.directory.specs.Directory.{IsLowestFree}
use Rattle.interleave.specs.State.{world_over}
use Rattle.named.specs.Brokers.{block_words, quiet, world_at, IsNotCreated, MayCreate}
use Rattle.session.specs.Sessions.{Sessioned}

-- the lowest free slot has the queue now, with a new world on its words; the other queues and all that is kept are as
-- they were
pub record IsCreated (old new : Sessioned) (name : List ℕ) (kind : Kind) (slot : ℕ) : Type 0 where
  pub may : MayCreate old.broker name
  pub free : IsLowestFree old.broker.directory slot
  pub counts : new.broker.counts ≡ old.broker.counts
  pub directory : new.broker.directory
      ≡ slice_set old.broker.directory slot (Some (record { name = name; kind = kind }))
  pub world : world_at new.broker slot
      ≡ Some (world_over (shape_of kind old.broker.counts) (block_words old.broker.counts slot new.broker.words))
  pub others : (other : ℕ) → other ≢ slot → quiet (world_at new.broker other) ≡ quiet (world_at old.broker other)
  pub ended : new.broker.creation ≡ None
  pub ready : new.broker.recovery ≡ None
  pub kept : new.kept ≡ old.kept

-- what a creation comes to that runs to its end
abbrev pub IsCreation : Sessioned → Sessioned → List ℕ → Kind → Result SlotId Refusal → Type 0
IsCreation old new name kind (Ok slot) = IsCreated old new name kind slot.0
IsCreation old new name kind (Err refusal) = IsNotCreated old.broker name refusal × (new ≡ old)

-- and what a request for one does, where a queue that is none is a text that is no name
abbrev pub IsCreationOf : Sessioned → Sessioned → Option (List ℕ) → Kind → Result SlotId Refusal → Type 0
IsCreationOf old new (Some name) kind result = IsCreation old new name kind result
IsCreationOf old new None kind result = (result ≡ Err BadName) × (new ≡ old)

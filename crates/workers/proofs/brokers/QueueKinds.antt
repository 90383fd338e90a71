-- The kind of a queue, by the directory and by its world.
use Rattle.std.proofs.Common.{◌≡◌, ℕ, Option, Some, None, slice_get, refl}
use Rattle.words.specs.declared.call.Kind.{Kind}
use Rattle.directory.specs.Directory.{HasQueue}
use Rattle.directory.specs.declared.queue.Queue.{Queue}
use Rattle.interleave.specs.State.{State}
use Rattle.named.specs.Brokers.{Brokered, IsWell, world_at, world_of}
use Rattle.named.specs.Memory.{Words}
use Rattle.named.specs.Slots.{kind_in, world_in}
use Rattle.named.specs.declared.slot.Slot.{Slot}
use Rattle.named.specs.declared.slot.Slot.TheVariants.{Closed, Open}

kind_in_slot : (ws : Words) (slot : Slot) (w : State) (kind : Kind) → world_in ws slot ≡ Some w
    → kind_in slot ≡ Some kind → w.shape.kind ≡ kind
kind_in_slot ws Closed w kind here is = absurd (cc (here))
kind_in_slot ws (Open block) w kind here is = cc (here, is)

-- they are the same
pub kind_of_queue : (b : Brokered) → IsWell b → (slot : ℕ) (w : State) (queue : Queue) → world_at b slot ≡ Some w
    → HasQueue b.directory slot queue → w.shape.kind ≡ queue.kind
kind_of_queue b well slot w queue here has = go (slice_get b.slots slot) refl here
  where
    go : (o : Option Slot) → slice_get b.slots slot ≡ o → world_of b.words o ≡ Some w → w.shape.kind ≡ queue.kind
    go None is there = absurd (cc (there))
    go (Some s) is there =
        kind_in_slot b.words s w queue.kind there (well.kinds slot s (Some queue) is has)

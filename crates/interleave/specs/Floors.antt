-- What a log queue's floors say of its clients' calls under way, and of what the kept words tell.
use Rattle.std.specs.Prelude.{◌≡◌, ℕ, ◌<◌, List, Some, None, slice_index}
use Rattle.words.specs.declared.call.Client.{Client}
use Rattle.words.specs.declared.limits.TheConstants.{MAX_CLIENTS}
use Rattle.interleave.specs.LogQueue.{floor_of}
use Rattle.sound_words.specs.Told.{told_by}
use Rattle.protocol.specs.Machine.{World}
use Rattle.protocol.specs.declared.UnderWay.{UnderWay}
use Rattle.interleave.specs.State.{State, machine}
use Rattle.interleave.specs.declared.queue.Queue.{Queue}
use Rattle.interleave.specs.declared.queue.Queue.TheVariants.{Durable, Log}

-- the floor of a client that has no call under way is the one by what the kept words tell it
abbrev pub AreFloorsTold : World → List ℕ → Type 0
AreFloorsTold w floors =
    (client : Client) → client.0 < MAX_CLIENTS → w.calls client.0 ≡ None
    → slice_index floors client.0 ≡ floor_of (told_by w.shape w.memory.kept client.0)

-- a call under way has a number above its client's floor; and in a ready world the floors of all other clients are told
pub record FloorsFit (w : World) (floors : List ℕ) : Type 0 where
  pub above : (client : Client) (u : UnderWay) → w.calls client.0 ≡ Some u
      → slice_index floors client.0 < u.begun.number
  pub told : w.recovery ≡ None → AreFloorsTold w floors

-- so it is of a log queue; a durable one has no floors
abbrev pub AreFloorsRightIn : Queue → World → Type 0
AreFloorsRightIn (Durable reports) w = Unit {0}
AreFloorsRightIn (Log clients) w = FloorsFit w clients.floors

abbrev pub AreFloorsRight : State → Type 0
AreFloorsRight w = AreFloorsRightIn w.queue (machine w)

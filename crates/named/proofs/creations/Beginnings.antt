-- A creation that begins keeps what holds of the broker, and a queue that is found has a world.
use Rattle.std.proofs.Common.{◌≡◌, ℕ, zero, suc, ◌<◌, List, [], ◌∷◌, length, slice_get, Option, Some, None, refl, sym, subst, arith}
use Rattle.std.specs.Prelude.{IfSome, IsSome}
use Rattle.std.proofs.lemmas.Option.{slice_get_within}
use Rattle.words.specs.declared.call.Kind.{Kind}
use Rattle.arena.specs.declared.broker.SlotId.{SlotId}
use Rattle.persist.specs.Memory.{Words}
use Rattle.directory.specs.Creation.{new_creation}
use Rattle.directory.specs.Directory.{HasName, IsFree, IsNamed}
use Rattle.directory.specs.Name.{IsName}
use Rattle.directory.specs.UnderWay.{IsAtRest}
use Rattle.directory.specs.declared.creation.Creation.{Creation}
use Rattle.directory.specs.declared.queue.Queue.{Queue}
use Rattle.directory.proofs.Facts.{creation_begins}
use Rattle.named.specs.Brokers.{Brokered, IsDirectoryAt, IsDirectoryIn, IsWell, world_at, world_of}
use Rattle.named.specs.declared.recovery.BrokerRecovery.{BrokerRecovery}
use Rattle.named.specs.Slots.{kind_in, world_in}
use Rattle.named.specs.declared.slot.Slot.{Slot}
use Rattle.named.specs.declared.slot.Slot.TheVariants.{Closed, Open}

abbrev pub begun : Brokered → SlotId → Queue → Brokered
begun b slot queue = record b { creation = Some (new_creation slot queue) }

pub begun_well : (b : Brokered) (slot : SlotId) (queue : Queue) → IsWell b → b.recovery ≡ None → b.creation ≡ None → IsFree b.directory slot.0
    → IsName queue.name → (HasName b.directory queue.name → ⊥) → IsWell (begun b slot queue)
begun_well b slot queue holds ready idle free named is_new =
    let at_ready : IsDirectoryIn b.words b.creation b.directory = subst (λ (o : Option BrokerRecovery). IsDirectoryAt b.words o b.creation b.directory) ready holds.directory in
    let rest : IsAtRest b.words b.directory = subst (λ (o : Option Creation). IsDirectoryIn b.words o b.directory) idle at_ready in
    let creating : IsDirectoryIn b.words (Some (new_creation slot queue)) b.directory = record { under_way = creation_begins b.words slot queue b.directory rest free named; is_new = is_new } in
    record {
      counts = holds.counts;
      room = holds.room;
      head = holds.head;
      count = holds.count;
      slots = holds.slots;
      listed = holds.listed;
      kinds = holds.kinds;
      directory = subst (λ (o : Option BrokerRecovery). IsDirectoryAt b.words o (Some (new_creation slot queue)) b.directory) (sym ready) creating;
      readiness = holds.readiness;
    }

pub get_there : {X : Type 0} (xs : List X) (i : ℕ) → i < length xs → slice_get xs i ≡ None → ⊥
get_there [] i h e = absurd (omega (arith, h))
get_there (x ∷ xs) zero h e = absurd (cc)
get_there (x ∷ xs) (suc i) h e = get_there xs i (omega (arith, h)) e

some_world : (ws : Words) (slot : Slot) (kind : Kind) → kind_in slot ≡ Some kind → IsSome (world_in ws slot)
some_world ws Closed kind e = absurd (cc)
some_world ws (Open block) kind e = refl

-- a slot with a queue in the directory is open
pub listed_open : (b : Brokered) (slot : ℕ) (queue : Queue) → IsWell b → slice_get b.directory slot ≡ Some (Some queue) → IsSome (world_at b slot)
listed_open b slot queue holds has = go (slice_get b.slots slot) refl
  where
    go : (o : Option Slot) → slice_get b.slots slot ≡ o → IsSome (world_of b.words o)
    go (Some s) e = some_world b.words s queue.kind (holds.kinds slot s (Some queue) e has)
    go None e = absurd (get_there b.slots slot (omega (arith, slice_get_within b.directory slot (Some queue) has, holds.listed.count, holds.count)) e)

pub found_open : (b : Brokered) (r : Option SlotId) (name : List ℕ) → IsWell b → IfSome r (λ slot. IsNamed b.directory slot.0 name)
    → IfSome r (λ slot. IsSome (world_at b slot.0))
found_open b None name holds found = tt
found_open b (Some slot) name holds found = listed_open b slot.0 found.queue holds found.has

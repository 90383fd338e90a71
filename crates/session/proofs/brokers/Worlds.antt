-- The worlds of a broker that is well: each holds, and all are ready once the broker is. And what it is that a slot's
-- queue is laid out as it was.
use Rattle.std.proofs.Common.{◌≡◌, ℕ, ◌<◌, ◌≤◌, true, Option, Some, None, slice_get, sym, ap, subst, ◌∙◌, refl}
use Rattle.words.specs.declared.call.Client.{Client}
use Rattle.words.specs.declared.limits.TheConstants.{MAX_CLIENTS}
use Rattle.persist.specs.Memory.{Words}
use Rattle.arena.specs.Shape.{Shape}
use Rattle.interleave.specs.Holds.{Holds}
use Rattle.interleave.specs.State.{State}
use Rattle.interleave.proofs.Facts.{is_none, uncounted}
use Rattle.named.specs.Brokers.{Brokered, IsSlotAt, IsWell, is_ready_at, quiet, world_at, world_of}
use Rattle.named.specs.Slots.{IsReadyIn, world_in}
use Rattle.named.specs.declared.recovery.BrokerRecovery.{BrokerRecovery}
use Rattle.named.specs.declared.slot.Slot.{Slot}
use Rattle.named.specs.declared.slot.Slot.TheVariants.{Closed, Open}
use Rattle.named.proofs.Facts.{none_some, world_holds}
use Rattle.session.specs.Sessions.{IsLogClient}

-- a ready slot's world is ready
up_in : (ws : Words) (slot : Slot) (w : State) → IsReadyIn true slot → world_in ws slot ≡ Some w → w.recovery ≡ None
up_in ws Closed w ready e = absurd (cc)
up_in ws (Open block) w ready e =
    let same : w.recovery ≡ block.core.trace.recovery = cc in same ∙ is_none block.core.trace.recovery ready

module _ (b : Brokered) (well : IsWell b) (slot : ℕ) (w : State) (here : world_at b slot ≡ Some w) where
  pub holds_there : Holds w
  holds_there = world_holds b slot w well here

  pub few_there : w.shape.clients ≤ MAX_CLIENTS
  few_there = holds_there.safe.few

  pub up_there : b.recovery ≡ None → w.recovery ≡ None
  up_there up = go (slice_get b.slots slot) refl here
    where
      go : (o : Option Slot) → slice_get b.slots slot ≡ o → world_of b.words o ≡ Some w → w.recovery ≡ None
      go None is there = absurd (none_some there)
      go (Some s) is there =
          up_in b.words s w
          (subst (λ (r : Option BrokerRecovery). IsReadyIn (is_ready_at r slot) s) up (well.readiness slot s is)) there

  -- it has as many clients as the broker
  pub clients_there : w.shape.clients ≡ b.counts.clients
  clients_there = go (slice_get b.slots slot) refl here
    where
      by_slot : (s : Slot) → IsSlotAt b.counts b.words slot s → world_in b.words s ≡ Some w
          → w.shape.clients ≡ b.counts.clients
      by_slot Closed at there = absurd (none_some there)
      by_slot (Open block) at there =
          let same : w.shape ≡ block.core.shape = cc (there) in
          ap (λ (x : Shape). x.clients) (same ∙ at.shape)

      go : (o : Option Slot) → slice_get b.slots slot ≡ o → world_of b.words o ≡ Some w
          → w.shape.clients ≡ b.counts.clients
      go None is there = absurd (none_some there)
      go (Some s) is there = by_slot s (well.slots slot s is) there

-- a slot's queue is there, laid out as it was
pub record IsLaidOutAs (w : State) (now : Option State) : Type 0 where
  pub world : State
  pub is : now ≡ Some world
  pub shape : world.shape ≡ w.shape

-- so it is where nothing but the count of accesses changed
pub laid_out_quiet : (w : State) (now : Option State) → quiet now ≡ quiet (Some w) → IsLaidOutAs w now
laid_out_quiet w None e = absurd (cc (e))
laid_out_quiet w (Some v) e =
    let same : uncounted v ≡ uncounted w = cc (e) in
    record { world = v; is = refl; shape = ap (λ (x : State). x.shape) same }

-- where every queue is, each client of a log queue stays one
pub client_stays : (old new : Brokered)
    → ((at : ℕ) (w : State) → world_at old at ≡ Some w → IsLaidOutAs w (world_at new at))
    → (at : ℕ) (client : Client) → IsLogClient old at client → IsLogClient new at client
client_stays old new laid at client is =
    let now = laid at is.world is.here in
    record {
      world = now.world;
      here = now.is;
      log = ap (λ (s : Shape). s.kind) now.shape ∙ is.log;
      few = subst (λ (s : Shape). client.0 < s.clients) (sym now.shape) is.few;
    }

-- The steps of a broker's recovery that read the directory.
use Rattle.std.proofs.Common.{◌≡◌, ℕ, Bool, false, Option, Some, None, slice_get, refl, sym, ◌∙◌, subst, arith}
use Rattle.directory.specs.UnderWay.{IsAtRest}
use Rattle.directory.specs.declared.recovery.DirectoryRecovery.{DirectoryRecovery}
use Rattle.named.specs.Brokers.{Brokered, IsReading, IsWell, is_ready_at}
use Rattle.named.specs.Slots.{IfWorld, IsReadyIn}
use Rattle.named.specs.Stopping.{IsNext, IsReadingDirectory, creation_after}
use Rattle.named.specs.declared.recovery.BrokerRecovery.{BrokerRecovery}
use Rattle.named.specs.declared.recovery.BrokerRecovery.TheVariants.{ReadDirectory, RecoverQueue}
use Rattle.named.specs.declared.slot.Slot.{Slot}
use Rattle.interleave.specs.Telling.{IsToldAtReady}
use Rattle.named.specs.Telling.{TellAtReady}
use Rattle.interleave.specs.State.{State}
use Rattle.named.proofs.downtime.Nexts.{no_world, ready_next, rest_next}

-- no queue is ready while the directory is read
none_ready : (recovery : Option BrokerRecovery) (at : ℕ) → IsReadingDirectory recovery → is_ready_at recovery at ≡ false
none_ready None at reading = absurd reading
none_ready (Some (ReadDirectory d)) at reading = refl
none_ready (Some (RecoverQueue slot)) at reading = absurd reading

module _ (b : Brokered) (holds : IsWell b) (down : IsReadingDirectory b.recovery) where
  pub not_ready : (at : ℕ) (slot : Slot) → slice_get b.slots at ≡ Some slot → IsReadyIn false slot
  not_ready at slot here = subst (λ (r : Bool). IsReadyIn r slot) (none_ready b.recovery at down) (holds.readiness at slot here)

  -- it is read on
  pub well_read_on : (next : DirectoryRecovery) → IsReading b.words next b.creation b.directory → IsWell (record b { recovery = Some (ReadDirectory next) })
  well_read_on next reading = record {
    counts = holds.counts;
    room = holds.room;
    head = holds.head;
    count = holds.count;
    slots = holds.slots;
    listed = holds.listed;
    kinds = holds.kinds;
    directory = reading;
    readiness = not_ready;
  }

  -- it was read
  pub well_read : (recovery : Option BrokerRecovery) → IsAtRest b.words b.directory → IsNext b.directory 0 recovery
      → IsWell (record b { recovery = recovery; creation = creation_after b.creation recovery })
  well_read recovery rest next = record {
    counts = holds.counts;
    room = holds.room;
    head = holds.head;
    count = holds.count;
    slots = holds.slots;
    listed = holds.listed;
    kinds = holds.kinds;
    directory = rest_next b.words b.directory b.creation 0 recovery rest next;
    readiness = λ at slot here. ready_next b.slots b.directory (holds.count ∙ sym holds.listed.count) holds.kinds 0 recovery next at slot here
        (λ less. absurd (omega (arith, less))) (λ past. not_ready at slot here);
  }

  -- then no queue is ready whose clients would be told something
  pub tells_read : (recovery : Option BrokerRecovery) → IsNext b.directory 0 recovery
      → TellAtReady b (record b { recovery = recovery; creation = creation_after b.creation recovery })
  tells_read recovery next at before now =
      subst (λ (o : Option State). IfWorld o IsToldAtReady)
      (sym (no_world b.slots b.directory (holds.count ∙ sym holds.listed.count) holds.kinds b.words 0 recovery next at (omega arith) now)) tt

-- What recovery of a broker is about to do next: the queue that has one in the lowest slot left, or nothing.
use Rattle.std.proofs.Common.{◌≡◌, ℕ, ◌<◌, ◌≤◌, ◌⊎◌, inl, inr, Bool, true, false, List, Option, Some, None, length, slice_get, refl, sym, ap, subst, arith}
use Rattle.std.specs.Option.{option_map}
use Rattle.std.specs.Prelude.{nat_lt}
use Rattle.std.proofs.lemmas.Bool.{cases_lt, le-ltb, lt-ltb, ltb-true}
use Rattle.std.proofs.lemmas.Option.{slice_get_within}
use Rattle.persist.specs.Memory.{Words}
use Rattle.directory.specs.Directory.{Directory, HasQueue}
use Rattle.directory.specs.UnderWay.{IsAtRest}
use Rattle.directory.specs.declared.creation.Creation.{Creation}
use Rattle.directory.specs.declared.queue.Queue.{Queue}
use Rattle.named.specs.Brokers.{IsDirectoryAt, is_ready_at, world_of}
use Rattle.named.specs.Slots.{IsReadyIn, kind_in, world_in}
use Rattle.named.specs.Stopping.{IsNext, creation_after}
use Rattle.named.specs.declared.recovery.BrokerRecovery.{BrokerRecovery}
use Rattle.named.specs.declared.recovery.BrokerRecovery.TheVariants.{ReadDirectory, RecoverQueue}
use Rattle.named.specs.declared.slot.Slot.{Slot}
use Rattle.named.specs.declared.slot.Slot.TheVariants.{Closed}
use Rattle.named.proofs.creations.Beginnings.{get_there}
use Rattle.named.proofs.creations.Steps.{closed_where_free}

-- the kinds of the slots' queues are those that the directory has
abbrev pub AreOfKinds : List Slot → Directory → Type 0
AreOfKinds slots directory =
    (at : ℕ) (slot : Slot) (queue : Option Queue) → slice_get slots at ≡ Some slot → slice_get directory at ≡ Some queue
    → kind_in slot ≡ option_map (λ (q : Queue). q.kind) queue

module _ (slots : List Slot) (directory : Directory) (same : length slots ≡ length directory) (kinds : AreOfKinds slots directory) where
  -- a slot without a queue is closed
  pub closed_without : (at : ℕ) (slot : Slot) → slice_get slots at ≡ Some slot → ((q : Queue) → HasQueue directory at q → ⊥) → slot ≡ Closed
  closed_without at slot here without = go (slice_get directory at) refl
    where
      go : (o : Option (Option Queue)) → slice_get directory at ≡ o → slot ≡ Closed
      go (Some (Some q)) e = absurd (without q e)
      go (Some None) e = closed_where_free slot (kinds at slot None here e)
      go None e = absurd (get_there directory at (omega (arith, slice_get_within slots at slot here, same)) e)

  -- the queues below this slot are ready and the others are not, so each is as ready as what is next says
  pub ready_next : (from : ℕ) (recovery : Option BrokerRecovery) → IsNext directory from recovery → (at : ℕ) (slot : Slot) → slice_get slots at ≡ Some slot
      → (at < from → IsReadyIn true slot) → (from ≤ at → IsReadyIn false slot) → IsReadyIn (is_ready_at recovery at) slot
  ready_next from None next at slot here below above = go (cases_lt at from)
    where
      go : (at < from) ⊎ (from ≤ at) → IsReadyIn true slot
      go (inl less) = below less
      go (inr past) = subst (IsReadyIn true) (sym (closed_without at slot here (λ q has. next at q past has))) tt
  ready_next from (Some (ReadDirectory d)) next at slot here below above = absurd next
  ready_next from (Some (RecoverQueue s)) next at slot here below above = go (cases_lt at s.0)
    where
      lower : (at < from) ⊎ (from ≤ at) → at < s.0 → IsReadyIn true slot
      lower (inl less) h = below less
      lower (inr past) h = subst (IsReadyIn true) (sym (closed_without at slot here (λ q has. next.none_before at q past h has))) tt

      go : (at < s.0) ⊎ (s.0 ≤ at) → IsReadyIn (nat_lt at s.0) slot
      go (inl less) = subst (λ (r : Bool). IsReadyIn r slot) (sym (lt-ltb at s.0 less)) (lower (cases_lt at from) less)
      go (inr past) = subst (λ (r : Bool). IsReadyIn r slot) (sym (le-ltb at s.0 past)) (above (omega (arith, past, next.past)))

  -- none of the others has a world that is ready
  pub no_world : (ws : Words) (from : ℕ) (recovery : Option BrokerRecovery) → IsNext directory from recovery → (at : ℕ) → from ≤ at
      → is_ready_at recovery at ≡ true → world_of ws (slice_get slots at) ≡ None
  no_world ws from recovery next at past ready = go (slice_get slots at) refl
    where
      without : (r : Option BrokerRecovery) → IsNext directory from r → is_ready_at r at ≡ true → (q : Queue) → HasQueue directory at q → ⊥
      without None n e q has = n at q past has
      without (Some (ReadDirectory d)) n e q has = absurd n
      without (Some (RecoverQueue s)) n e q has = n.none_before at q past (ltb-true at s.0 e) has

      go : (o : Option Slot) → slice_get slots at ≡ o → world_of ws o ≡ None
      go (Some slot) e = ap (world_in ws) (closed_without at slot e (without recovery next ready))
      go None e = refl

-- the directory was read
pub rest_next : (ws : Words) (directory : Directory) (creation : Option Creation) (from : ℕ) (recovery : Option BrokerRecovery) → IsAtRest ws directory
    → IsNext directory from recovery → IsDirectoryAt ws recovery (creation_after creation recovery) directory
rest_next ws directory creation from None rest next = rest
rest_next ws directory creation from (Some (ReadDirectory d)) rest next = absurd next
rest_next ws directory creation from (Some (RecoverQueue s)) rest next = record { rest = rest; queue = next.queue; has = next.has }

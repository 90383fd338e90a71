-- The queues that there were when the seats were given are seen still.
use Rattle.std.proofs.Common.{◌≡◌, ◌∙◌, ◌⊎◌, ◌<◌, inl, inr, ℕ, Bool, length, List, Option, Some, None, Result, Ok, Err, IfOk, slice_get, refl, sym, ap, subst, arith}
use Rattle.std.specs.Prelude.{IfNone, IfSome}
use Rattle.std.proofs.lemmas.Option.{slice_get_within}
use Rattle.words.specs.declared.refusal.Refusal.{Refusal}
use Rattle.arena.specs.declared.broker.SlotId.{SlotId}
use Rattle.directory.specs.Directory.{Directory, HasName, HasQueue, IsDirectory, IsFree, IsNamed}
use Rattle.directory.specs.declared.queue.Queue.{Queue}
use Rattle.named.specs.Brokers.{Brokered}
use Rattle.named.proofs.Facts.{get_there}
use Rattle.workers.specs.Coming.{CameThrough}
use Rattle.workers.proofs.brokers.Comings.{queues_through}
use Rattle.workers.specs.Looking.{IsFoundOf, IsListedOf}

-- a slot that has a queue now had that queue, or was free
module _ (first now : Brokered) (was : Bool) (came : CameThrough first was now) (listed : IsDirectory first.directory)
    (listed_now : IsDirectory now.directory) where
  pub had_or_free : (slot : ℕ) (queue : Queue) → HasQueue now.directory slot queue
      → HasQueue first.directory slot queue ⊎ IsFree first.directory slot
  had_or_free slot queue has = go (slice_get first.directory slot) refl
    where
      below : slot < length first.directory
      below = omega (arith, slice_get_within now.directory slot (Some queue) has, listed.count, listed_now.count)

      go : (o : Option (Option Queue)) → slice_get first.directory slot ≡ o
          → HasQueue first.directory slot queue ⊎ IsFree first.directory slot
      go None is = absurd (get_there first.directory slot below is)
      go (Some None) is = inr is
      go (Some (Some q)) is =
          let still = queues_through first was now came slot q is in
          let same : q ≡ queue = cc (still, has) in
          inl (is ∙ ap (λ (x : Queue). let r : Option (Option Queue) = Some (Some x) in r) same)

  -- and one that is free now was free
  pub free_before : (slot : ℕ) → IsFree now.directory slot → IsFree first.directory slot
  free_before slot free = go (slice_get first.directory slot) refl
    where
      below : slot < length first.directory
      below = omega (arith, slice_get_within now.directory slot None free, listed.count, listed_now.count)

      go : (o : Option (Option Queue)) → slice_get first.directory slot ≡ o → IsFree first.directory slot
      go None is = absurd (get_there first.directory slot below is)
      go (Some None) is = is
      go (Some (Some q)) is =
          let still = queues_through first was now came slot q is in
          absurd (cc (still, free))

  -- by its name
  found_none : (name : List ℕ) → (HasName now.directory name → ⊥) → IsFoundOf first.directory name None
  found_none name none = record {
    there = λ slot here.
        absurd (none (record {
          slot = slot;
          here = record {
            queue = here.queue;
            has = queues_through first was now came slot here.queue here.has;
            named = here.named;
          };
        }));
    right = λ slot is. absurd (cc (is));
  }

  found_slot : (name : List ℕ) (found : SlotId) → IsNamed now.directory found.0 name
      → IsFoundOf first.directory name (Some found)
  found_slot name found some = record {
    there = λ slot here.
        let same : found.0 ≡ slot =
        listed_now.once found.0 slot some.queue here.queue some.has
        (queues_through first was now came slot here.queue here.has) (some.named ∙ sym here.named) in
        ap (λ (n : ℕ). let r : Option SlotId = Some (record { 0 = n }) in r) same;
    right = λ slot is.
        let same : found ≡ slot = cc (is) in
        elim (had_or_free found.0 some.queue some.has) [
          | inl had ↦
              subst (λ (x : SlotId). IsNamed first.directory x.0 name ⊎ IsFree first.directory x.0) same
              (inl (record { queue = some.queue; has = had; named = some.named }))
          | inr free ↦
              subst (λ (x : SlotId). IsNamed first.directory x.0 name ⊎ IsFree first.directory x.0) same (inr free)
        ];
  }

  -- where the broker is ready
  pub found_in : (name : List ℕ) (r : Result (Option SlotId) Refusal)
      → IfOk r (λ found. IfSome found (λ slot. IsNamed now.directory slot.0 name))
      → IfOk r (λ found. IfNone found (HasName now.directory name → ⊥)) → IfOk r (IsFoundOf first.directory name)
  found_in name (Err refusal) some none = tt
  found_in name (Ok None) some none = found_none name none
  found_in name (Ok (Some found)) some none = found_slot name found some

  -- in the directory
  pub listed_still : IsListedOf first.directory now.directory
  listed_still = record {
    listed = listed_now;
    queues = λ slot queue has. queues_through first was now came slot queue has;
  }

-- What a creation's step opened is in the directory.
use Rattle.std.proofs.Common.{◌≡◌, refl, sym, ap, ◌∙◌, subst, arith, ℕ, ◌<◌, get_or, length}
use Rattle.std.specs.Prelude.{Option, Some, None, Result, Ok, Err, IfErr, IfSome, IsOk, IsSome, is_some, slice_get, slice_set, unwrap_or}
use Rattle.std.proofs.lemmas.Bool.{false≢true}
use Rattle.std.proofs.lemmas.Option.{slice_get_read, slice_get_within}
use Rattle.words.specs.declared.refusal.Refusal.{Refusal}
use Rattle.words.specs.declared.refusal.Refusal.TheVariants.{NotReady}
use Rattle.arena.specs.declared.broker.SlotId.{SlotId}
use Rattle.arena.specs.declared.broker.TheConstants.{SLOTS}
use Rattle.directory.proofs.Facts.{set_here}
use Rattle.directory.specs.Creation.{after_point, next_of, successor}
use Rattle.directory.specs.Directory.{Directory, HasQueue}
use Rattle.directory.specs.declared.creation.Creation.{Creation}
use Rattle.directory.specs.declared.creation.CreationPoint.{CreationPoint}
use Rattle.directory.specs.declared.creation.CreationPoint.TheVariants.{Store, Flush, Fence}
use Rattle.directory.specs.declared.creation.SlotWord.TheVariants.{FirstName, SecondName, Kind, Gate}
use Rattle.directory.specs.declared.queue.Queue.{Queue}
use Rattle.named.specs.Brokers.{Brokered, IsDirectoryAt, IsOpened, IsStepCreated, IsWell}
use Rattle.named.specs.declared.recovery.BrokerRecovery.{BrokerRecovery}
use Rattle.broker_script.specs.Creating.{HasSomeQueue, IsCreationAnswered}

-- the slot that a step opened is the creation's
opened_by : (old new : Brokered) (creation : Creation) (slot : SlotId) (at : CreationPoint)
    → IsStepCreated old new creation (Ok (Some slot)) (after_point creation.slot creation.queue (next_of at))
    → (slot ≡ creation.slot) × IsOpened old new creation creation.slot
opened_by old new creation slot (Store word) step = absurd (let e = step.0 in cc)
opened_by old new creation slot (Flush word) step = absurd (let e = step.0 in cc)
opened_by old new creation slot (Fence FirstName) step = absurd (let e = step.0 in cc)
opened_by old new creation slot (Fence SecondName) step = absurd (let e = step.0 in cc)
opened_by old new creation slot (Fence Kind) step = absurd (let e = step.0 in cc)
opened_by old new creation slot (Fence Gate) step = ((let e = step.0 in cc), step.1)

-- the broker has the queue then, and is ready
pub record IsThere (new : Brokered) (slot : SlotId) : Type 0 where
  pub ready : new.recovery ≡ None
  pub queue : Queue
  pub has : HasQueue new.directory slot.0 queue

opened : (old new : Brokered) (slot : SlotId) → IsWell old → IsCreationAnswered old (Ok (Some slot)) new
    → (recovery : Option BrokerRecovery) → old.recovery ≡ recovery → (creation : Option Creation)
    → old.creation ≡ creation → IsThere new slot
opened old new slot well step (Some recovery) down creation is =
    let e : Ok (Some slot) ≡ Err _ = step.down (ap is_some down) in absurd (cc)
opened old new slot well step None ready None is =
    let e : Ok (Some slot) ≡ Err _ = step.idle ready is in absurd (cc)
opened old new slot well step None ready (Some creation) is =
    let made : IfSome (Some creation) (λ c. IsStepCreated old new c (Ok (Some slot)) (successor c)) =
    subst (λ (o : Option Creation). IfSome o (λ c. IsStepCreated old new c (Ok (Some slot)) (successor c))) is (step.step ready) in
    let by = opened_by old new creation slot creation.at made in
    let directory : IsDirectoryAt old.words None (Some creation) old.directory =
    subst (λ (r : Option BrokerRecovery). IsDirectoryAt old.words r (Some creation) old.directory) ready
    (subst (λ (o : Option Creation). IsDirectoryAt old.words old.recovery o old.directory) is well.directory) in
    let small = directory.under_way.others.in_range in
    let count = directory.under_way.others.count in
    let here : slice_get (slice_set old.directory creation.slot.0 (Some creation.queue)) creation.slot.0 ≡ Some (Some creation.queue) =
    set_here old.directory creation.slot.0 (Some creation.queue) (omega arith) in
    record {
      ready = by.1.recovery ∙ ready;
      queue = creation.queue;
      has =
          ap (λ (s : SlotId). slice_get new.directory s.0) by.0
          ∙ ap (λ (d : Directory). slice_get d creation.slot.0) by.1.directory ∙ here;
    }

pub opened_there : (old new : Brokered) (slot : SlotId) → IsWell old → IsCreationAnswered old (Ok (Some slot)) new
    → IsThere new slot
opened_there old new slot well step = opened old new slot well step old.recovery refl old.creation refl

-- so it is of a step that may have opened one
pub opened_if : (old new : Brokered) (o : Option SlotId) → IsWell old → IsCreationAnswered old (Ok o) new
    → IfSome o (λ slot. (queue : Queue) × HasQueue new.directory slot.0 queue)
opened_if old new None well step = tt
opened_if old new (Some slot) well step =
    let there = opened_there old new slot well step in (there.queue, there.has)

-- a slot with a queue is one of the eight
pub within_places : (b : Brokered) → IsWell b → (slot : ℕ) → HasSomeQueue b.directory slot → slot < SLOTS
within_places b well slot has =
    subst (λ (n : ℕ). slot < n) well.listed.count (slice_get_within b.directory slot (Some has.0) has.1)

-- what is refused only while recovery is under way is not refused once it has ended
pub ready_is_ok : {T : Type 0} (r : Result T Refusal) (recovery : Option BrokerRecovery)
    → IfErr r (λ e. (e ≡ NotReady) × IsSome recovery) → recovery ≡ None → IsOk r
ready_is_ok (Ok t) recovery refused none = refl
ready_is_ok (Err e) recovery refused none = absurd (false≢true (subst IsSome none refused.1))

-- the queue that was read in its place
module _ (directory places : Directory) (slot : ℕ) (read : Option Queue) (same : places ≡ directory)
    (has : HasSomeQueue directory slot) (is : read ≡ get_or places slot read) where
  here : slice_get places slot ≡ Some (Some has.0)
  here = ap (λ (d : Directory). slice_get d slot) same ∙ has.1

  read_here : slice_get places slot ≡ Some read
  read_here = slice_get_read places (length places) slot read refl (slice_get_within places slot (Some has.0) here) is

  pub is_read : IsSome (get_or places slot read)
  is_read =
      let value : read ≡ Some has.0 = ap (λ (o : Option (Option Queue)). unwrap_or o read) (sym read_here ∙ here) in
      subst IsSome (sym value ∙ is) refl

  pub read_queue : (found : Queue) → get_or places slot read ≡ Some found → HasQueue directory slot found
  read_queue found some = ap (λ (d : Directory). slice_get d slot) (sym same) ∙ read_here ∙ ap Some (is ∙ some)

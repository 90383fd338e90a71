-- A broker that began on kept words recovers, step by step, until it is ready.
use Rattle.std.proofs.Common.{◌≡◌, ℕ, ◌<◌, Bool, true, false, is_none, is_some, Option, Some, None, Result, Ok, Err, slice_get, refl, sym, ap, subst, ◌∙◌}
use Rattle.std.specs.Prelude.{IsSome}
use Rattle.words.specs.declared.refusal.Refusal.{Refusal}
use Rattle.arena.specs.Shape.{Counts, shape_of}
use Rattle.arena.specs.declared.broker.TheConstants.{SLOTS}
use Rattle.persist.specs.Memory.{Words}
use Rattle.directory.specs.Directory.{Directory, HasQueue}
use Rattle.directory.specs.Queue.{directory_of, slot_in}
use Rattle.directory.specs.Sound.{counts_in}
use Rattle.directory.specs.declared.queue.Queue.{Queue}
use Rattle.directory.proofs.Facts.{directory_at}
use Rattle.interleave.specs.Booted.{booted_world}
use Rattle.interleave.specs.State.{State, recover_result}
use Rattle.named.specs.Booting.{AreBootWords, IsBooted, kept_block, world_booted}
use Rattle.named.specs.Brokers.{Brokered, IsWell, block_words, is_ready_at, world_at}
use Rattle.named.specs.Promises.{KeepsPromises}
use Rattle.named.specs.Slots.{IfWorld, answered}
use Rattle.named.specs.Stopping.{IsQueueOn, IsRecoveryStep}
use Rattle.interleave.specs.Telling.{IsToldAtReady}
use Rattle.named.specs.Telling.{TellAtReady}
use Rattle.named.specs.declared.recovery.BrokerRecovery.{BrokerRecovery}
use Rattle.named.specs.declared.recovery.BrokerRecovery.TheVariants.{ReadDirectory, RecoverQueue}
use Rattle.named.proofs.Facts.{listed_open, open_below}
use Rattle.session.specs.Sessions.{IsUncalled}
use Rattle.session.proofs.Facts.{uncalled_booted, uncalled_recovered}
use Rattle.opening.specs.Opening.{IsOpened, IsQueueOpened, Recovers}
use Rattle.opening.specs.Opening.Recovers.{nothing, next}
use Rattle.opening.proofs.StepsKeep.{IsAsKept, IsStepKept, step_keeps}

-- how far a broker is that began as `start`
pub record IsRecovering (start b : Brokered) : Type 0 where
  pub steps : Recovers start b
  pub promises : KeepsPromises b
  pub counts : b.counts ≡ start.counts
  pub directory : b.directory ≡ start.directory
  pub creation : b.creation ≡ None
  pub worlds : (slot : ℕ) (w : State) → world_at start slot ≡ Some w → IsAsKept w (world_at b slot)
  pub told : (slot : ℕ) → is_ready_at b.recovery slot ≡ true → IfWorld (world_at b slot) IsToldAtReady
  pub uncalled : IsUncalled b

-- as it begins
pub recovering_begins : (ws : Words) (start : Brokered) → KeepsPromises start → IsBooted ws start
    → IsRecovering start start
recovering_begins ws start promises booted = record {
  steps = nothing;
  promises = promises;
  counts = refl;
  directory = refl;
  creation = booted.creation;
  worlds = λ slot w here.
      record { world = w; is = here; shape = refl; holds = refl; tells = refl; order = refl };
  told = λ slot up.
      let down : is_ready_at start.recovery slot ≡ false =
      ap (λ (r : Option BrokerRecovery). is_ready_at r slot) booted.recovery in
      absurd (cc (down, up));
  uncalled = uncalled_booted ws start promises.well booted;
}

-- a step further
pub recovering_goes_on : (start old new : Brokered) (ready : Bool) → IsRecovering start old
    → IsRecoveryStep old new (Ok ready) old.recovery → TellAtReady old new → KeepsPromises new → IsRecovering start new
recovering_goes_on start old new ready so_far step tells promises =
    let kept = step_keeps old new so_far.creation ready so_far.promises.well step in
    record {
      steps = next ready so_far.steps step;
      promises = promises;
      counts = kept.counts ∙ so_far.counts;
      directory = kept.directory ∙ so_far.directory;
      creation = kept.creation;
      worlds = λ slot w here. kept.worlds slot w (so_far.worlds slot w here);
      told = λ slot up. told_now kept slot up (is_ready_at old.recovery slot) refl;
      uncalled = uncalled_recovered old new so_far.promises.well so_far.uncalled (Ok ready) step;
    }
  where
    told_now : IsStepKept old new → (slot : ℕ) → is_ready_at new.recovery slot ≡ true → (before : Bool)
        → is_ready_at old.recovery slot ≡ before → IfWorld (world_at new slot) IsToldAtReady
    told_now kept slot up true was = kept.told slot was (so_far.told slot was)
    told_now kept slot up false was = tells slot was up

-- a step answers whether the broker is ready
ready_read : (ready : Bool) (r : Option BrokerRecovery) (answer : Result Bool Refusal) → answer ≡ Ok ready
    → answer ≡ Ok (is_none r) → is_none r ≡ ready
ready_read ready r answer is e = cc (is, e)

module _ (old new : Brokered) (ready : Bool) where
  ready_recovered : (at : ℕ) (answer : Result Bool Refusal) → is_none old.recovery ≡ false
      → IsQueueOn old new at (Ok ready) answer → is_none new.recovery ≡ ready
  ready_recovered at (Err refusal) down on = absurd (cc (on.0))
  ready_recovered at (Ok true) down on = ready_read ready new.recovery (Ok ready) refl on.0
  ready_recovered at (Ok false) down on =
      let is : ready ≡ false = cc (on.0) in
      ap (λ (r : Option BrokerRecovery). is_none r) on.1 ∙ down ∙ sym is

  pub answers_ready : IsRecoveryStep old new (Ok ready) old.recovery → is_none new.recovery ≡ ready
  answers_ready step = go old.recovery refl step
    where
      go : (r : Option BrokerRecovery) → old.recovery ≡ r → IsRecoveryStep old new (Ok ready) r
          → is_none new.recovery ≡ ready
      go None turn made = absurd (cc (made.0))
      go (Some (ReadDirectory at)) turn made = ready_read ready new.recovery (Ok ready) refl made.answer
      go (Some (RecoverQueue at)) turn made =
          ready_recovered at.0 (answered (recover_result false) (world_at old at.0))
          (ap (λ (r : Option BrokerRecovery). is_none r) turn) made.next

pub none_left : (r : Option BrokerRecovery) → is_none r ≡ true → r ≡ None
none_left None e = refl
none_left (Some r) e = absurd (cc (e))

pub some_left : (r : Option BrokerRecovery) → is_none r ≡ false → is_some r ≡ true
some_left None e = absurd (cc (e))
some_left (Some r) e = refl

-- where an open slot's world begins
module _ (ws : Words) (start : Brokered) (well : IsWell start) (booted : IsBooted ws start) (slot : ℕ) (queue : Queue)
    (has : HasQueue (directory_of ws.kept) slot queue) where
  is_open : IsSome (world_at start slot)
  is_open =
      listed_open start slot queue well (ap (λ (d : Directory). slice_get d slot) booted.directory ∙ has)

  pub world_begins : world_at start slot
      ≡ Some (booted_world (shape_of queue.kind (counts_in ws.kept)) (block_words (counts_in ws.kept) slot ws))
  world_begins = go (world_at start slot) refl is_open
    where
      go : (o : Option State) → world_at start slot ≡ o → IsSome o → world_at start slot
          ≡ Some (booted_world (shape_of queue.kind (counts_in ws.kept)) (block_words (counts_in ws.kept) slot ws))
      go None e there = absurd (cc (there))
      go (Some w) e there =
          let below : slot < SLOTS = open_below start well slot w e in
          let place : Some (slot_in ws.kept slot) ≡ Some (Some queue) = sym (directory_at ws.kept slot below) ∙ has in
          let here : slot_in ws.kept slot ≡ Some queue = cc (place) in
          booted.worlds slot below
          ∙ ap (λ (o : Option Queue). world_booted start.counts slot ws o) here
          ∙ ap (λ (c : Counts). world_booted c slot ws (Some queue)) booted.counts

-- and what it is once the broker is ready
pub opened_by : (ws : Words) (start b : Brokered) → AreBootWords ws.kept → KeepsPromises start → IsBooted ws start
    → IsRecovering start b → b.recovery ≡ None → IsOpened ws b
opened_by ws start b sound promises booted so_far ready = record {
  sound = sound;
  start = start;
  booted = booted;
  steps = so_far.steps;
  ready = ready;
  counts = so_far.counts ∙ booted.counts;
  directory = so_far.directory ∙ booted.directory;
  queues = queues;
}
  where
    queues : (slot : ℕ) (queue : Queue) → HasQueue (directory_of ws.kept) slot queue
        → IsQueueOpened (shape_of queue.kind (counts_in ws.kept)) (kept_block (counts_in ws.kept) slot ws.kept)
        (world_at b slot)
    queues slot queue has =
        let w : State =
        booted_world (shape_of queue.kind (counts_in ws.kept)) (block_words (counts_in ws.kept) slot ws) in
        let is = so_far.worlds slot w (world_begins ws start promises.well booted slot queue has) in
        let told : IsToldAtReady is.world =
        subst (λ (o : Option State). IfWorld o IsToldAtReady) is.is
        (so_far.told slot (ap (λ (r : Option BrokerRecovery). is_ready_at r slot) ready)) in
        record {
          world = is.world;
          is = is.is;
          shape = is.shape;
          holds = is.holds;
          told = told.told ∙ is.tells;
          at_ready = told;
          none_yet = is.order;
        }

-- What a step of recovery leaves of a broker that has no creation in mind.
use Rattle.std.proofs.Common.{◌≡◌, ◌⊎◌, inl, inr, ℕ, ◌<◌, Bool, true, false, Option, Some, None, Result, Ok, Err, refl, sym, ap, subst, ◌∙◌, arith}
use Rattle.std.proofs.lemmas.Bool.{cases_eq, ltb-true}
use Rattle.words.specs.declared.refusal.Refusal.{Refusal}
use Rattle.arena.specs.declared.broker.SlotId.{SlotId}
use Rattle.stepper.specs.declared.resume.After.{After}
use Rattle.stepper.specs.declared.resume.After.TheVariants.{More, Done}
use Rattle.directory.specs.Directory.{Directory}
use Rattle.directory.specs.declared.creation.Creation.{Creation}
use Rattle.directory.specs.declared.recovery.DirectoryRecovery.{DirectoryRecovery}
use Rattle.recover.specs.declared.recovery.Recovery.{Recovery}
use Rattle.interleave.specs.Holds.{Holds}
use Rattle.interleave.specs.State.{State, after_recover, kept_content, kept_tells, order_in, recover_result}
use Rattle.interleave.specs.State.{recover_with}
use Rattle.interleave.proofs.Facts.{tells_on}
use Rattle.named.specs.Brokers.{Brokered, IsWell, is_ready_at, quiet, world_at}
use Rattle.named.specs.Slots.{IfWorld, acted, answered}
use Rattle.named.specs.Stopping.{IsFound, IsFoundIn, IsKnownAlike, IsQueueOn, IsReadOn, IsRecoveryStep, creation_after}
use Rattle.named.specs.Stopping.{found_by}
use Rattle.interleave.specs.Telling.{IsToldAtReady}
use Rattle.named.specs.declared.recovery.BrokerRecovery.{BrokerRecovery}
use Rattle.named.specs.declared.recovery.BrokerRecovery.TheVariants.{ReadDirectory, RecoverQueue}
use Rattle.named.proofs.Facts.{none_some, recovered_shape, world_holds}

-- a queue is still there, and its kept words hold and tell what they did; no call took effect
pub record IsAsKept (w : State) (now : Option State) : Type 0 where
  pub world : State
  pub is : now ≡ Some world
  pub shape : world.shape ≡ w.shape
  pub holds : kept_content world ≡ kept_content w
  pub tells : kept_tells world ≡ kept_tells w
  pub order : order_in world ≡ order_in w

-- a world, but for how many accesses there were
abbrev uncounted : State → State
uncounted w = record w { words = record w.words { accesses = 0 } }

kept_if_quiet : (w : State) (o now : Option State) → quiet now ≡ quiet o → IsAsKept w o → IsAsKept w now
kept_if_quiet w o now e is = go now (e ∙ ap quiet is.is)
  where
    go : (now : Option State) → quiet now ≡ quiet (Some is.world) → IsAsKept w now
    go None e2 = absurd (none_some e2)
    go (Some v) e2 =
        let same : uncounted v ≡ uncounted is.world = cc (e2) in
        record {
          world = v;
          is = refl;
          shape = ap (λ (x : State). x.shape) same ∙ is.shape;
          holds = ap (λ (x : State). kept_content x) same ∙ is.holds;
          tells = ap (λ (x : State). kept_tells x) same ∙ is.tells;
          order = ap (λ (x : State). order_in x) same ∙ is.order;
        }

-- what was told at ready does not hang on that count either
count : (w : State) → IsToldAtReady w → IsToldAtReady (uncounted w)
count w is = record {
  told = is.told;
  announced = is.announced;
  unannounced = is.unannounced;
  stands = λ later on. is.stands later (record { grown = on.grown; part = on.part; ended = on.ended });
  nobody = is.nobody;
  floors = is.floors;
  mended = is.mended;
}

uncount : (w : State) → IsToldAtReady (uncounted w) → IsToldAtReady w
uncount w is = record {
  told = is.told;
  announced = is.announced;
  unannounced = is.unannounced;
  stands = λ later on. is.stands later (record { grown = on.grown; part = on.part; ended = on.ended });
  nobody = is.nobody;
  floors = is.floors;
  mended = is.mended;
}

told_if_quiet : (o now : Option State) → quiet now ≡ quiet o → IfWorld o IsToldAtReady → IfWorld now IsToldAtReady
told_if_quiet o None e is = tt
told_if_quiet None (Some v) e is = absurd (none_some (sym e))
told_if_quiet (Some w) (Some v) e is =
    let same : uncounted v ≡ uncounted w = cc (e) in
    uncount v (subst IsToldAtReady (sym same) (count w is))

-- the queue that recovers
order_stays : (full : Bool) (w : State) → order_in (after_recover full w) ≡ order_in w
order_stays full w = go w.recovery full
  where
    go : (o : Option Recovery) (f : Bool) → order_in (recover_with f w o) ≡ order_in w
    go None f = refl
    go (Some r) true = refl
    go (Some r) false = refl

kept_if_recovered : (full : Bool) (w : State) (o : Option State) → ((v : State) → o ≡ Some v → Holds v) → IsAsKept w o
    → IsAsKept w (acted (after_recover full) o)
kept_if_recovered full w o holding is =
    let same = tells_on full is.world (holding is.world is.is) in
    record {
      world = after_recover full is.world;
      is = ap (acted (after_recover full)) is.is;
      shape = recovered_shape full is.world ∙ is.shape;
      holds = same.1 ∙ is.holds;
      tells = same.0 ∙ is.tells;
      order = order_stays full is.world ∙ is.order;
    }

-- what a step leaves
pub record IsStepKept (old new : Brokered) : Type 0 where
  pub counts : new.counts ≡ old.counts
  pub directory : new.directory ≡ old.directory
  pub creation : new.creation ≡ None
  pub worlds : (slot : ℕ) (w : State) → IsAsKept w (world_at old slot) → IsAsKept w (world_at new slot)
  pub told : (slot : ℕ) → is_ready_at old.recovery slot ≡ true → IfWorld (world_at old slot) IsToldAtReady
      → IfWorld (world_at new slot) IsToldAtReady

module _ (old new : Brokered) (none : old.creation ≡ None) where
  -- with no creation in mind, no queue is found first
  known_alike : (o : Option SlotId) → IsFound old new o → IsKnownAlike old new
  known_alike None found = found
  known_alike (Some at) found = go (world_at old at.0) found
    where
      go : (o : Option State) → IsFoundIn old new at o → IsKnownAlike old new
      go (Some w) known = known
      go None first = absurd (none_some (sym none ∙ first.dropped))

  none_after : (r : Option BrokerRecovery) → creation_after None r ≡ None
  none_after None = refl
  none_after (Some r) = refl

  still_none : (r : Option BrokerRecovery) → creation_after old.creation r ≡ None
  still_none r = ap (λ (c : Option Creation). creation_after c r) none ∙ none_after r

  none_read : (after : After DirectoryRecovery Directory) → IsReadOn old new after → new.creation ≡ None
  none_read (More following) on = on.1 ∙ none
  none_read (Done places) on = on.2 ∙ still_none new.recovery

  none_recovered : (at : ℕ) (result answer : Result Bool Refusal) → IsQueueOn old new at result answer
      → new.creation ≡ None
  none_recovered at result (Err refusal) on = on.2 ∙ none
  none_recovered at result (Ok false) on = on.2 ∙ none
  none_recovered at result (Ok true) on = on.2 ∙ still_none new.recovery

  pub step_keeps : (ready : Bool) → IsWell old → IsRecoveryStep old new (Ok ready) old.recovery → IsStepKept old new
  step_keeps ready well step = go old.recovery refl step
    where
      go : (r : Option BrokerRecovery) → old.recovery ≡ r → IsRecoveryStep old new (Ok ready) r → IsStepKept old new
      go None turn made = absurd (cc (made.0))
      go (Some (ReadDirectory at)) turn made =
          let known = known_alike (found_by old at).opened made.found in
          record {
            counts = made.counts;
            directory = known.directory;
            creation = none_read (found_by old at).after made.next;
            worlds = λ slot w is. kept_if_quiet w (world_at old slot) (world_at new slot) (known.worlds slot) is;
            told = λ slot up is. told_if_quiet (world_at old slot) (world_at new slot) (known.worlds slot) is;
          }
      go (Some (RecoverQueue at)) turn made = record {
        counts = made.counts;
        directory = made.directory;
        creation =
            none_recovered at.0 (Ok ready) (answered (recover_result false) (world_at old at.0)) made.next;
        worlds = λ slot w. by_slot slot w (cases_eq slot at.0);
        told = λ slot up is.
            let below : slot < at.0 =
            ltb-true slot at.0 (subst (λ (r : Option BrokerRecovery). is_ready_at r slot ≡ true) turn up) in
            told_if_quiet (world_at old slot) (world_at new slot)
            (made.others slot (λ same. absurd (omega (arith, same, below)))) is;
      }
        where
          by_slot : (slot : ℕ) (w : State) → (slot ≡ at.0) ⊎ (slot ≡ at.0 → ⊥) → IsAsKept w (world_at old slot)
              → IsAsKept w (world_at new slot)
          by_slot slot w (inr apart) = λ is.
              kept_if_quiet w (world_at old slot) (world_at new slot) (made.others slot apart) is
          by_slot slot w (inl same) =
              subst (λ (i : ℕ). IsAsKept w (world_at old i) → IsAsKept w (world_at new i)) (sym same)
              (λ is. subst (IsAsKept w) (sym made.world)
              (kept_if_recovered false w (world_at old at.0) (λ v here. world_holds old at.0 v well here) is))

-- What lies under the lock stays well over each act.
use Rattle.std.proofs.Common.{◌≡◌, ◌≢◌, ◌++◌, ◌∷◌, [], inl, inr, ℕ, suc, ◌≤◌, Bool, true, false, length, List, Option, Some, None, Result, Ok, Err, slice_get, refl, sym, ap, ◌∙◌, subst, arith}
use Rattle.std.proofs.lemmas.Bool.{cases_eq}
use Rattle.std.proofs.lemmas.List.{length-set}
use Rattle.std.proofs.lemmas.List.Elements.{All-push}
use Rattle.std.proofs.lemmas.Option.{same_Some}
use Rattle.std.specs.Prelude.{All, IfErr, IfSome, is_some, not, ◌&&◌, IsSome, slice_set}
use Rattle.words.specs.declared.call.Client.{Client}
use Rattle.arena.specs.declared.broker.SlotId.{SlotId}
use Rattle.session.specs.Keeping.{SessionGoesOn}
use Rattle.session.specs.Promises.{KeepsNumbers}
use Rattle.session.specs.Sessions.{Sessioned}
use Rattle.named.specs.Brokers.{Brokered, IsStepCreated, IsWell, is_creating, is_down, world_at}
use Rattle.named.specs.Slots.{answered}
use Rattle.named.specs.GoingOn.{BrokerGoesOn}
use Rattle.named.proofs.Facts.{get_set_other, its_queue, listed_open}
use Rattle.interleave.specs.Calls.{is_no_memory}
use Rattle.interleave.specs.State.{State, recover_result, recover_result_with}
use Rattle.recover.specs.declared.recovery.Recovery.{Recovery}
use Rattle.named.specs.Stopping.{IsQueueOn, IsReadOn, IsRecoveryStep, IsStopped, creation_after, found_by}
use Rattle.named.specs.declared.recovery.BrokerRecovery.{BrokerRecovery}
use Rattle.named.specs.declared.recovery.BrokerRecovery.TheVariants.{ReadDirectory, RecoverQueue}
use Rattle.words.specs.declared.refusal.Refusal.{Refusal}
use Rattle.workers.specs.Deeds.{CameBy}
use Rattle.workers.specs.Deeds.CameBy.{act, crash}
use Rattle.workers.specs.declared.deeds.Deed.{Deed}
use Rattle.workers.specs.declared.deeds.Deed.TheVariants.{Crash}
use Rattle.workers.specs.Creating.{IsCreationKnown, creating_after_crash, is_under_way}
use Rattle.directory.specs.Creation.{successor}
use Rattle.directory.specs.Directory.{Directory, HasQueue}
use Rattle.directory.specs.declared.queue.Queue.{Queue}
use Rattle.directory.specs.declared.creation.Creation.{Creation}
use Rattle.directory.specs.declared.recovery.DirectoryRecovery.{DirectoryRecovery}
use Rattle.stepper.specs.declared.resume.After.{After}
use Rattle.stepper.specs.declared.resume.After.TheVariants.{Done, More}
use Rattle.workers.specs.Recovered.{IsRecoveryRefusal}
use Rattle.workers.specs.Following.{AreFollowed, Guarded, IsFollowed, IsGuardedWell, beginnings}
use Rattle.workers.specs.Lists.{AreNamed, events_at}
use Rattle.workers.specs.Moments.{GoesOnLater}
use Rattle.workers.specs.declared.entry.Entry.{Entry}
use Rattle.workers.specs.declared.locked.Creating.{Creating}
use Rattle.workers.specs.declared.locked.Creating.TheVariants.{Interrupted, Nothing, UnderWay}
use Rattle.workers.specs.Seats.{AreEmpty}
use Rattle.workers.proofs.brokers.Comings.{through_further}
use Rattle.workers.proofs.guard.Laters.{all_later, later_further, later_itself, session_further}
use Rattle.workers.proofs.guard.Acts.{IsCarriedFor}
use Rattle.workers.proofs.histories.Rows.{followed_empty, row_changed, rows_carried, set_here}
use Rattle.workers.proofs.lists.Names.{named_on}
use Rattle.workers.proofs.guard.Unstopped.{unstopped}

-- what an act says that is no rotation: what was settled stays so, and the queues and their histories go on
pub record IsOn (old new : Sessioned) : Type 0 where
  pub numbers : SessionGoesOn old new
  pub queues : BrokerGoesOn old.broker new.broker

-- with the same rows, as the keeper knows them
pub with_rows : (all : ℕ) (first : Sessioned) (g : Guarded) (rows : List (List Entry)) → rows ≡ g.rows
    → IsGuardedWell all first g → IsGuardedWell all first (record g { rows = rows })
with_rows all first g rows same well =
    subst (λ (rs : List (List Entry)). IsGuardedWell all first (record g { rows = rs })) (sym same) well

-- where this very session is marked
pub with_mark : (all : ℕ) (first : Sessioned) (g : Guarded) (marked : List Sessioned) → marked ≡ g.marked ++ g.session ∷ []
    → IsGuardedWell all first g → IsGuardedWell all first (record g { marked = marked })
with_mark all first g marked more well = record {
  beginning = well.beginning;
  clients = well.clients;
  followed = well.followed;
  named = well.named;
  promises = well.promises;
  creation = well.creation;
  goes_on = well.goes_on;
  came = well.came;
  done = well.done;
  later = subst (λ (ms : List Sessioned). All (λ s. GoesOnLater s g.session) ms) (sym more)
      (All-push (λ s. GoesOnLater s g.session) g.marked g.session well.later (later_itself g.session));
}

-- a crash comes to the operator's row
stopped_once : (first old new : Brokered) (deeds : List (List Deed)) (stops : List Deed) → slice_get deeds 0 ≡ Some stops
    → CameBy first deeds old → IsStopped old new → CameBy first (slice_set deeds 0 (stops ++ Crash ∷ [])) new
stopped_once first old new [] stops at before stopped = cc at
stopped_once first old new (row ∷ deeds) stops at before stopped =
    subst (λ (r : List Deed). CameBy first ((r ++ Crash ∷ []) ∷ deeds) new) (same_Some row stops at)
    (crash before stopped)

module _ (all : ℕ) (first : Sessioned) (old : Guarded) (well : IsGuardedWell all first old) where
  -- an act of no seat, beside which this was done
  guarded_by : {crashes : Bool} (new : Sessioned) (deeds : List (List Deed)) (creating : Creating)
      → ((u : Client) → IsCarriedFor crashes u old.session new) → KeepsNumbers new → IsOn old.session new
      → IsCreationKnown new.broker creating → CameBy first.broker deeds new.broker → IsGuardedWell all first (record {
        session = new;
        rows = old.rows;
        deeds = deeds;
        creating = creating;
        rotated = old.rotated;
        marked = old.marked;
      })
  guarded_by new deeds creating carried keeps on known done = record {
    beginning = well.beginning;
    clients = well.clients;
    followed =
        rows_carried (beginnings first old.rotated) old.session new old.rows (λ t. carried (record { 0 = t }))
        well.followed;
    named = λ t row at. named_on old.session.broker new.broker on.queues row (well.named t row at);
    promises = keeps;
    creation = known;
    goes_on = session_further first old.session new well.goes_on on.numbers;
    came = through_further first.broker old.rotated old.session.broker new.broker well.came on.queues;
    done = done;
    later = all_later old.marked old.session new well.later
        (later_further old.session old.session new (later_itself old.session) on.numbers on.queues);
  }

  -- no crash came
  pub guarded_still : (new : Sessioned) (creating : Creating) → ((u : Client) → IsCarriedFor false u old.session new)
      → KeepsNumbers new → IsOn old.session new → IsCreationKnown new.broker creating
      → IsGuardedWell all first (record {
        session = new;
        rows = old.rows;
        deeds = old.deeds;
        creating = creating;
        rotated = old.rotated;
        marked = old.marked;
      })
  guarded_still new creating carried keeps on known =
      guarded_by new old.deeds creating carried keeps on known
      (act well.done on.queues (unstopped (record { 0 = 0 }) old.session new (carried (record { 0 = 0 }))))

  -- one came, as the operator knows
  pub guarded_stopped : (new : Sessioned) (creating : Creating) (stops : List Deed) → slice_get old.deeds 0 ≡ Some stops
      → ((u : Client) → IsCarriedFor true u old.session new) → KeepsNumbers new → IsOn old.session new
      → IsCreationKnown new.broker creating → IsStopped old.session.broker new.broker
      → IsGuardedWell all first (record {
        session = new;
        rows = old.rows;
        deeds = slice_set old.deeds 0 (stops ++ Crash ∷ []);
        creating = creating;
        rotated = old.rotated;
        marked = old.marked;
      })
  guarded_stopped new creating stops at carried keeps on known stopped =
      guarded_by new (slice_set old.deeds 0 (stops ++ Crash ∷ [])) creating carried keeps on known
      (stopped_once first.broker old.session.broker new.broker old.deeds stops at well.done stopped)

  -- an act of the seat at t, whose row changes with it
  pub guarded_of : (new : Sessioned) (t : ℕ) (row : List Entry)
      → ((slot : ℕ) → beginnings first old.rotated slot ≤ length (events_at new.broker slot))
      → ((u : ℕ) → u ≢ t → IsCarriedFor false (record { 0 = u }) old.session new)
      → IsFollowed (beginnings first old.rotated) new (record { 0 = t }) row → AreNamed new.broker.directory row
      → KeepsNumbers new → IsOn old.session new → IsCreationKnown new.broker old.creating
      → IsGuardedWell all first (record {
        session = new;
        rows = slice_set old.rows t row;
        deeds = old.deeds;
        creating = old.creating;
        rotated = old.rotated;
        marked = old.marked;
      })
  guarded_of new t row begun carried its named keeps on known = record {
    beginning = well.beginning;
    clients = length-set old.rows t row ∙ well.clients;
    followed =
        row_changed (beginnings first old.rotated) old.session new old.rows t row begun carried its well.followed;
    named = λ u other at. elim (cases_eq u t) [
      | inl same ↦
          let here : slice_get (slice_set old.rows t row) t ≡ Some other =
          subst (λ (n : ℕ). slice_get (slice_set old.rows t row) n ≡ Some other) same at in
          subst (AreNamed new.broker.directory) (set_here old.rows t row other here) named
      | inr apart ↦
          named_on old.session.broker new.broker on.queues other
          (well.named u other (sym (get_set_other old.rows t row u apart) ∙ at))
    ];
    promises = keeps;
    creation = known;
    goes_on = session_further first old.session new well.goes_on on.numbers;
    came = through_further first.broker old.rotated old.session.broker new.broker well.came on.queues;
    done = act well.done on.queues
        (unstopped (record { 0 = suc t }) old.session new (carried (suc t) (λ same. absurd (omega (arith, same)))));
    later = all_later old.marked old.session new well.later
        (later_further old.session old.session new (later_itself old.session) on.numbers on.queues);
  }

-- rows that have no calls yet, since histories of these lengths
pub rows_begun : (since : ℕ → ℕ) (s : Sessioned) (rows : List (List Entry))
    → ((slot : ℕ) → since slot ≡ length (events_at s.broker slot)) → AreEmpty (λ row. row) rows
    → AreFollowed since s rows
rows_begun since s rows lengths empty = record {
  begun = λ slot. let e = lengths slot in omega (arith, e);
  each = λ t row at.
      subst (λ (r : List Entry). IsFollowed since s (record { 0 = t }) r) (sym (empty.each t row at))
      (followed_empty since s (record { 0 = t }) lengths);
}

-- they have no call in another queue either
pub named_begun : (places : Directory) (rows : List (List Entry)) → AreEmpty (λ row. row) rows → (t : ℕ)
    (row : List Entry) → slice_get rows t ≡ Some row → AreNamed places row
named_begun places rows empty t row at =
    subst (AreNamed places) (sym (empty.each t row at)) (λ k e none. cc none)

-- whether a creation is under way, by the recovery and the creation that a broker has
creating_by : (b : Brokered) (recovery : Option BrokerRecovery) (creation : Option Creation) → b.recovery ≡ recovery
    → b.creation ≡ creation → is_creating b ≡ (not (is_some recovery) && is_some creation)
creating_by b recovery creation up some =
    ap (λ (o : Option BrokerRecovery). not (is_some o) && is_some b.creation) up
    ∙ ap (λ (o : Option Creation). not (is_some recovery) && is_some o) some

-- it stays as it is known where both stay
pub known_if_same : (old new : Brokered) (creating : Creating) → new.recovery ≡ old.recovery
    → new.creation ≡ old.creation → IsCreationKnown old creating → IsCreationKnown new creating
known_if_same old new creating recovery creation known = creating_by new old.recovery old.creation recovery creation ∙ known

-- one that began is under way
pub known_if_begun : (b : Brokered) → b.recovery ≡ None → IsSome b.creation → IsCreationKnown b UnderWay
known_if_begun b up some =
    ap (λ (o : Option BrokerRecovery). not (is_some o) && is_some b.creation) up ∙ some

-- none is under way while the broker is down, or where it has none
pub known_if_down : (b : Brokered) (creating : Creating) → is_down b ≡ true → is_under_way creating ≡ false
    → IsCreationKnown b creating
known_if_down b creating down none = ap (λ (d : Bool). not d && is_some b.creation) down ∙ sym none

false_last : (x : Bool) → (x && false) ≡ false
false_last true = refl
false_last false = refl

pub known_if_none : (b : Brokered) → b.creation ≡ None → IsCreationKnown b Nothing
known_if_none b none =
    ap (λ (o : Option Creation). not (is_down b) && is_some o) none ∙ false_last (not (is_down b))

-- after a crash none is
pub known_after_crash : (b : Brokered) (creating : Creating) → is_down b ≡ true
    → IsCreationKnown b (creating_after_crash creating)
known_after_crash b creating down = known_if_down b (creating_after_crash creating) down (ended creating)
  where
    ended : (c : Creating) → is_under_way (creating_after_crash c) ≡ false
    ended Nothing = refl
    ended UnderWay = refl
    ended Interrupted = refl

-- one that its caller steps: the broker is ready, and has it
pub under_way_is : (b : Brokered) → IsCreationKnown b UnderWay → (b.recovery ≡ None) × IsSome b.creation
under_way_is b known = go b.recovery b.creation refl refl (sym (creating_by b b.recovery b.creation refl refl) ∙ known)
  where
    go : (recovery : Option BrokerRecovery) (creation : Option Creation) → b.recovery ≡ recovery → b.creation ≡ creation
        → (not (is_some recovery) && is_some creation) ≡ true → (b.recovery ≡ None) × IsSome b.creation
    go None None up some is = absurd (cc (is))
    go None (Some creation) up some is = (up, subst (λ (o : Option Creation). IsSome o) (sym some) refl)
    go (Some recovery) creation up some is = absurd (cc (is))

pub none_is_more : (slot : SlotId) → (let r : Result (Option SlotId) Refusal = Ok None in r) ≡ Ok (Some slot) → ⊥
none_is_more slot e = absurd (cc (e))

-- a step that is not the last one leaves it under way, and the last one opens its slot
module _ (old new : Brokered) (known : IsCreationKnown old UnderWay) where
  abbrev pub Steps : Result (Option SlotId) Refusal → Type 0
  Steps result =
      old.recovery ≡ None
      → IfSome old.creation (λ creation. IsStepCreated old new creation result (successor creation))

  by_creation : {P : Type 0} (result : Result (Option SlotId) Refusal) → Steps result
      → ((creation : Creation) → IsStepCreated old new creation result (successor creation) → P) → P
  by_creation {P} result step how =
      let is = under_way_is old known in go old.creation is.1 (step is.0)
    where
      go : (o : Option Creation) → IsSome o
          → IfSome o (λ creation. IsStepCreated old new creation result (successor creation)) → P
      go None some made = absurd (cc (some))
      go (Some creation) some made = how creation made

  pub known_after_step : (result : Result (Option SlotId) Refusal) → result ≡ Ok None → Steps result
      → IsCreationKnown new UnderWay
  known_after_step result is step = by_creation result step (λ creation made. more creation (successor creation) made)
    where
      more : (creation : Creation) (after : After Creation SlotId) → IsStepCreated old new creation result after
          → IsCreationKnown new UnderWay
      more creation (More next) made =
          known_if_begun new (ap (λ (b : Brokered). b.recovery) made.1 ∙ (under_way_is old known).0)
          (subst (λ (b : Brokered). IsSome b.creation) (sym made.1) refl)
      more creation (Done slot) made = absurd (none_is_more slot (sym is ∙ made.0))

  pub known_after_last : (result : Result (Option SlotId) Refusal) (slot : SlotId) → result ≡ Ok (Some slot)
      → Steps result → IsCreationKnown new Nothing × IsSome (world_at new slot.0)
  known_after_last result slot is step = by_creation result step (λ creation made. last creation (successor creation) made)
    where
      last : (creation : Creation) (after : After Creation SlotId) → IsStepCreated old new creation result after
          → IsCreationKnown new Nothing × IsSome (world_at new slot.0)
      last creation (More next) made = absurd (none_is_more slot (sym made.0 ∙ is))
      last creation (Done other) made =
          let same : other ≡ slot = cc (sym made.0 ∙ is) in (
            known_if_none new made.1.ended,
            subst (λ (s : SlotId). IsSome (world_at new s.0)) same
                (subst (λ (o : Option State). IsSome o) (sym made.1.world) refl),
          )

  -- none is refused
  pub step_is_made : (result : Result (Option SlotId) Refusal) (refusal : Refusal) → result ≡ Err refusal → Steps result
      → ⊥
  step_is_made result refusal is step = by_creation result step (λ creation made. none creation (successor creation) made)
    where
      none : (creation : Creation) (after : After Creation SlotId) → IsStepCreated old new creation result after → ⊥
      none creation (More next) made = absurd (cc (sym is ∙ made.0))
      none creation (Done slot) made = absurd (cc (sym is ∙ made.0))

-- a step of recovery leaves none under way, as there was none
pub known_after_recovery : (old new : Brokered) (result : Result Bool Refusal) (creating : Creating)
    → IsRecoveryStep old new result old.recovery → IsCreationKnown old creating → IsCreationKnown new creating
known_after_recovery old new result creating step known = go old.recovery refl step
  where
    was_none : (r : BrokerRecovery) → old.recovery ≡ Some r → is_under_way creating ≡ false
    was_none r e =
        sym known ∙ ap (λ (o : Option BrokerRecovery). not (is_some o) && is_some old.creation) e

    -- once the broker is ready the creation is gone
    done : (o : Option BrokerRecovery) → new.recovery ≡ o → new.creation ≡ creation_after old.creation o
        → is_under_way creating ≡ false → IsCreationKnown new creating
    done None e gone none = known_if_none new gone ∙ sym none
    done (Some r) e gone none =
        known_if_down new creating (ap (λ (o : Option BrokerRecovery). is_some o) e) none

    still : (r : BrokerRecovery) → old.recovery ≡ Some r → new.recovery ≡ old.recovery → IsCreationKnown new creating
    still r e same =
        known_if_down new creating (ap (λ (o : Option BrokerRecovery). is_some o) (same ∙ e)) (was_none r e)

    ended : (r : BrokerRecovery) → old.recovery ≡ Some r → new.creation ≡ creation_after old.creation new.recovery
        → IsCreationKnown new creating
    ended r e gone = done new.recovery refl gone (was_none r e)

    read_on : (r : BrokerRecovery) → old.recovery ≡ Some r → (a : After DirectoryRecovery Directory)
        → IsReadOn old new a → IsCreationKnown new creating
    read_on r e (More next) on =
        known_if_down new creating (ap (λ (o : Option BrokerRecovery). is_some o) on.0) (was_none r e)
    read_on r e (Done places) on = ended r e on.2

    queue_on : (r : BrokerRecovery) → old.recovery ≡ Some r → (slot : ℕ) (answer : Result Bool Refusal)
        → IsQueueOn old new slot result answer → IsCreationKnown new creating
    queue_on r e slot (Err refusal) on = still r e on.1
    queue_on r e slot (Ok false) on = still r e on.1
    queue_on r e slot (Ok true) on = ended r e on.2

    go : (o : Option BrokerRecovery) → old.recovery ≡ o → IsRecoveryStep old new result o
        → IsCreationKnown new creating
    go None e same = subst (λ (b : Brokered). IsCreationKnown b creating) (sym same.1) known
    go (Some (ReadDirectory at)) e read =
        read_on (ReadDirectory at) e (found_by old at).after read.next
    go (Some (RecoverQueue slot)) e recovered =
        queue_on (RecoverQueue slot) e slot.0 _ recovered.next

-- what a queue's step answers
queue_errors : (full : Bool) (w : State) (recovery : Option Recovery) (refusal : Refusal)
    → recover_result_with full w recovery ≡ Err refusal → IsRecoveryRefusal refusal
queue_errors full w None refusal e = inl (cc (e))
queue_errors true w (Some r) refusal e = inr (cc (e))
queue_errors false w (Some r) refusal e = absurd (cc (e))

pub recovery_errors : (old new : Brokered) (result : Result Bool Refusal) → IsWell old
    → IsRecoveryStep old new result old.recovery → IfErr result IsRecoveryRefusal
recovery_errors old new result well step = go old.recovery refl step
  where
    by_queue : (slot : ℕ) (o : Option State) → world_at old slot ≡ o → IsSome o
        → (answer : Result Bool Refusal) → answered (recover_result (is_no_memory result)) o ≡ answer
        → IsQueueOn old new slot result answer → IfErr result IsRecoveryRefusal
    by_queue slot None there some answer is on = absurd (cc (some))
    by_queue slot (Some w) there some (Err refusal) is on =
        subst (λ (r : Result Bool Refusal). IfErr r IsRecoveryRefusal) (sym on.0)
        (queue_errors (is_no_memory result) w w.recovery refusal is)
    by_queue slot (Some w) there some (Ok true) is on =
        subst (λ (r : Result Bool Refusal). IfErr r IsRecoveryRefusal) (sym on.0) tt
    by_queue slot (Some w) there some (Ok false) is on =
        subst (λ (r : Result Bool Refusal). IfErr r IsRecoveryRefusal) (sym on.0) tt

    go : (o : Option BrokerRecovery) → old.recovery ≡ o → IsRecoveryStep old new result o
        → IfErr result IsRecoveryRefusal
    go None e same = subst (λ (r : Result Bool Refusal). IfErr r IsRecoveryRefusal) (sym same.0) (inl refl)
    go (Some (ReadDirectory at)) e read =
        subst (λ (r : Result Bool Refusal). IfErr r IsRecoveryRefusal) (sym read.answer) tt
    go (Some (RecoverQueue slot)) e recovered =
        let it = its_queue old well slot e in
        by_queue slot.0 (world_at old slot.0) refl (listed_open old slot.0 it.queue well it.has)
        (answered (recover_result (is_no_memory result)) (world_at old slot.0)) refl recovered.next

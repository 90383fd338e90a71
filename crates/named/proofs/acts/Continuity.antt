-- What stays of a broker stays over any acts.
use Rattle.std.proofs.Common.{◌≡◌, ◌≢◌, ℕ, ◌-◌, ◌<◌, ◌⊎◌, inl, inr, Bool, true, false, length, slice_set, Option, Some, None, Result, Ok, Err, is_ok, if◌then◌else◌, slice_get, refl, sym, ap, subst, ◌∙◌}
use Rattle.std.proofs.lemmas.Bool.{cases_eq}
use Rattle.words.specs.declared.call.Client.{Client}
use Rattle.words.specs.declared.refusal.Refusal.{Refusal}
use Rattle.persist.specs.Memory.{Words}
use Rattle.std.specs.Prelude.{IfErr, IfOk}
use Rattle.words.specs.declared.call.Reply.{Reply}
use Rattle.arena.specs.Broker.{block_from}
use Rattle.arena.specs.Shape.{Counts}
use Rattle.directory.specs.Directory.{Directory, HasQueue, IsFree}
use Rattle.directory.specs.declared.creation.Creation.{Creation}
use Rattle.directory.specs.declared.queue.Queue.{Queue}
use Rattle.protocol.specs.declared.acts.Act.{Act}
use Rattle.protocol.specs.declared.acts.Act.TheVariants.{Crash, Evict}
use Rattle.interleave.specs.Holds.{Holds}
use Rattle.interleave.specs.Standing.{GoesOn}
use Rattle.interleave.specs.State.{State, IsAnsweredAlone, after_alone, after_attempt, after_evict, after_stop}
use Rattle.interleave.proofs.Facts.{get_set, goes_further, goes_nowhere, goes_on_after, goes_on_after_alone}
use Rattle.named.specs.Brokers.{Brokered, IsWell, admission, quiet, world_after, world_at, world_of}
use Rattle.named.specs.Evicting.{is_in_block, world_evicted}
use Rattle.named.specs.Slots.{IfWorld, IsSlotWell, acted, world_in}
use Rattle.named.specs.Stopping.{IsStopped, creation_after}
use Rattle.named.specs.declared.recovery.BrokerRecovery.{BrokerRecovery}
use Rattle.named.specs.declared.slot.Slot.{Slot}
use Rattle.named.specs.declared.slot.Slot.TheVariants.{Closed, Open}
use Rattle.named.proofs.acts.OneSlot.{get_set_other, slot_is_well}
use Rattle.named.specs.GoingOn.{BrokerGoesOn, IsDowntime, IsGoneOn}

abbrev counted : State → State
counted w = record w { words = record w.words { accesses = 0 } }

-- a world that differs in its words alone came of the other
alike_goes_on : (w v : State) → quiet (Some v) ≡ quiet (Some w) → GoesOn w v
alike_goes_on w v e =
    let is : counted v ≡ counted w = cc (e) in
    let on : GoesOn (counted w) (counted v) = subst (GoesOn (counted w)) (sym is) (goes_nowhere (counted w)) in
    record { begins = record { shape = on.begins.shape; base = on.begins.base; told = on.begins.told }; grown = on.grown; part = on.part; ended = on.ended }

-- what became of a slot's world by an act of its own, or of another slot
pub on_by_act : (full : Bool) (w : State) (act : Act ℕ) (now : Option State) → Holds w → now ≡ Some (after_attempt full w act) → IsGoneOn w now
on_by_act full w act now holds e = record { world = after_attempt full w act; is = e; goes_on = goes_on_after full w act holds }

pub on_if_quiet : (w : State) (now : Option State) → quiet now ≡ quiet (Some w) → IsGoneOn w now
on_if_quiet w (Some v) e = record { world = v; is = refl; goes_on = alike_goes_on w v e }
on_if_quiet w None e = absurd (cc)

pub on_if_same : (w : State) (now : Option State) → now ≡ Some w → IsGoneOn w now
on_if_same w now e = record { world = w; is = e; goes_on = goes_nowhere w }

-- the broker as it was goes on, and one that goes on from there
pub broker_stays : (b : Brokered) → BrokerGoesOn b b
broker_stays b = record { counts = refl; directory = λ slot queue has. has; worlds = λ slot w e. on_if_same w (world_at b slot) e }

pub broker_goes_further : (old now new : Brokered) → BrokerGoesOn old now → BrokerGoesOn now new → BrokerGoesOn old new
broker_goes_further old now new one other = record {
  counts = other.counts ∙ one.counts;
  directory = λ slot queue has. other.directory slot queue (one.directory slot queue has);
  worlds = λ slot w e.
      let first = one.worlds slot w e in
      let second = other.worlds slot first.world first.is in
      record { world = second.world; is = second.is; goes_on = goes_further first.goes_on second.goes_on };
}

-- so it is of a downtime that goes on
pub downtime_goes_further : (old now new : Brokered) → IsDowntime old now → now.creation ≡ old.creation → IsDowntime now new → IsDowntime old new
downtime_goes_further old now new one same other = record {
  goes_on = broker_goes_further old now new one.goes_on other.goes_on;
  only = λ slot queue has. elim (other.only slot queue has) [
    | inl there ↦ one.only slot queue there
    | inr its ↦ inr (record { creation = its.creation; is = sym same ∙ its.is; slot_is = its.slot_is; queue_is = its.queue_is })
  ];
  creation = elim other.creation [ inl e ↦ inl (e ∙ same) | inr ready ↦ inr ready ];
}

-- the world of an open slot holds
slot_holds : (ws : Words) (slot : Slot) (w : State) → IsSlotWell ws slot → world_in ws slot ≡ Some w → Holds w
slot_holds ws Closed w well e = absurd (cc)
slot_holds ws (Open block) w well e = subst Holds (cc) well.holds

pub world_holds : (b : Brokered) (slot : ℕ) (w : State) → IsWell b → world_at b slot ≡ Some w → Holds w
world_holds b slot w holds e = go (slice_get b.slots slot) refl e
  where
    go : (o : Option Slot) → slice_get b.slots slot ≡ o → world_of b.words o ≡ Some w → Holds w
    go None is none = absurd (cc)
    go (Some s) is there = slot_holds b.words s w (slot_is_well b.counts b.words slot s (holds.slots slot s is)) there

-- an act on one slot, and the others as they were
pub slot_goes_on : (old new : Brokered) (i : ℕ) → new.counts ≡ old.counts → new.directory ≡ old.directory
    → ((w : State) → world_at old i ≡ Some w → IsGoneOn w (world_at new i))
    → ((j : ℕ) → j ≢ i → quiet (world_at new j) ≡ quiet (world_at old j)) → BrokerGoesOn old new
slot_goes_on old new i counts directory own others = record {
  counts = counts;
  directory = λ slot queue has. ap (λ (d : Directory). slice_get d slot) directory ∙ has;
  worlds = λ slot w e. go slot w e (cases_eq slot i);
}
  where
    go : (slot : ℕ) (w : State) → world_at old slot ≡ Some w → (slot ≡ i) ⊎ (slot ≡ i → ⊥) → IsGoneOn w (world_at new slot)
    go slot w e (inl same) = subst (λ n. IsGoneOn w (world_at new n)) (sym same) (own w (ap (world_at old) (sym same) ∙ e))
    go slot w e (inr ne) = on_if_quiet w (world_at new slot) (others slot ne ∙ ap quiet e)

-- an act that is refused before its slot is looked at leaves the world
admitted_or_not : (full : Bool) (act : Act ℕ) (r : Result Unit Refusal) (o now : Option State) (w : State) → Holds w → o ≡ Some w
    → now ≡ (if is_ok r then acted (λ v. after_attempt full v act) o else o) → IsGoneOn w now
admitted_or_not full act (Ok u) o now w holds there is =
    on_by_act full w act now holds (is ∙ ap (acted (λ v. after_attempt full v act)) there)
admitted_or_not full act (Err refusal) o now w holds there is = on_if_same w now (is ∙ there)

pub client_goes_on : (full : Bool) (act : Act ℕ) (old new : Brokered) (slot : ℕ) (client : Client) → IsWell old → new.counts ≡ old.counts → new.directory ≡ old.directory
    → world_at new slot ≡ world_after (λ v. after_attempt full v act) old slot client
    → ((j : ℕ) → j ≢ slot → quiet (world_at new j) ≡ quiet (world_at old j)) → BrokerGoesOn old new
client_goes_on full act old new slot client holds counts directory world others =
    slot_goes_on old new slot counts directory
    (λ w e. admitted_or_not full act (admission old client) (world_at old slot) (world_at new slot) w (world_holds old slot w holds e) e world)
    others

-- a call that goes on alone, answered or refused
alone_or_not : (client : Client) (result : Result (Reply × ℕ) Refusal) (o now : Option State) (w : State) → Holds w → o ≡ Some w
    → IfErr result (λ e. now ≡ o) → IfOk result (λ answer. IfWorld o (λ v. IsAnsweredAlone v client answer.1 answer.0))
    → IfOk result (λ answer. now ≡ acted (λ v. after_alone answer.1 v client) o) → IsGoneOn w now
alone_or_not client (Err refusal) o now w holds there same answered is = on_if_same w now (same ∙ there)
alone_or_not client (Ok answer) o now w holds there same answered is =
    let at : IsAnsweredAlone w client answer.1 answer.0 = subst (λ (x : Option State). IfWorld x (λ v. IsAnsweredAlone v client answer.1 answer.0)) there answered in
    record {
      world = after_alone answer.1 w client;
      is = is ∙ ap (acted (λ v. after_alone answer.1 v client)) there;
      goes_on = goes_on_after_alone w client holds (after_alone answer.1 w client) (Ok answer) tt at refl;
    }

pub alone_goes_on : (client : Client) (result : Result (Reply × ℕ) Refusal) (old new : Brokered) (slot : ℕ) → IsWell old → new.counts ≡ old.counts → new.directory ≡ old.directory
    → IfErr result (λ e. world_at new slot ≡ world_at old slot)
    → IfOk result (λ answer. IfWorld (world_at old slot) (λ w. IsAnsweredAlone w client answer.1 answer.0))
    → IfOk result (λ answer. world_at new slot ≡ acted (λ w. after_alone answer.1 w client) (world_at old slot))
    → ((j : ℕ) → j ≢ slot → quiet (world_at new j) ≡ quiet (world_at old j)) → BrokerGoesOn old new
alone_goes_on client result old new slot holds counts directory same answered is others =
    slot_goes_on old new slot counts directory
    (λ w e. alone_or_not client result (world_at old slot) (world_at new slot) w (world_holds old slot w holds e) e same answered is) others

-- each world by an act of its own
pub each_goes_on : (old new : Brokered) → new.counts ≡ old.counts → new.directory ≡ old.directory → ((slot : ℕ) (w : State) → world_at old slot ≡ Some w → IsGoneOn w (world_at new slot)) → BrokerGoesOn old new
each_goes_on old new counts directory worlds = record {
  counts = counts;
  directory = λ slot queue has. ap (λ (d : Directory). slice_get d slot) directory ∙ has;
  worlds = worlds;
}

evicted_on : (c : Counts) (slot word : ℕ) (w : State) (now : Option State) → Holds w → now ≡ acted (world_evicted c slot word) (Some w) → IsGoneOn w now
evicted_on c slot word w now holds is = go (is_in_block c slot word) refl
  where
    go : (x : Bool) → is_in_block c slot word ≡ x → IsGoneOn w now
    go true e = on_by_act false w (Evict (word - block_from c slot)) now holds (is ∙ ap (λ (x : Bool). let r : Option State = Some (if x then after_evict w (word - block_from c slot) else w) in r) e)
    go false e = on_if_same w now (is ∙ ap (λ (x : Bool). let r : Option State = Some (if x then after_evict w (word - block_from c slot) else w) in r) e)

pub eviction_goes_on : (old new : Brokered) (word : ℕ) → IsWell old → new.counts ≡ old.counts → new.directory ≡ old.directory
    → ((slot : ℕ) → world_at new slot ≡ acted (world_evicted old.counts slot word) (world_at old slot)) → BrokerGoesOn old new
eviction_goes_on old new word holds counts directory worlds =
    each_goes_on old new counts directory (λ slot w e.
    evicted_on old.counts slot word w (world_at new slot) (world_holds old slot w holds e) (worlds slot ∙ ap (acted (world_evicted old.counts slot word)) e))

pub crash_goes_on : (old new : Brokered) → IsWell old → IsStopped old new → BrokerGoesOn old new
crash_goes_on old new holds stopped =
    each_goes_on old new (ap (λ (b : Brokered). b.counts) stopped.same) (ap (λ (b : Brokered). b.directory) stopped.same) (λ slot w e.
    on_by_act false w Crash (world_at new slot) (world_holds old slot w holds e) (stopped.worlds slot ∙ ap (acted after_stop) e))

-- a queue that comes into a free slot leaves the others
pub more_directory : (directory : Directory) (at : ℕ) (queue : Queue) → IsFree directory at → (slot : ℕ) (q : Queue) → HasQueue directory slot q
    → HasQueue (slice_set directory at (Some queue)) slot q
more_directory directory at queue free slot q has = go (cases_eq slot at)
  where
    go : (slot ≡ at) ⊎ (slot ≡ at → ⊥) → HasQueue (slice_set directory at (Some queue)) slot q
    go (inl same) =
        let here : slice_get directory at ≡ Some (Some q) = subst (λ n. slice_get directory n ≡ Some (Some q)) same has in
        absurd (none_some q (cc (free, here)))
      where
        none_some : (x : Queue) → None ≡ Some x → ⊥
        none_some x e = absurd (cc)
    go (inr ne) = get_set_other directory at (Some queue) slot ne ∙ has

pub only_more : (directory : Directory) (at : ℕ) (queue : Queue) (slot : ℕ) (q : Queue) → at < length directory → HasQueue (slice_set directory at (Some queue)) slot q
    → HasQueue directory slot q ⊎ ((slot ≡ at) × (q ≡ queue))
only_more directory at queue slot q below has = go (cases_eq slot at)
  where
    go : (slot ≡ at) ⊎ (slot ≡ at → ⊥) → HasQueue directory slot q ⊎ ((slot ≡ at) × (q ≡ queue))
    go (inl same) =
        let here : slice_get (slice_set directory at (Some queue)) at ≡ Some (Some q) = subst (λ n. slice_get (slice_set directory at (Some queue)) n ≡ Some (Some q)) same has in
        let is : Some (Some q) ≡ Some (Some queue) = sym here ∙ get_set directory at (Some queue) below in
        inr (same, cc (is))
    go (inr ne) = inl (sym (get_set_other directory at (Some queue) slot ne) ∙ has)

-- a downtime in which nothing came to the directory
pub same_downtime : (old new : Brokered) → BrokerGoesOn old new → new.directory ≡ old.directory → (new.creation ≡ old.creation) ⊎ (new.recovery ≡ None) → IsDowntime old new
same_downtime old new on directory creation = record {
  goes_on = on;
  only = λ slot queue has. inl (ap (λ (d : Directory). slice_get d slot) (sym directory) ∙ has);
  creation = creation;
}

pub creation_stays : (creation now : Option Creation) (recovery : Option BrokerRecovery) → now ≡ creation_after creation recovery
    → (now ≡ creation) ⊎ (recovery ≡ None)
creation_stays creation now None e = inr refl
creation_stays creation now (Some recovery) e = inl e

-- queues that are as they were
pub same_goes_on : (old new : Brokered) → new.counts ≡ old.counts → new.directory ≡ old.directory → ((slot : ℕ) → world_at new slot ≡ world_at old slot) → BrokerGoesOn old new
same_goes_on old new counts directory same =
    each_goes_on old new counts directory (λ slot w e. on_if_same w (world_at new slot) (same slot ∙ e))

-- so it is where a creation begins
pub begun_goes_on : (old new : Brokered) → new ≡ record old { creation = new.creation } → BrokerGoesOn old new
begun_goes_on old new e =
    same_goes_on old new (ap (λ (b : Brokered). b.counts) e) (ap (λ (b : Brokered). b.directory) e) (λ slot. ap (λ (b : Brokered). world_at b slot) e)

pub eviction_downtime : (old new : Brokered) (word : ℕ) → IsWell old → new ≡ record old { words = new.words; slots = new.slots }
    → ((slot : ℕ) → world_at new slot ≡ acted (world_evicted old.counts slot word) (world_at old slot)) → IsDowntime old new
eviction_downtime old new word holds same worlds =
    let directory : new.directory ≡ old.directory = ap (λ (b : Brokered). b.directory) same in
    same_downtime old new (eviction_goes_on old new word holds (ap (λ (b : Brokered). b.counts) same) directory worlds) directory (inl (ap (λ (b : Brokered). b.creation) same))

-- nor does an act that does nothing
pub nothing_downtime : (b : Brokered) → IsDowntime b b
nothing_downtime b = same_downtime b b (broker_stays b) refl (inl refl)

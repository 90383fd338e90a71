-- A gate that recovery finds open: the queue is known, or it is that of the creation which a crash dropped.
use Rattle.std.proofs.Common.{◌≡◌, ◌≢◌, ℕ, ◌<◌, ◌⊎◌, inl, inr, true, false, Option, Some, None, length, slice_get, slice_set, refl, sym, ap, ◌∙◌, subst, arith}
use Rattle.std.proofs.lemmas.Bool.{cases_eq}
use Rattle.std.proofs.lemmas.Option.{slice_get_within}
use Rattle.std.specs.Option.{option_map}
use Rattle.std.specs.Prelude.{IsSome, is_none, is_some}
use Rattle.words.specs.declared.call.Kind.{Kind}
use Rattle.arena.specs.declared.broker.SlotId.{SlotId}
use Rattle.persist.specs.Memory.{Words}
use Rattle.directory.specs.Directory.{Directory, HasName, IsDirectory, IsFree}
use Rattle.directory.specs.Queue.{IsOpenSlot, queue_in, slot_in}
use Rattle.directory.specs.declared.creation.Creation.{Creation}
use Rattle.directory.specs.declared.queue.Queue.{Queue}
use Rattle.directory.specs.declared.recovery.DirectoryRecovery.{DirectoryRecovery}
use Rattle.directory.proofs.Facts.{set_here, slot_open}
use Rattle.interleave.specs.State.{State}
use Rattle.interleave.proofs.Facts.{get_set}
use Rattle.named.specs.Brokers.{Brokered, IsDirectoryAt, IsMaybeWith, IsReading, IsSlotAt, IsUnusedBlock, IsWell}
use Rattle.named.specs.Brokers.{IsWith, is_ready_at, quiet, world_at, world_of}
use Rattle.named.specs.Slots.{IsReadyIn, kind_in, world_in}
use Rattle.named.specs.Stopping.{IsFound, IsFoundFirst, IsFoundIn, IsReadingDirectory, found_world}
use Rattle.named.specs.declared.recovery.BrokerRecovery.{BrokerRecovery}
use Rattle.named.specs.declared.recovery.BrokerRecovery.TheVariants.{ReadDirectory, RecoverQueue}
use Rattle.named.specs.declared.slot.Slot.{Slot}
use Rattle.named.specs.declared.slot.Slot.TheVariants.{Closed, Open}
use Rattle.named.proofs.creations.Beginnings.{get_there}
use Rattle.named.proofs.acts.OneSlot.{get_set_other, length_set, some_is}
use Rattle.named.proofs.creations.Steps.{closed_where_free}

-- how far the directory is read
pub record Reading (b : Brokered) : Type 0 where
  pub at : DirectoryRecovery
  pub is : b.recovery ≡ Some (ReadDirectory at)
  pub reading : IsReading b.words at b.creation b.directory

pub being_read : (b : Brokered) → IsWell b → IsReadingDirectory b.recovery → Reading b
being_read b holds down = go b.recovery refl
  where
    go : (r : Option BrokerRecovery) → b.recovery ≡ r → Reading b
    go None e = absurd (subst IsReadingDirectory e down)
    go (Some (ReadDirectory at)) e = record {
      at = at;
      is = e;
      reading = subst (λ (r : Option BrokerRecovery). IsDirectoryAt b.words r b.creation b.directory) e holds.directory;
    }
    go (Some (RecoverQueue slot)) e = absurd (subst IsReadingDirectory e down)

-- the slot is that of the creation which a crash dropped, and its queue is there
pub record IsDropped (known whole : Directory) (creation : Option Creation) (at : ℕ) : Type 0 where
  pub dropped : Creation
  pub is : creation ≡ Some dropped
  pub here : at ≡ dropped.slot.0
  pub more : IsWith known whole dropped

-- what a slot has is known, or a crash dropped its creation
pub known_or : (known whole : Directory) (creation : Option Creation) → IsMaybeWith known whole creation → (at : ℕ)
    → (slice_get whole at ≡ slice_get known at) ⊎ IsDropped known whole creation at
known_or known whole None more at = inl (ap (λ (d : Directory). slice_get d at) more)
known_or known whole (Some k) (inl same) at = inl (ap (λ (d : Directory). slice_get d at) same)
known_or known whole (Some k) (inr more) at = go (cases_eq at k.slot.0)
  where
    go : (at ≡ k.slot.0) ⊎ (at ≡ k.slot.0 → ⊥) → (slice_get whole at ≡ slice_get known at) ⊎ IsDropped known whole (Some k) at
    go (inl here) = inr (record { dropped = k; is = refl; here = here; more = more })
    go (inr ne) = inl (ap (λ (d : Directory). slice_get d at) more.is ∙ get_set_other known k.slot.0 (Some k.queue) at ne)

-- a slot that is free in the whole directory is known to be
pub known_free : (known whole : Directory) (creation : Option Creation) → IsMaybeWith known whole creation → length known ≡ 8 → (at : ℕ) → at < 8
    → IsFree whole at → slice_get known at ≡ slice_get whole at
known_free known whole creation more long at below free = go (known_or known whole creation more at)
  where
    go : (slice_get whole at ≡ slice_get known at) ⊎ IsDropped known whole creation at → slice_get known at ≡ slice_get whole at
    go (inl same) = sym same
    go (inr lost) =
        let there : slice_get whole at ≡ Some (Some lost.dropped.queue) = ap (slice_get whole) lost.here ∙ ap (λ (d : Directory). slice_get d lost.dropped.slot.0) lost.more.is
        ∙ set_here known lost.dropped.slot.0 (Some lost.dropped.queue) (omega (arith, long, below, lost.here)) in
        absurd (cc)

same_whole : (known whole : Directory) (creation : Option Creation) → whole ≡ known → IsMaybeWith known whole creation
same_whole known whole None same = same
same_whole known whole (Some k) same = inl same

record SomeQueue (o : Option Queue) : Type 0 where
  queue : Queue
  is : o ≡ Some queue

some_queue : (o : Option Queue) → IsSome o → SomeQueue o
some_queue (Some queue) some = record { queue = queue; is = refl }
some_queue None some = absurd (cc)

-- a queue that begins with recovery to come is not ready
pub found_waits : (ws : Words) (slot : Slot) (w : State) → world_in ws slot ≡ Some w → is_some w.recovery ≡ true → IsReadyIn false slot
found_waits ws Closed w e down = tt
found_waits ws (Open block) w e down = ap (λ (v : State). is_some v.recovery) (some_is (world_in ws (Open block)) _ w refl e) ∙ down

module _ (b : Brokered) (holds : IsWell b) (down : IsReadingDirectory b.recovery) (slot : SlotId) (gate : IsOpenSlot b.words.kept slot.0)
    (s : Slot) (here : slice_get b.slots slot.0 ≡ Some s) where
  r : Reading b
  r = being_read b holds down

  whole : Directory
  whole = (being_read b holds down).reading.whole

  whole_here : slice_get (being_read b holds down).reading.whole slot.0 ≡ Some (slot_in b.words.kept slot.0)
  whole_here = ((being_read b holds down).reading.recovering.rest.slots slot.0 gate.in_range).same

  has_one : SomeQueue (slot_in b.words.kept slot.0)
  has_one =
      let some = some_queue (queue_in b.words.kept slot.0) gate.opened.queue in
      record { queue = some.queue; is = slot_open b.words.kept slot.0 gate.opened.gate ∙ some.is }

  -- an open slot's queue is known
  pub known_open : is_none (kind_in s) ≡ false → slice_get b.directory slot.0 ≡ Some (slot_in b.words.kept slot.0)
  known_open is_open = go (slice_get b.directory slot.0) refl (known_or b.directory (being_read b holds down).reading.whole b.creation (being_read b holds down).reading.more slot.0)
    where
      go : (o : Option (Option Queue)) → slice_get b.directory slot.0 ≡ o → (slice_get (being_read b holds down).reading.whole slot.0 ≡ slice_get b.directory slot.0)
          ⊎ IsDropped b.directory (being_read b holds down).reading.whole b.creation slot.0 → slice_get b.directory slot.0 ≡ Some (slot_in b.words.kept slot.0)
      go o e (inl same) = sym same ∙ whole_here
      go (Some (Some q)) e (inr lost) =
          let free : slice_get b.directory slot.0 ≡ Some None = ap (slice_get b.directory) lost.here ∙ lost.more.free in
          absurd (cc)
      go (Some None) e (inr lost) =
          let none : is_none (kind_in s) ≡ true = ap is_none (holds.kinds slot.0 s None here e) in
          absurd (cc)
      go None e (inr lost) = absurd (get_there b.directory slot.0 (omega (arith, gate.in_range, holds.listed.count)) e)

  -- a closed one's is that of the creation which was dropped
  module _ (is_closed : is_none (kind_in s) ≡ true) where
    no_kind : kind_in s ≡ None
    no_kind = go (kind_in s) refl
      where
        go : (o : Option Kind) → kind_in s ≡ o → o ≡ None
        go None e = refl
        go (Some kind) e = absurd (cc)

    pub closed : s ≡ Closed
    closed = closed_where_free s no_kind

    pub is_free : IsFree b.directory slot.0
    is_free = go (slice_get b.directory slot.0) refl
      where
        go : (o : Option (Option Queue)) → slice_get b.directory slot.0 ≡ o → slice_get b.directory slot.0 ≡ Some None
        go (Some (Some q)) e =
            let some : kind_in s ≡ Some q.kind = holds.kinds slot.0 s (Some q) here e in
            absurd (cc)
        go (Some None) e = e
        go None e = absurd (get_there b.directory slot.0 (omega (arith, gate.in_range, holds.listed.count)) e)

    lost : IsDropped b.directory (being_read b holds down).reading.whole b.creation slot.0
    lost = go (known_or b.directory (being_read b holds down).reading.whole b.creation (being_read b holds down).reading.more slot.0)
      where
        go : (slice_get (being_read b holds down).reading.whole slot.0 ≡ slice_get b.directory slot.0) ⊎ IsDropped b.directory (being_read b holds down).reading.whole b.creation slot.0
            → IsDropped b.directory (being_read b holds down).reading.whole b.creation slot.0
        go (inr it) = it
        go (inl same) =
            let one : Some (slot_in b.words.kept slot.0) ≡ Some (Some has_one.queue) = ap Some has_one.is in
            absurd (cc (is_free, same, whole_here, one))

    pub some_dropped : b.creation ≡ None → ⊥
    some_dropped none = absurd (cc (none, lost.is))

    module _ (k : Creation) (is : b.creation ≡ Some k) where
      it_is : lost.dropped ≡ k
      it_is = some_is b.creation lost.dropped k lost.is is

      its_slot : slot.0 ≡ k.slot.0
      its_slot = lost.here ∙ ap (λ (x : Creation). x.slot.0) it_is

      with_it : IsWith b.directory (being_read b holds down).reading.whole k
      with_it = subst (IsWith b.directory (being_read b holds down).reading.whole) it_is lost.more

      pub same_slot : slot ≡ k.slot
      same_slot = ap (λ n. let i : SlotId = record { 0 = n } in i) its_slot

      pub is_new : HasName b.directory k.queue.name → ⊥
      is_new = with_it.is_new

      pub unused : IsUnusedBlock b.counts b.words slot.0
      unused = subst (IsSlotAt b.counts b.words slot.0) closed (holds.slots slot.0 s here)

      module _ (opened : Slot) (kind : kind_in opened ≡ Some k.queue.kind) (waits : IsReadyIn false opened) (at : IsSlotAt b.counts b.words slot.0 opened)
          (directory : Directory) (listed : directory ≡ slice_set b.directory slot.0 (Some k.queue)) (once : IsDirectory directory) where
        is_there : slice_get (slice_set b.slots slot.0 opened) slot.0 ≡ Some opened
        is_there = get_set b.slots slot.0 opened (slice_get_within b.slots slot.0 s here)

        is_whole : (being_read b holds down).reading.whole ≡ directory
        is_whole = with_it.is ∙ ap (λ n. slice_set b.directory n (Some k.queue)) (sym its_slot) ∙ sym listed

        pub known_found : slice_get directory slot.0 ≡ Some (slot_in b.words.kept slot.0)
        known_found = ap (λ (d : Directory). slice_get d slot.0) (sym is_whole) ∙ whole_here

        -- what is here, or elsewhere
        by_place : (p : ℕ → Slot → Type 0) → p slot.0 opened → ((j : ℕ) (x : Slot) → j ≢ slot.0 → slice_get b.slots j ≡ Some x → p j x)
            → (j : ℕ) (x : Slot) → slice_get (slice_set b.slots slot.0 opened) j ≡ Some x → p j x
        by_place p own others j x e = go (cases_eq j slot.0)
          where
            go : (j ≡ slot.0) ⊎ (j ≡ slot.0 → ⊥) → p j x
            go (inl same) =
                let e2 : slice_get (slice_set b.slots slot.0 opened) slot.0 ≡ Some x = subst (λ n. slice_get (slice_set b.slots slot.0 opened) n ≡ Some x) same e in
                subst (λ n. p n x) (sym same) (subst (p slot.0) (some_is _ opened x is_there e2) own)
            go (inr ne) = others j x ne (sym (get_set_other b.slots slot.0 opened j ne) ∙ e)

        kinds_found : (j : ℕ) (x : Slot) (queue : Option Queue) → slice_get (slice_set b.slots slot.0 opened) j ≡ Some x
            → slice_get (slice_set b.directory slot.0 (Some k.queue)) j ≡ Some queue → kind_in x ≡ option_map (λ (q : Queue). q.kind) queue
        kinds_found j x queue e there = by_place (λ n y. (o : Option Queue) → slice_get (slice_set b.directory slot.0 (Some k.queue)) n ≡ Some o → kind_in y ≡ option_map (λ (q : Queue). q.kind) o)
            (λ o f. kind ∙ ap (option_map (λ (q : Queue). q.kind)) (some_is _ (Some k.queue) o (set_here b.directory slot.0 (Some k.queue) (omega (arith, gate.in_range, holds.listed.count))) f))
            (λ n y ne h o f. holds.kinds n y o h (sym (get_set_other b.directory slot.0 (Some k.queue) n ne) ∙ f))
            j x e queue there

        pub well_found : IsWell (record b { slots = slice_set b.slots slot.0 opened; directory = directory })
        well_found = record {
          counts = holds.counts;
          room = holds.room;
          head = holds.head;
          count = length_set b.slots slot.0 opened ∙ holds.count;
          slots = by_place (λ n y. IsSlotAt b.counts b.words n y) at (λ n y ne h. holds.slots n y h);
          listed = once;
          kinds = λ j x queue e there. kinds_found j x queue e (subst (λ (d : Directory). slice_get d j ≡ Some queue) listed there);
          directory = subst (λ (o : Option BrokerRecovery). IsDirectoryAt b.words o b.creation directory) (sym (being_read b holds down).is) (record {
            whole = (being_read b holds down).reading.whole;
            recovering = (being_read b holds down).reading.recovering;
            more = same_whole directory (being_read b holds down).reading.whole b.creation is_whole;
            loaded = λ j less. ap (λ (d : Directory). slice_get d j) (sym is_whole);
          });
          readiness = by_place (λ n y. IsReadyIn (is_ready_at b.recovery n) y)
              (subst (λ (o : Option BrokerRecovery). IsReadyIn (is_ready_at o slot.0) opened) (sym (being_read b holds down).is) waits)
              (λ n y ne h. holds.readiness n y h);
        }

        abbrev after : Brokered
        after = record b { slots = slice_set b.slots slot.0 opened; directory = directory }

        pub found_first : world_in b.words opened ≡ Some (found_world b k.queue.kind slot.0 b.words) → IsFoundFirst b after slot
        found_first world = record {
          creation = k;
          dropped = is;
          here = same_slot;
          directory = listed;
          world = ap (world_of b.words) is_there ∙ world;
          others = λ j ne. ap (λ (o : Option Slot). quiet (world_of b.words o)) (get_set_other b.slots slot.0 opened j ne);
        }

-- by the slot's world
world_closed : (ws : Words) (s : Slot) → s ≡ Closed → world_in ws s ≡ None
world_closed ws s e = ap (world_in ws) e

pub found_here : (b new : Brokered) (slot : SlotId) (s : Slot) → slice_get b.slots slot.0 ≡ Some s → s ≡ Closed → IsFoundFirst b new slot
    → IsFoundIn b new slot (world_at b slot.0)
found_here b new slot s here closed found =
    subst (IsFoundIn b new slot) (sym (ap (world_of b.words) here ∙ world_closed b.words s closed)) found

pub found_known : (b : Brokered) (slot : SlotId) (s : Slot) → slice_get b.slots slot.0 ≡ Some s → is_none (kind_in s) ≡ false → IsFound b b (Some slot)
found_known b slot s here is_open = subst (IsFoundIn b b slot) (sym (ap (world_of b.words) here)) (alike s is_open)
  where
    alike : (x : Slot) → is_none (kind_in x) ≡ false → IsFoundIn b b slot (world_in b.words x)
    alike Closed e = absurd (cc)
    alike (Open block) e = record { directory = refl; worlds = λ j. refl }

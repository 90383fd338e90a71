-- What waits to complete a flush has asked for it, through each act of a broker.
use Rattle.std.proofs.Common.{◌≡◌, ◌≢◌, ℕ, ◌+◌, ◌*◌, ◌<◌, ◌≤◌, ◌⊎◌, inl, inr, Bool, true, false, if◌then◌else◌, replicate, ◌-◌, List, Option, Some, None, Ok, Err, suc, length, slice_get, slice_index_or, slice_set, refl, sym, ap, subst, ◌∙◌, arith}
use Rattle.std.proofs.lemmas.Bool.{cases_eq, cases_lt}
use Rattle.std.proofs.lemmas.Bool.Decides.{leb_tells}
use Rattle.std.proofs.lemmas.List.{get_or_past}
use Rattle.std.proofs.lemmas.Option.{slice_get_within}
use Rattle.words.specs.declared.call.Client.{Client}
use Rattle.words.specs.declared.refusal.Refusal.TheVariants.{NoClient}
use Rattle.words.specs.declared.limits.TheConstants.{QUEUE_PORTS, RECOVERY_PORT}
use Rattle.persist.specs.Memory.{Access, Around, Cas, Fence, Flush, Lent, Load, Store, MemoryState, Request, Words}
use Rattle.persist.specs.Memory.{asked_through, lent_whole, seen_in, seen_whole}
use Rattle.persist.proofs.Facts.{asked_elsewhere}
use Rattle.arena.specs.Broker.{block_from, block_size_of}
use Rattle.arena.specs.Shape.{Counts, Shape, shape_of}
use Rattle.interleave.specs.Asked.{AreAsked, IfCallAsked, IfRecoveryAsked}
use Rattle.interleave.specs.Holds.{Holds}
use Rattle.interleave.specs.State.{State, after_evict, after_stop, world_over}
use Rattle.interleave.specs.Rotation.{after_rotation}
use Rattle.interleave.proofs.Facts.{asked_at_boot, asked_at_first, asked_evicted, asked_same, get_set}
use Rattle.protocol.specs.declared.UnderWay.{UnderWay}
use Rattle.directory.specs.Step.{lent_after_one}
use Rattle.directory.specs.declared.creation.Creation.{Creation}
use Rattle.directory.specs.Creation.{IsNextAskedFor, new_creation}
use Rattle.stepper.specs.declared.resume.After.{After}
use Rattle.stepper.specs.declared.resume.After.TheVariants.{More}
use Rattle.directory.specs.Queue.{slot_in}
use Rattle.directory.specs.declared.queue.Queue.{Queue}
use Rattle.arena.specs.declared.broker.BrokerPlace.{BrokerPlace}
use Rattle.arena.specs.declared.broker.SlotId.{SlotId}
use Rattle.recover.specs.Table.{boot_recovery}
use Rattle.named.specs.Booting.{world_booted}
use Rattle.named.specs.Evicting.{is_in_block, world_evicted}
use Rattle.named.specs.Stopping.{IsReadingDirectory, creation_after}
use Rattle.named.specs.declared.recovery.BrokerRecovery.{BrokerRecovery}
use Rattle.named.specs.Asked.{IfCreationAsked, IsWellOver, IsWorldAsked, requests_at}
use Rattle.named.specs.Blocks.{BlockState, IsBeside, requests_in}
use Rattle.named.specs.Brokers.{Brokered, IsSlotAt, IsWell, admission, quiet, world_at, world_of}
use Rattle.named.specs.Slots.{AskAlikeBesideSlot, IfWorld, IsSlotAsked, acted, world_in}
use Rattle.named.specs.declared.broker.TheConstants.{CREATION_PORT}
use Rattle.named.specs.declared.slot.Slot.{Slot}
use Rattle.named.specs.declared.slot.Slot.TheVariants.{Closed, Open}
use Rattle.named.proofs.acts.OneSlot.{get_set_other, some_is}
use Rattle.named.proofs.acts.Continuity.{world_holds}
use Rattle.named.proofs.beginnings.NewBrokers.{get_replicate}

-- in a slot's block and through its ports, what its queue asks for is what the slot's does
block_requests : (c : Counts) (m : MemoryState) (at : ℕ) (block : BlockState) → block.from ≡ block_from c at → block.len ≡ block_size_of c.clients c.records
    → block.port ≡ QUEUE_PORTS * at → (t : ℕ) → requests_in m block t ≡ requests_at c m at t
block_requests c m at block from len port t =
    ap (λ (n : ℕ). seen_in n block.len (asked_through m (block.port + t))) from
    ∙ ap (λ (n : ℕ). seen_in (block_from c at) n (asked_through m (block.port + t))) len
    ∙ ap (λ (n : ℕ). seen_in (block_from c at) (block_size_of c.clients c.records) (asked_through m (n + t))) port

pub slot_asked : (c : Counts) (ws : Words) (m : MemoryState) (at : ℕ) (slot : Slot) → IsSlotAt c ws at slot → IfWorld (world_in ws slot) (IsWorldAsked c m at) → IsSlotAsked m slot
slot_asked c ws m at Closed here asked = tt
slot_asked c ws m at (Open block) here asked =
    asked_same block.core.shape block.core.calls block.core.trace.recovery (requests_at c m at) (requests_in m block)
    (block_requests c m at block here.from here.len here.port) asked

pub world_asked : (c : Counts) (ws : Words) (m : MemoryState) (at : ℕ) (slot : Slot) → IsSlotAt c ws at slot → IsSlotAsked m slot → IfWorld (world_in ws slot) (IsWorldAsked c m at)
world_asked c ws m at Closed here asked = tt
world_asked c ws m at (Open block) here asked =
    asked_same block.core.shape block.core.calls block.core.trace.recovery (requests_in m block) (requests_at c m at)
    (λ t. sym (block_requests c m at block here.from here.len here.port t)) asked

-- through ports that are no slot's the same is asked for after an act of its queue
beside_slot : (c : Counts) (ws : Words) (at : ℕ) (slot : Slot) (old new : MemoryState) → IsSlotAt c ws at slot → AskAlikeBesideSlot slot old new
    → (p : ℕ) → IsBeside (QUEUE_PORTS * at) p → asked_through new p ≡ asked_through old p
beside_slot c ws at Closed old new here same p beside = ap (λ (l : List (Option ℕ)). slice_index_or l p None) same
beside_slot c ws at (Open block) old new here same p beside = same p (subst (λ (n : ℕ). IsBeside n p) (sym here.port) beside)

-- the ports of two slots' queues are apart
ports_apart : (i j t : ℕ) → j ≢ i → t < QUEUE_PORTS → IsBeside (QUEUE_PORTS * i) (QUEUE_PORTS * j + t)
ports_apart i j t ne h = go (cases_lt j i)
  where
    go : (j < i) ⊎ (i ≤ j) → IsBeside (QUEUE_PORTS * i) (QUEUE_PORTS * j + t)
    go (inl less) = inl (omega (arith, less, h))
    go (inr above) = inr (omega (arith, above, ne))

abbrev counted : State → State
counted x = record x { words = record x.words { accesses = 0 } }

-- a world that differs in its words alone, whose ports ask for the same
module _ (c : Counts) (old new : MemoryState) (at : ℕ) (same : (t : ℕ) → t < QUEUE_PORTS → asked_through new (QUEUE_PORTS * at + t) ≡ asked_through old (QUEUE_PORTS * at + t)) where
  seen : (t : ℕ) → t < QUEUE_PORTS → requests_at c new at t ≡ requests_at c old at t
  seen t h = ap (seen_in (block_from c at) (block_size_of c.clients c.records)) (same t h)

  -- no client has a number past the ports
  pub still_asked : (w : State) → Holds w → IsWorldAsked c old at w → IsWorldAsked c new at w
  still_asked w holds asked = record {
    of_calls = λ t. elim (cases_lt t QUEUE_PORTS) [
      | inl h ↦ subst (IfCallAsked w.shape (slice_index_or w.calls t None)) (sym (seen t h)) (asked.of_calls t)
      | inr past ↦ subst (λ (o : Option UnderWay). IfCallAsked w.shape o (requests_at c new at t))
          (sym (get_or_past w.calls t None (omega (arith, past, holds.safe.clients, holds.safe.few)))) tt
    ];
    of_recovery = subst (IfRecoveryAsked w.shape w.recovery) (sym (seen RECOVERY_PORT (omega arith))) asked.of_recovery;
  }

  pub quiet_asked : (was is : Option State) → ((w : State) → was ≡ Some w → Holds w) → quiet is ≡ quiet was → IfWorld was (IsWorldAsked c old at) → IfWorld is (IsWorldAsked c new at)
  quiet_asked None None holds e asked = tt
  quiet_asked None (Some v) holds e asked = absurd cc
  quiet_asked (Some w) None holds e asked = tt
  quiet_asked (Some w) (Some v) holds e asked =
      let now = still_asked w (holds w refl) asked in
      let alike : Some (counted v) ≡ Some (counted w) = e in
      subst (λ (x : State). AreAsked x.shape x.calls x.recovery (requests_at c new at)) (some_is (Some (counted w)) (counted w) (counted v) refl (sym alike))
      (record { of_calls = now.of_calls; of_recovery = now.of_recovery })

-- where the worlds are as they were, but for the count of accesses, and nothing was asked for
pub all_quiet_asked : (b new : Brokered) (m n : MemoryState) → IsWellOver b m → new.counts ≡ b.counts → n.asked ≡ m.asked
    → ((slot : ℕ) → quiet (world_at new slot) ≡ quiet (world_at b slot)) → (slot : ℕ) → IfWorld (world_at new slot) (IsWorldAsked new.counts n slot)
all_quiet_asked b new m n holds counts same worlds slot =
    subst (λ (c : Counts). IfWorld (world_at new slot) (IsWorldAsked c n slot)) (sym counts)
    (quiet_asked b.counts m n slot (λ t h. ap (λ (l : List (Option ℕ)). slice_index_or l (QUEUE_PORTS * slot + t) None) same)
    (world_at b slot) (world_at new slot) (λ w e. world_holds b slot w holds.well e) (worlds slot) (holds.slots slot))

-- the queue in a slot has asked for what it completes
pub slot_asked_here : (b : Brokered) (m : MemoryState) (i : ℕ) (slot : Slot) → IsWellOver b m → slice_get b.slots i ≡ Some slot → IsSlotAsked m slot
slot_asked_here b m i slot holds here =
    slot_asked b.counts b.words m i slot (holds.well.slots i slot here) (subst (λ (o : Option Slot). IfWorld (world_of b.words o) (IsWorldAsked b.counts m i)) here (holds.slots i))

-- an act of the queue in a slot
module _ (b : Brokered) (old new : MemoryState) (i : ℕ) (was is : Slot) (holds : IsWellOver b old) (here : slice_get b.slots i ≡ Some was) (below : i < 8)
    (beside : AskAlikeBesideSlot was old new) where
  elsewhere : (p : ℕ) → IsBeside (QUEUE_PORTS * i) p → asked_through new p ≡ asked_through old p
  elsewhere = beside_slot b.counts b.words i was old new (holds.well.slots i was here) beside

  pub creation_waits : IfCreationAsked b.counts b.recovery b.creation (seen_whole (asked_through new CREATION_PORT))
  creation_waits = subst (IfCreationAsked b.counts b.recovery b.creation) (ap seen_whole (sym (elsewhere CREATION_PORT (inr (omega (arith, below)))))) holds.creation

  pub acted_asked : (ws : Words) → IsSlotAt b.counts ws i is → IsSlotAsked new is
      → ((j : ℕ) → j ≢ i → quiet (world_of ws (slice_get (slice_set b.slots i is) j)) ≡ quiet (world_at b j))
      → (j : ℕ) → IfWorld (world_of ws (slice_get (slice_set b.slots i is) j)) (IsWorldAsked b.counts new j)
  acted_asked ws at asked others j = go (cases_eq j i)
    where
      go : (j ≡ i) ⊎ (j ≡ i → ⊥) → IfWorld (world_of ws (slice_get (slice_set b.slots i is) j)) (IsWorldAsked b.counts new j)
      go (inl same) =
          subst (λ (n : ℕ). IfWorld (world_of ws (slice_get (slice_set b.slots i is) n)) (IsWorldAsked b.counts new n)) (sym same)
          (subst (λ (o : Option Slot). IfWorld (world_of ws o) (IsWorldAsked b.counts new i)) (sym (get_set b.slots i is (slice_get_within b.slots i was here)))
          (world_asked b.counts ws new i is at asked))
      go (inr ne) =
          quiet_asked b.counts old new j (λ t h. elsewhere (QUEUE_PORTS * j + t) (ports_apart i j t ne h)) (world_at b j) _ (λ w e. world_holds b j w holds.well e) (others j ne) (holds.slots j)

-- what holds of the one slot and of the others holds of each
pub each_slot : (p : ℕ → Type 0) (i : ℕ) → p i → ((j : ℕ) → j ≢ i → p j) → (j : ℕ) → p j
each_slot p i here others j = elim (cases_eq j i) [
  | inl same ↦ subst p (sym same) here
  | inr ne ↦ others j ne
]

-- a slot past the last has no world
no_world : (c : Counts) (ws : Words) (m : MemoryState) (slot : ℕ) (slots : List Slot) → length slots ≤ slot → IfWorld (world_of ws (slice_get slots slot)) (IsWorldAsked c m slot)
no_world c ws m slot slots past = go (slice_get slots slot) refl
  where
    go : (o : Option Slot) → slice_get slots slot ≡ o → IfWorld (world_of ws o) (IsWorldAsked c m slot)
    go None e = tt
    go (Some s) e = let within = slice_get_within slots slot s e in absurd (omega (arith, within, past))

-- a step of the creation asks through its own port
pub creation_stepped : (b : Brokered) (new : Brokered) (m n : MemoryState) → IsWellOver b m → new.counts ≡ b.counts → length new.slots ≡ length b.slots
    → ((p : ℕ) → p ≢ CREATION_PORT → asked_through n p ≡ asked_through m p) → (slot : ℕ) → quiet (world_at new slot) ≡ quiet (world_at b slot)
    → IfWorld (world_at new slot) (IsWorldAsked b.counts n slot)
creation_stepped b new m n holds counts slots others slot worlds = elim (cases_lt slot 8) [
  | inl below ↦ quiet_asked b.counts m n slot (λ t h. others (QUEUE_PORTS * slot + t) (λ e. omega (arith, below, h, e)))
      (world_at b slot) (world_at new slot) (λ w e. world_holds b slot w holds.well e) worlds (holds.slots slot)
  | inr past ↦ no_world b.counts new.words n slot new.slots (omega (arith, past, holds.well.count, slots))
]

-- a stopped world, and one whose history begins anew
pub stopped_asked : (c : Counts) (m : MemoryState) (slot : ℕ) (was is : Option State) → is ≡ acted after_stop was → IfWorld is (IsWorldAsked c m slot)
stopped_asked c m slot was is e = subst (λ (o : Option State). IfWorld o (IsWorldAsked c m slot)) (sym e) (go was)
  where
    go : (o : Option State) → IfWorld (acted after_stop o) (IsWorldAsked c m slot)
    go None = tt
    go (Some w) = asked_at_boot w.shape (length w.calls) (requests_at c m slot)

pub rotated_asked : (c : Counts) (m : MemoryState) (slot : ℕ) (was is : Option State) → is ≡ acted after_rotation was → IfWorld was (IsWorldAsked c m slot)
    → IfWorld is (IsWorldAsked c m slot)
rotated_asked c m slot was is e asked = subst (λ (o : Option State). IfWorld o (IsWorldAsked c m slot)) (sym e) (go was asked)
  where
    go : (o : Option State) → IfWorld o (IsWorldAsked c m slot) → IfWorld (acted after_rotation o) (IsWorldAsked c m slot)
    go None asked = tt
    go (Some w) asked = record { of_calls = asked.of_calls; of_recovery = asked.of_recovery }

pub same_asked : (c : Counts) (m : MemoryState) (slot : ℕ) (was is : Option State) → is ≡ was → IfWorld was (IsWorldAsked c m slot) → IfWorld is (IsWorldAsked c m slot)
same_asked c m slot was is e asked = subst (λ (o : Option State). IfWorld o (IsWorldAsked c m slot)) (sym e) asked

-- a client that a broker admits has a port of each queue
pub admitted_client : (b : Brokered) (client : Client) → IsWell b → admission b client ≡ Ok tt → client.0 < QUEUE_PORTS
admitted_client b client holds e = elim (leb_tells (suc client.0) b.counts.clients) [
  | inl there ↦ omega (arith, there.1, holds.counts.few_clients)
  | inr none ↦ let no : admission b client ≡ Err NoClient = rw (none.0) refl in absurd (cc)
]

-- a creation that begins has nothing to complete yet, and one that a crash dropped has no next step
begun_asked_for : (c : Counts) (recovery : Option BrokerRecovery) (slot : SlotId) (queue : Queue) (request : Request)
    → IfCreationAsked c recovery (Some (new_creation slot queue)) request
begun_asked_for c None slot queue request = tt
begun_asked_for c (Some recovery) slot queue request = tt

pub begun_asked : (c : Counts) (recovery : Option BrokerRecovery) (slot : SlotId) (queue : Queue) (creation : Creation) (request : Request)
    → creation ≡ new_creation slot queue → IfCreationAsked c recovery (Some creation) request
begun_asked c recovery slot queue creation request e =
    subst (λ (k : Creation). IfCreationAsked c recovery (Some k) request) (sym e) (begun_asked_for c recovery slot queue request)

-- its next step has what it completes
pub next_asked : (c : Counts) (recovery : Option BrokerRecovery) (a : After Creation SlotId) (next : Creation) (request : Request) → recovery ≡ None → a ≡ More next
    → IsNextAskedFor c a request → IfCreationAsked c recovery (Some next) request
next_asked c recovery a next request ready is asked =
    subst (λ (o : Option BrokerRecovery). IfCreationAsked c o (Some next) request) (sym ready) (subst (λ (x : After Creation SlotId). IsNextAskedFor c x request) is asked)

pub none_asked_for : (c : Counts) (recovery : Option BrokerRecovery) (request : Request) → IfCreationAsked c recovery None request
none_asked_for c None request = tt
none_asked_for c (Some recovery) request = tt

pub down_asked : (c : Counts) (recovery : Option BrokerRecovery) (creation : Option Creation) (request : Request) → IsReadingDirectory recovery → IfCreationAsked c recovery creation request
down_asked c None creation request down = absurd down
down_asked c (Some recovery) creation request down = tt

pub recovery_asked : (c : Counts) (recovery : Option BrokerRecovery) (r : BrokerRecovery) (creation : Option Creation) (request : Request) → recovery ≡ Some r
    → IfCreationAsked c recovery creation request
recovery_asked c recovery r creation request e = subst (λ (o : Option BrokerRecovery). IfCreationAsked c o creation request) (sym e) tt

left_after : (c : Counts) (recovery : Option BrokerRecovery) (creation : Option Creation) (request : Request) → IfCreationAsked c recovery (creation_after creation recovery) request
left_after c None creation request = tt
left_after c (Some recovery) creation request = tt

pub left_asked : (c : Counts) (recovery : Option BrokerRecovery) (creation left : Option Creation) (request : Request) → left ≡ creation_after creation recovery
    → IfCreationAsked c recovery left request
left_asked c recovery creation left request e = subst (λ (k : Option Creation). IfCreationAsked c recovery k request) (sym e) (left_after c recovery creation request)

-- a slot that is opened, by its world
pub opened_asked : (b : Brokered) (ws : Words) (m : MemoryState) (i : ℕ) (opened : Slot) → i < length b.slots → IfWorld (world_in ws opened) (IsWorldAsked b.counts m i)
    → ((j : ℕ) → j ≢ i → IfWorld (world_of ws (slice_get b.slots j)) (IsWorldAsked b.counts m j))
    → (j : ℕ) → IfWorld (world_of ws (slice_get (slice_set b.slots i opened) j)) (IsWorldAsked b.counts m j)
opened_asked b ws m i opened below asked others j = go (cases_eq j i)
  where
    go : (j ≡ i) ⊎ (j ≡ i → ⊥) → IfWorld (world_of ws (slice_get (slice_set b.slots i opened) j)) (IsWorldAsked b.counts m j)
    go (inl same) =
        subst (λ (n : ℕ). IfWorld (world_of ws (slice_get (slice_set b.slots i opened) n)) (IsWorldAsked b.counts m n)) (sym same)
        (subst (λ (o : Option Slot). IfWorld (world_of ws o) (IsWorldAsked b.counts m i)) (sym (get_set b.slots i opened below)) asked)
    go (inr ne) = subst (λ (o : Option Slot). IfWorld (world_of ws o) (IsWorldAsked b.counts m j)) (sym (get_set_other b.slots i opened j ne)) (others j ne)

-- a new world, one that recovery is the first to find, and one that begins on kept words
pub new_asked : (c : Counts) (m : MemoryState) (slot : ℕ) (o : Option State) (s : Shape) (ws : Words) → o ≡ Some (world_over s ws) → IfWorld o (IsWorldAsked c m slot)
new_asked c m slot o s ws e = subst (λ (x : Option State). IfWorld x (IsWorldAsked c m slot)) (sym e) (asked_at_first s s.clients (requests_at c m slot))

pub found_asked : (c : Counts) (m : MemoryState) (slot : ℕ) (o : Option State) (s : Shape) (ws : Words) → o ≡ Some (record (world_over s ws) { recovery = Some boot_recovery })
    → IfWorld o (IsWorldAsked c m slot)
found_asked c m slot o s ws e = subst (λ (x : Option State). IfWorld x (IsWorldAsked c m slot)) (sym e) (asked_at_boot s s.clients (requests_at c m slot))

booted_asked_at : (c : Counts) (m : MemoryState) (slot : ℕ) (ws : Words) (queue : Option Queue) → IfWorld (world_booted c slot ws queue) (IsWorldAsked c m slot)
booted_asked_at c m slot ws None = tt
booted_asked_at c m slot ws (Some queue) = asked_at_boot (shape_of queue.kind c) c.clients (requests_at c m slot)

pub booted_asked : (b : Brokered) (m : MemoryState) (ws : Words) → IsWell b → ((slot : ℕ) → slot < 8 → world_at b slot ≡ world_booted b.counts slot ws (slot_in ws.kept slot))
    → (slot : ℕ) → IfWorld (world_at b slot) (IsWorldAsked b.counts m slot)
booted_asked b m ws holds worlds slot = elim (cases_lt slot 8) [
  | inl below ↦ subst (λ (x : Option State). IfWorld x (IsWorldAsked b.counts m slot)) (sym (worlds slot below)) (booted_asked_at b.counts m slot ws (slot_in ws.kept slot))
  | inr past ↦ no_world b.counts b.words m slot b.slots (omega (arith, past, holds.count))
]

-- slots that are all closed
pub closed_asked : (c : Counts) (ws : Words) (m : MemoryState) (slots : List Slot) → slots ≡ replicate 8 Closed → (slot : ℕ) → IfWorld (world_of ws (slice_get slots slot)) (IsWorldAsked c m slot)
closed_asked c ws m slots closed slot =
    subst (λ (l : List Slot). IfWorld (world_of ws (slice_get l slot)) (IsWorldAsked c m slot)) (sym closed) (go (slice_get (replicate 8 Closed) slot) refl)
  where
    go : (o : Option Slot) → slice_get (replicate 8 Closed) slot ≡ o → IfWorld (world_of ws o) (IsWorldAsked c m slot)
    go None e = tt
    go (Some s) e = subst (λ (x : Slot). IfWorld (world_in ws x) (IsWorldAsked c m slot)) (sym (get_replicate 8 Closed slot s e)) tt

-- an eviction asks for nothing
pub evicted_asked : (c : Counts) (m n : MemoryState) (slot word : ℕ) (was is : Option State) → is ≡ acted (world_evicted c slot word) was → n.asked ≡ m.asked
    → IfWorld was (IsWorldAsked c m slot) → IfWorld is (IsWorldAsked c n slot)
evicted_asked c m n slot word was is e same asked = subst (λ (o : Option State). IfWorld o (IsWorldAsked c n slot)) (sym e) (go was asked)
  where
    alike : (t : ℕ) → requests_at c n slot t ≡ requests_at c m slot t
    alike t = ap (λ (l : List (Option ℕ)). seen_in (block_from c slot) (block_size_of c.clients c.records) (slice_index_or l (QUEUE_PORTS * slot + t) None)) same

    go : (o : Option State) → IfWorld o (IsWorldAsked c m slot) → IfWorld (acted (world_evicted c slot word) o) (IsWorldAsked c n slot)
    go None asked = tt
    go (Some w) asked = at (is_in_block c slot word)
      where
        at : (t : Bool) → (let x : State = (if t then after_evict w (word - block_from c slot) else w) in IsWorldAsked c n slot x)
        at true = asked_evicted w (word - block_from c slot) (requests_at c m slot) (requests_at c n slot) alike asked
        at false = asked_same w.shape w.calls w.recovery (requests_at c m slot) (requests_at c n slot) alike asked

-- a step of a creation asks through its port alone
around_one : (c : Counts) (access : Access BrokerPlace) (lent : Lent) → (lent_after_one c access lent).around ≡ lent.around
around_one c (Load place) lent = refl
around_one c (Store place value) lent = refl
around_one c (Cas place old new) lent = refl
around_one c (Flush place) lent = refl
around_one c (Fence place) lent = refl

pub others_left : (c : Counts) (access : Access BrokerPlace) (name port name2 port2 : ℕ) (old new : MemoryState) (first : Lent) → first ≡ lent_whole name port old
    → lent_whole name2 port2 new ≡ lent_after_one c access first → (p : ℕ) → p ≢ port → asked_through new p ≡ asked_through old p
others_left c access name port name2 port2 old new first lent left p ne =
    let around : (lent_whole name2 port2 new).around ≡ (lent_whole name port old).around =
    ap (λ (l : Lent). l.around) left ∙ around_one c access first ∙ ap (λ (l : Lent). l.around) lent in
    let through : port2 ≡ port = ap (λ (a : Around). a.port) around in
    asked_elsewhere old.asked new.asked port p ne (ap (λ (n : ℕ). slice_set new.asked n None) (sym through) ∙ ap (λ (a : Around). a.others) around)

pub one_lender : (c : Counts) (access : Access BrokerPlace) (first left : Lent) → left ≡ lent_after_one c access first → left.around.lender ≡ first.around.lender
one_lender c access first left e = ap (λ (l : Lent). l.around.lender) e ∙ ap (λ (a : Around). a.lender) (around_one c access first)

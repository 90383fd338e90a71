-- A step of recovery that reads the directory: one load, and what is known then.
use Rattle.std.proofs.Common.{◌≡◌, ℕ, ◌+◌, ◌<◌, ◌≤◌, ◌==◌, ◌⊎◌, inl, inr, Bool, true, false, if◌then◌else◌, List, Option, Some, None, length, slice_get, slice_index, slice_set, refl, sym, ap, ◌∙◌, subst, arith}
use Rattle.std.specs.Prelude.{IfSome, nat_lt}
use Rattle.std.proofs.lemmas.Bool.{cases_lt, ltb-false}
use Rattle.arena.specs.Shape.{Counts}
use Rattle.arena.specs.declared.broker.SlotId.{SlotId}
use Rattle.arena.specs.declared.codes.TheConstants.{OPEN_GATE}
use Rattle.persist.specs.Memory.{Words}
use Rattle.stepper.specs.declared.resume.After.{After}
use Rattle.stepper.specs.declared.resume.After.TheVariants.{More, Done}
use Rattle.directory.specs.Directory.{Directory}
use Rattle.directory.specs.Queue.{IsOpenSlot, directory_of, gate_at, queue_in, queue_of, slot_in}
use Rattle.directory.specs.Recovering.{Finds, IsRecovering}
use Rattle.directory.specs.Recovery.{access_of, past_slot, recovered, recovered_at, recovery_at, slot_at}
use Rattle.directory.specs.Step.{after_one, value_found}
use Rattle.directory.specs.UnderWay.{HaveSameDirectory, IsAtRest}
use Rattle.directory.specs.declared.creation.Creation.{Creation}
use Rattle.directory.specs.declared.recovery.DirectoryPoint.{DirectoryPoint}
use Rattle.directory.specs.declared.recovery.DirectoryPoint.TheVariants.{LoadGate, LoadFirstName, LoadSecondName}
use Rattle.directory.specs.declared.recovery.DirectoryPoint.TheVariants.{LoadKind}
use Rattle.directory.specs.declared.recovery.DirectoryRecovery.{DirectoryRecovery}
use Rattle.directory.specs.declared.recovery.Recovered.{Recovered}
use Rattle.directory.proofs.Facts.{directory_is, head_moves, kept_directory, recovery_finds, recovery_moves}
use Rattle.directory.proofs.Facts.{recovery_opens}
use Rattle.named.specs.Brokers.{Brokered, IsDirectoryAt, IsMaybeWith, IsReading, IsWell, gates_loaded, quiet, world_at}
use Rattle.named.specs.Brokers.{world_of}
use Rattle.named.specs.Stopping.{IsFound, IsFoundFirst, IsFoundIn, IsKnownAlike, IsReadOn, MayReadOn, creation_after}
use Rattle.named.specs.Stopping.{found_world, words_read}
use Rattle.named.specs.declared.recovery.BrokerRecovery.{BrokerRecovery}
use Rattle.named.specs.declared.recovery.BrokerRecovery.TheVariants.{ReadDirectory}
use Rattle.named.specs.declared.slot.Slot.{Slot}
use Rattle.named.specs.declared.slot.Slot.TheVariants.{Closed, Open}
use Rattle.named.proofs.creations.OpenGates.{known_free}
use Rattle.named.proofs.acts.OneSlot.{directory_stays, slot_stays, world_stays}

-- a load leaves the words as they are, but for the count
module _ (b : Brokered) (holds : IsWell b) (at : DirectoryRecovery) (is : b.recovery ≡ Some (ReadDirectory at)) where
  being : IsReading b.words at b.creation b.directory
  being = subst (λ (r : Option BrokerRecovery). IsDirectoryAt b.words r b.creation b.directory) is holds.directory

  same_directory : HaveSameDirectory b.words (words_read b at)
  same_directory = record {
    room = record { cached = being.recovering.rest.room.cached; kept = being.recovering.rest.room.kept };
    cached = λ word below. refl;
    kept = λ word below. refl;
  }

  pub well_loaded : IsWell (record b { words = words_read b at })
  well_loaded = record {
    counts = holds.counts;
    room = record { cached = holds.room.cached; kept = holds.room.kept };
    head = head_moves b.words (words_read b at) b.counts same_directory holds.head;
    count = holds.count;
    slots = λ j s here. slot_stays b.counts j s b.words (words_read b at) (refl, refl) refl (holds.slots j s here);
    listed = holds.listed;
    kinds = holds.kinds;
    directory = directory_stays b.words (words_read b at) b.recovery b.creation b.directory same_directory holds.directory;
    readiness = holds.readiness;
  }

  pub worlds_loaded : (j : ℕ) → quiet (world_of (words_read b at) (slice_get b.slots j)) ≡ quiet (world_at b j)
  worlds_loaded j = go (slice_get b.slots j) refl
    where
      go : (o : Option Slot) → slice_get b.slots j ≡ o → quiet (world_of (words_read b at) o) ≡ quiet (world_of b.words o)
      go (Some s) e = world_stays b.counts j s b.words (words_read b at) (refl, refl) (holds.slots j s e)
      go None e = refl

  pub found_opens : IfSome (recovered at (value_found b.counts (access_of at) b.words)).opened (λ slot. IsOpenSlot b.words.kept slot.0)
  found_opens = recovery_opens b.counts b.words at being.whole being.recovering

-- what comes once a slot was read
past_more : (places : Directory) (slot : SlotId) (next : DirectoryRecovery) → past_slot places slot ≡ More next → gates_loaded next.at ≤ slot.0 + 1
past_more places slot next e = go (nat_lt (slot.0 + 1) 8) e
  where
    go : (o : Bool) → (if o then More (recovery_at places (LoadGate (record { 0 = slot.0 + 1 }))) else Done places) ≡ More next → gates_loaded next.at ≤ slot.0 + 1
    go true f =
        let it : recovery_at places (LoadGate (record { 0 = slot.0 + 1 })) ≡ next = cc in
        omega (arith, ap (λ (d : DirectoryRecovery). gates_loaded d.at) it)
    go false f = absurd (cc)

past_done : (places found : Directory) (slot : SlotId) → past_slot places slot ≡ Done found → 8 ≤ slot.0 + 1
past_done places found slot e = go (nat_lt (slot.0 + 1) 8) refl e
  where
    go : (o : Bool) → nat_lt (slot.0 + 1) 8 ≡ o → (if o then More (recovery_at places (LoadGate (record { 0 = slot.0 + 1 }))) else Done places) ≡ Done found → 8 ≤ slot.0 + 1
    go true g f = absurd (cc)
    go false g f = ltb-false (slot.0 + 1) 8 g

-- no more gates are loaded then than are known
next_gates : (places : Directory) (point : DirectoryPoint) (v : ℕ) (next : DirectoryRecovery) → (recovered_at places point v).after ≡ More next
    → gates_loaded next.at ≤ slot_at point + 1
next_gates places (LoadGate slot) v next e = go (v == OPEN_GATE) e
  where
    go : (o : Bool) → (let r : Recovered = if o then record { opened = Some slot; after = More (recovery_at places (LoadFirstName slot)) } else record { opened = None; after = past_slot places slot } in r.after) ≡ More next
        → gates_loaded next.at ≤ slot.0 + 1
    go true f =
        let it : recovery_at places (LoadFirstName slot) ≡ next = cc in
        omega (arith, ap (λ (d : DirectoryRecovery). gates_loaded d.at) it)
    go false f = past_more places slot next f
next_gates places (LoadFirstName slot) v next e =
    let it : recovery_at places (LoadSecondName slot v) ≡ next = cc in
    omega (arith, ap (λ (d : DirectoryRecovery). gates_loaded d.at) it)
next_gates places (LoadSecondName slot first) v next e =
    let it : recovery_at places (LoadKind slot first v) ≡ next = cc in
    omega (arith, ap (λ (d : DirectoryRecovery). gates_loaded d.at) it)
next_gates places (LoadKind slot first second) v next e = past_more (slice_set places slot.0 (queue_of first second v)) slot next e

done_gates : (places : Directory) (point : DirectoryPoint) (v : ℕ) (found : Directory) → (recovered_at places point v).after ≡ Done found → 8 ≤ slot_at point + 1
done_gates places (LoadGate slot) v found e = go (v == OPEN_GATE) e
  where
    go : (o : Bool) → (let r : Recovered = if o then record { opened = Some slot; after = More (recovery_at places (LoadFirstName slot)) } else record { opened = None; after = past_slot places slot } in r.after) ≡ Done found
        → 8 ≤ slot.0 + 1
    go true f = absurd (cc)
    go false f = past_done places found slot f
done_gates places (LoadFirstName slot) v found e = absurd (cc)
done_gates places (LoadSecondName slot first) v found e = absurd (cc)
done_gates places (LoadKind slot first second) v found e = past_done (slice_set places slot.0 (queue_of first second v)) found slot e

module _ (ws : Words) (known whole : Directory) (creation : Option Creation) (more : IsMaybeWith known whole creation) (rest : IsAtRest ws whole) (long : length known ≡ 8) where
  -- a slot whose gate is closed is known to be free
  gate_closed : (slot : ℕ) → slot < 8 → (slice_index ws.cached (gate_at slot) == OPEN_GATE) ≡ false → slice_get known slot ≡ slice_get whole slot
  gate_closed slot below e =
      let own = rest.slots slot below in
      let kept : (slice_index ws.kept (gate_at slot) == OPEN_GATE) ≡ false = ap (λ n. n == OPEN_GATE) (sym own.settled.gate) ∙ e in
      let none : slot_in ws.kept slot ≡ None = ap (λ (x : Bool). if x then queue_in ws.kept slot else None) kept in
      known_free known whole creation more long slot below (own.same ∙ ap Some none)

  -- the slots up to this one are known
  known_to : (places : Directory) (point : DirectoryPoint) (c : Counts) → slot_at point < 8 → ((j : ℕ) → j < gates_loaded point → slice_get known j ≡ slice_get whole j)
      → IfSome (recovered_at places point (value_found c (access_of (recovery_at places point)) ws)).opened (λ slot. slice_get known slot.0 ≡ Some (slot_in ws.kept slot.0))
      → (j : ℕ) → j < slot_at point + 1 → slice_get known j ≡ slice_get whole j
  known_to places (LoadGate slot) c below loaded opened j less = go (cases_lt j slot.0)
    where
      v : ℕ
      v = slice_index ws.cached (gate_at slot.0)

      by_gate : (o : Bool) → (slice_index ws.cached (gate_at slot.0) == OPEN_GATE) ≡ o
          → IfSome (let r : Recovered = if o then record { opened = Some slot; after = More (recovery_at places (LoadFirstName slot)) } else record { opened = None; after = past_slot places slot } in r.opened)
          (λ s. slice_get known s.0 ≡ Some (slot_in ws.kept s.0))
          → slice_get known slot.0 ≡ slice_get whole slot.0
      by_gate true e is_known = is_known ∙ sym (rest.slots slot.0 below).same
      by_gate false e is_known = gate_closed slot.0 below e

      go : (j < slot.0) ⊎ (slot.0 ≤ j) → slice_get known j ≡ slice_get whole j
      go (inl under) = loaded j under
      go (inr past) =
          let same : slot.0 ≡ j = omega (arith, past, less) in
          subst (λ n. slice_get known n ≡ slice_get whole n) same (by_gate (slice_index ws.cached (gate_at slot.0) == OPEN_GATE) refl opened)
  known_to places (LoadFirstName slot) c below loaded opened j less = loaded j less
  known_to places (LoadSecondName slot first) c below loaded opened j less = loaded j less
  known_to places (LoadKind slot first second) c below loaded opened j less = loaded j less

-- what was read is known, so the directory may be read on
pub may_read_on : (c : Counts) (ws : Words) (at : DirectoryRecovery) (b : Brokered) → IsWell b → b.recovery ≡ Some (ReadDirectory at) → b.words ≡ after_one c (access_of at) ws
    → IfSome (recovered at (value_found c (access_of at) ws)).opened (λ slot. slice_get b.directory slot.0 ≡ Some (slot_in b.words.kept slot.0))
    → MayReadOn b (recovered at (value_found c (access_of at) ws)).after
may_read_on c ws at b holds is words opened = go (recovered at (value_found c (access_of at) ws)).after refl
  where
    reading : IsReading b.words at b.creation b.directory
    reading = subst (λ (r : Option BrokerRecovery). IsDirectoryAt b.words r b.creation b.directory) is holds.directory

    whole : Directory
    whole = reading.whole

    now : IsRecovering (after_one c (access_of at) ws) at reading.whole
    now = subst (λ (u : Words). IsRecovering u at reading.whole) words reading.recovering

    back : HaveSameDirectory (after_one c (access_of at) ws) ws
    back = record {
      room = record { cached = now.rest.room.cached; kept = now.rest.room.kept };
      cached = λ word below. refl;
      kept = λ word below. refl;
    }

    finds : Finds (after_one c (access_of at) ws) reading.whole (recovered at (value_found c (access_of at) ws)).after
    finds = recovery_finds c ws at reading.whole (recovery_moves (after_one c (access_of at) ws) ws at reading.whole now back)

    known : (j : ℕ) → j < slot_at at.at + 1 → slice_get b.directory j ≡ slice_get reading.whole j
    known = known_to (after_one c (access_of at) ws) b.directory reading.whole b.creation reading.more now.rest holds.listed.count at.places at.at c now.in_range reading.loaded
        (subst (λ (u : Words). IfSome (recovered at (value_found c (access_of at) ws)).opened (λ slot. slice_get b.directory slot.0 ≡ Some (slot_in u.kept slot.0))) words opened)

    go : (a : After DirectoryRecovery Directory) → (recovered at (value_found c (access_of at) ws)).after ≡ a → MayReadOn b a
    go (More next) e = record {
      whole = reading.whole;
      recovering = subst (λ (u : Words). IsRecovering u next reading.whole) (sym words) (subst (Finds (after_one c (access_of at) ws) reading.whole) e finds);
      more = reading.more;
      loaded = λ j less. known j (omega (arith, less, next_gates at.places at.at (value_found c (access_of at) ws) next e));
    }
    go (Done places) e =
        let found : places ≡ reading.whole = subst (Finds (after_one c (access_of at) ws) reading.whole) e finds in
        let all : 8 ≤ slot_at at.at + 1 = done_gates at.places at.at (value_found c (access_of at) ws) places e in
        let same : directory_of b.words.kept ≡ b.directory = directory_is b.words.kept b.directory holds.listed.count
        (λ slot below. known slot (omega (arith, below, all)) ∙ (reading.recovering.rest.slots slot below).same) in
        let is_whole : reading.whole ≡ b.directory = sym (kept_directory b.words reading.whole reading.recovering.rest) ∙ same in
        (found ∙ is_whole, subst (IsAtRest b.words) is_whole reading.recovering.rest)

-- what was found by the load was found by the step
module _ (old now new : Brokered) (ws : Words) (loaded : (j : ℕ) → quiet (world_of ws (slice_get old.slots j)) ≡ quiet (world_at old j))
    (counts : new.counts ≡ now.counts) (words : new.words ≡ now.words) (slots : new.slots ≡ now.slots) (directory : new.directory ≡ now.directory) where
  abbrev between : Brokered
  between = record old { words = ws }

  same_world : (j : ℕ) → world_at new j ≡ world_at now j
  same_world j = ap (λ (u : Words). world_of u (slice_get new.slots j)) words ∙ ap (λ (l : List Slot). world_of now.words (slice_get l j)) slots

  alike : IsKnownAlike between now → IsKnownAlike old new
  alike same = record {
    directory = directory ∙ same.directory;
    worlds = λ j. ap quiet (same_world j) ∙ same.worlds j ∙ loaded j;
  }

  first : (slot : SlotId) → IsFoundFirst between now slot → IsFoundFirst old new slot
  first slot found = record {
    creation = found.creation;
    dropped = found.dropped;
    here = found.here;
    directory = directory ∙ found.directory;
    world = same_world slot.0 ∙ subst (λ (u : Words). world_at now slot.0 ≡ Some (found_world old found.creation.queue.kind slot.0 u)) (sym words) found.world;
    others = λ j ne. ap quiet (same_world j) ∙ found.others j ne ∙ loaded j;
  }

  in_slot : (slot : SlotId) (o : Option Slot) → IsFoundIn between now slot (world_of ws o) → IsFoundIn old new slot (world_of old.words o)
  in_slot slot None found = first slot found
  in_slot slot (Some Closed) found = first slot found
  in_slot slot (Some (Open block)) found = alike found

  pub found_over : (o : Option SlotId) → IsFound between now o → IsFound old new o
  found_over None found = alike found
  found_over (Some slot) found = in_slot slot (slice_get old.slots slot.0) found

pub read_over : (old now new : Brokered) (a : After DirectoryRecovery Directory) → now.creation ≡ old.creation → IsReadOn now new a → IsReadOn old new a
read_over old now new (More next) same on = (on.0, on.1 ∙ same)
read_over old now new (Done places) same on =
    (on.0, on.1, on.2 ∙ ap (λ (k : Option Creation). creation_after k new.recovery) same)

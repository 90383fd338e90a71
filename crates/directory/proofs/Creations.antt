-- What holds of the words while a queue is created, and in the end.
use Rattle.std.proofs.Common.{◌≡◌, ◌≢◌, ℕ, ◌+◌, ◌*◌, ◌<◌, List, length, Option, Some, None, refl, sym, ◌∙◌, ap, subst, arith, inl, inr, ◌⊎◌, length-set, slice_index, slice_set}
use Rattle.std.specs.Prelude.{◌==◌, IsSome, slice_get, if◌then◌else◌}
use Rattle.std.proofs.lemmas.Bool.Decides.{eqb_tells}
use Rattle.std.proofs.lemmas.Option.{slice_get-get_or, get_or_from_slice_get, slice_get_within}
use Rattle.std.proofs.lemmas.Grind.{get_or-set_at}
use Rattle.std.proofs.lemmas.List.{get_or-set_other}
use Rattle.words.specs.declared.call.Kind.{Kind}
use Rattle.words.specs.declared.call.Kind.TheVariants.{Durable, Log}
use Rattle.persist.specs.Memory.{Words, words_after_store, words_after_eviction, words_after_access, words_after_crash}
use Rattle.arena.specs.Shape.{Counts}
use Rattle.arena.specs.declared.broker.SlotId.{SlotId}
use Rattle.directory.specs.Name.{IsName, first_word, second_word}
use Rattle.directory.specs.Queue.{kind_code, kind_of, first_name_at, second_name_at, kind_at, gate_at, queue_of, queue_with, queue_in, slot_in, IsSlotSound, directory_of}
use Rattle.directory.specs.Directory.{Directory, IsFree}
use Rattle.directory.specs.Step.{after_one}
use Rattle.directory.specs.Creation.{access_at, access_of, next_of, after_point, successor, creation_at, new_creation, left_at, left_after}
use Rattle.directory.specs.declared.queue.Queue.{Queue}
use Rattle.directory.specs.declared.creation.Creation.{Creation}
use Rattle.directory.specs.declared.creation.CreationPoint.{CreationPoint}
use Rattle.directory.specs.declared.creation.CreationPoint.TheVariants.{Store as StoreWord, Flush as FlushWord, Fence as FenceWord}
use Rattle.directory.specs.declared.creation.SlotWord.{SlotWord}
use Rattle.directory.specs.declared.creation.SlotWord.TheVariants.{FirstName as first_name, SecondName as second_name, Kind as kind_word, Gate as gate_word}
use Rattle.directory.specs.UnderWay.{HasDirectory, IsKept, IsStored, IsSlotAtRest, IsAtRest, IsAtRestBut, IsOpening, HasQueueWords, HasStored, IsAsFarAs, IsCreationUnderWay, ComesTo, IsAsItWasOrWith, HaveSameDirectory}
use Rattle.directory.proofs.Rows.{name_again}
use Rattle.std.proofs.lemmas.List.FromFn.{fill_by_all}
use Rattle.directory.proofs.SlotWords.{slot_in-same, written_here, written_there, evicted, evicted_both, SameSlot, same_slot, below_same, written_same, evicted_same, slot_moves, slot_crashes}

-- how far a creation has come stays where kept and stored words of the directory stay so
stored_map : (old new : Words) (slot : ℕ) (queue : Queue) → slot < 8
    → ((w v : ℕ) → w < 34 → IsKept old w v → IsKept new w v) → ((w v : ℕ) → w < 34 → IsStored old w v → IsStored new w v)
    → (IsOpening old slot → IsOpening new slot)
    → (word : SlotWord) → HasStored old slot queue word → HasStored new slot queue word
stored_map old new slot queue below kept stored opening first_name h = (kept _ _ (omega arith) h.0, stored _ _ (omega arith) h.1)
stored_map old new slot queue below kept stored opening second_name h = (kept _ _ (omega arith) h.0, kept _ _ (omega arith) h.1, stored _ _ (omega arith) h.2)
stored_map old new slot queue below kept stored opening kind_word h = (kept _ _ (omega arith) h.0, (kept _ _ (omega arith) h.1.0, kept _ _ (omega arith) h.1.1), stored _ _ (omega arith) h.2)
stored_map old new slot queue below kept stored opening gate_word h = (opening h.0, ((kept _ _ (omega arith) h.1.0.0, kept _ _ (omega arith) h.1.0.1), kept _ _ (omega arith) h.1.1))

own_map : (old new : Words) (slot : ℕ) (queue : Queue) → slot < 8
    → ((w v : ℕ) → w < 34 → IsKept old w v → IsKept new w v) → ((w v : ℕ) → w < 34 → IsStored old w v → IsStored new w v)
    → (IsOpening old slot → IsOpening new slot)
    → (at : CreationPoint) → IsAsFarAs old slot queue at → IsAsFarAs new slot queue at
own_map old new slot queue below kept stored opening (StoreWord first_name) h = kept _ _ (omega arith) h
own_map old new slot queue below kept stored opening (StoreWord second_name) h = (kept _ _ (omega arith) h.0, kept _ _ (omega arith) h.1)
own_map old new slot queue below kept stored opening (StoreWord kind_word) h = (kept _ _ (omega arith) h.0, (kept _ _ (omega arith) h.1.0, kept _ _ (omega arith) h.1.1))
own_map old new slot queue below kept stored opening (StoreWord gate_word) h = (kept _ _ (omega arith) h.0, ((kept _ _ (omega arith) h.1.0.0, kept _ _ (omega arith) h.1.0.1), kept _ _ (omega arith) h.1.1))
own_map old new slot queue below kept stored opening (FlushWord word) h = stored_map old new slot queue below kept stored opening word h
own_map old new slot queue below kept stored opening (FenceWord word) h = stored_map old new slot queue below kept stored opening word h

-- where the words of the directory stay, so does all that is said of them
module _ (old new : Words) (same : HaveSameDirectory old new) where
  same_cached : (slot : ℕ) → slot < 8 → SameSlot old.cached new.cached slot
  same_cached slot below = below_same old.cached new.cached slot below same.cached

  same_kept : (slot : ℕ) → slot < 8 → SameSlot old.kept new.kept slot
  same_kept slot below = below_same old.kept new.kept slot below same.kept

  pub rest_moves : (directory : Directory) → IsAtRest old directory → IsAtRest new directory
  rest_moves directory h = record {
    room = same.room;
    count = h.count;
    slots = λ slot below. slot_moves old new slot directory (same_cached slot below) (same_kept slot below) (h.slots slot below);
  }

  others_move : (slot : ℕ) (directory : Directory) → IsAtRestBut old slot directory → IsAtRestBut new slot directory
  others_move slot directory h = record {
    room = same.room;
    count = h.count;
    in_range = h.in_range;
    free = h.free;
    others = λ other below apart. slot_moves old new other directory (same_cached other below) (same_kept other below) (h.others other below apart);
  }

  kept_moves : (w v : ℕ) → w < 34 → IsKept old w v → IsKept new w v
  kept_moves w v below h = record { cached = same.cached w below ∙ h.cached; kept = same.kept w below ∙ h.kept }

  stored_moves : (w v : ℕ) → w < 34 → IsStored old w v → IsStored new w v
  stored_moves w v below h = record { cached = same.cached w below ∙ h.cached }

  opening_moves : (slot : ℕ) → slot < 8 → IsOpening old slot → IsOpening new slot
  opening_moves slot below h =
      let here = same.kept (gate_at slot) (omega arith) in
      record {
        cached = same.cached (gate_at slot) (omega arith) ∙ h.cached;
        kept = elim h.kept [ inl e ↦ inl (here ∙ e) | inr e ↦ inr (here ∙ e) ];
      }

  pub creation_moves : (creation : Creation) (directory : Directory) → IsCreationUnderWay old creation directory → IsCreationUnderWay new creation directory
  creation_moves creation directory h = record {
    others = others_move creation.slot.0 directory h.others;
    named = h.named;
    own = own_map old new creation.slot.0 creation.queue h.others.in_range kept_moves stored_moves (opening_moves creation.slot.0 h.others.in_range) creation.at h.own;
  }

-- an access is counted, and that changes no word
pub counted : (ws : Words) → HasDirectory ws → HaveSameDirectory ws (words_after_access ws)
counted ws room = record { room = record { cached = room.cached; kept = room.kept }; cached = λ word below. refl; kept = λ word below. refl }

-- an eviction of any word leaves all that as it is
module _ (ws : Words) (w : ℕ) where
  room_evicted : HasDirectory ws → HasDirectory (words_after_eviction w ws)
  room_evicted h = record { cached = h.cached; kept = let long = length-set ws.kept w (slice_index ws.cached w) in omega (arith, h.kept) }

  pub rest_evicted : (directory : Directory) → IsAtRest ws directory → IsAtRest (words_after_eviction w ws) directory
  rest_evicted directory h = record {
    room = room_evicted h.room;
    count = h.count;
    slots = λ slot below. slot_moves ws (words_after_eviction w ws) slot directory (same_slot ws.cached slot) (evicted_same ws w slot below h.room.kept (h.slots slot below).settled) (h.slots slot below);
  }

  others_evicted : (slot : ℕ) (directory : Directory) → IsAtRestBut ws slot directory → IsAtRestBut (words_after_eviction w ws) slot directory
  others_evicted slot directory h = record {
    room = room_evicted h.room;
    count = h.count;
    in_range = h.in_range;
    free = h.free;
    others = λ other below apart. slot_moves ws (words_after_eviction w ws) other directory (same_slot ws.cached other) (evicted_same ws w other below h.room.kept (h.others other below apart).settled) (h.others other below apart);
  }

  kept_evicted : HasDirectory ws → (i v : ℕ) → i < 34 → IsKept ws i v → IsKept (words_after_eviction w ws) i v
  kept_evicted room i v below h = record { cached = h.cached; kept = evicted_both ws.cached ws.kept w i v (omega (arith, room.kept)) h.cached h.kept }

  stored_evicted : (i v : ℕ) → i < 34 → IsStored ws i v → IsStored (words_after_eviction w ws) i v
  stored_evicted i v below h = record { cached = h.cached }

  opening_evicted : HasDirectory ws → (slot : ℕ) → slot < 8 → IsOpening ws slot → IsOpening (words_after_eviction w ws) slot
  opening_evicted room slot below h = record {
    cached = h.cached;
    kept = elim (evicted ws.cached ws.kept w (gate_at slot) (omega (arith, room.kept))) [
      | inl e ↦ elim h.kept [ inl closed ↦ inl (e ∙ closed) | inr opened ↦ inr (e ∙ opened) ]
      | inr e ↦ inr (e ∙ h.cached)
    ];
  }

  own_evicted : HasDirectory ws → (slot : ℕ) (queue : Queue) (at : CreationPoint) → slot < 8 → IsAsFarAs ws slot queue at → IsAsFarAs (words_after_eviction w ws) slot queue at
  own_evicted room slot queue at below h = own_map ws (words_after_eviction w ws) slot queue below (kept_evicted room) stored_evicted (opening_evicted room slot below) at h

  pub creation_evicted : (creation : Creation) (directory : Directory) → IsCreationUnderWay ws creation directory → IsCreationUnderWay (words_after_eviction w ws) creation directory
  creation_evicted creation directory h = record {
    others = others_evicted creation.slot.0 directory h.others;
    named = h.named;
    own = own_evicted h.others.room creation.slot.0 creation.queue creation.at h.others.in_range h.own;
  }

  -- a flush keeps a word that was stored
  flushed : HasDirectory ws → (v : ℕ) → w < 34 → IsStored ws w v → IsKept (words_after_eviction w ws) w v
  flushed room v below h = record { cached = h.cached; kept = written_here ws.kept w (slice_index ws.cached w) w (omega (arith, room.kept)) refl ∙ h.cached }

-- a store at a word of the slot leaves the other slots, and the other words, as they are
module _ (ws : Words) (slot field w v : ℕ) (small : field < 4) (at : w ≡ 2 + 4 * slot + field) where
  room_stored : HasDirectory ws → HasDirectory (words_after_store w v ws)
  room_stored h = record { cached = let long = length-set ws.cached w v in omega (arith, h.cached); kept = h.kept }

  others_stored : (directory : Directory) → IsAtRestBut ws slot directory → IsAtRestBut (words_after_store w v ws) slot directory
  others_stored directory h = record {
    room = room_stored h.room;
    count = h.count;
    in_range = h.in_range;
    free = h.free;
    others = λ other below apart. slot_moves ws (words_after_store w v ws) other directory (written_same ws.cached slot other field v small apart w at) (same_slot ws.kept other) (h.others other below apart);
  }

  kept_stored : (i x : ℕ) → i ≢ w → IsKept ws i x → IsKept (words_after_store w v ws) i x
  kept_stored i x other h = record { cached = written_there ws.cached w v i other ∙ h.cached; kept = h.kept }

  stored_here : HasDirectory ws → w < 34 → IsStored (words_after_store w v ws) w v
  stored_here room below = record { cached = written_here ws.cached w v w (omega (arith, room.cached)) refl }

-- a slot whose words are a queue's, with its gate open, has that queue
kind_again : (kind : Kind) → kind_of (kind_code kind) ≡ Some kind
kind_again Durable = refl
kind_again Log = refl

queue_again : (ws : List ℕ) (slot : ℕ) (queue : Queue) → IsName queue.name
    → slice_index ws (first_name_at slot) ≡ first_word queue.name
    → slice_index ws (second_name_at slot) ≡ second_word queue.name
    → slice_index ws (kind_at slot) ≡ kind_code queue.kind
    → queue_in ws slot ≡ Some queue
queue_again ws slot queue named first second kind =
    ap (λ (w : ℕ). queue_of w (slice_index ws (second_name_at slot)) (slice_index ws (kind_at slot))) first
    ∙ (ap (λ (w : ℕ). queue_of (first_word queue.name) w (slice_index ws (kind_at slot))) second
    ∙ (ap (λ (w : ℕ). queue_of (first_word queue.name) (second_word queue.name) w) kind
    ∙ (ap (λ (n : Option (List ℕ)). queue_with n (kind_of (kind_code queue.kind))) (name_again queue.name named)
    ∙ ap (λ (k : Option Kind). queue_with (Some queue.name) k) (kind_again queue.kind))))

pub slot_open : (ws : List ℕ) (slot : ℕ) → slice_index ws (gate_at slot) ≡ 1 → slot_in ws slot ≡ queue_in ws slot
slot_open ws slot opened = ap (λ (g : ℕ). if g == 1 then queue_in ws slot else None) opened

pub slot_closed : (ws : List ℕ) (slot : ℕ) → slice_index ws (gate_at slot) ≡ 0 → slot_in ws slot ≡ None
slot_closed ws slot closed = ap (λ (g : ℕ). if g == 1 then queue_in ws slot else None) closed

-- the directory with a queue in a slot
pub set_here : (directory : Directory) (slot : ℕ) (value : Option Queue) → slot < length directory → slice_get (slice_set directory slot value) slot ≡ Some value
set_here directory slot value below =
    slice_get-get_or (slice_set directory slot value) slot None (let long = length-set directory slot value in omega arith)
    ∙ ap Some (get_or-set_at directory slot slot value None refl below)

pub set_there : (directory : Directory) (slot other : ℕ) (value : Option Queue) → other < length directory → other ≢ slot → slice_get (slice_set directory slot value) other ≡ slice_get directory other
set_there directory slot other value below apart =
    slice_get-get_or (slice_set directory slot value) other None (let long = length-set directory slot value in omega arith)
    ∙ (ap Some (get_or-set_other directory slot other value None apart) ∙ sym (slice_get-get_or directory other None below))

-- the slot that is created is at rest, and all others are
module _ (ws : Words) (slot : ℕ) (queue : Queue) (directory : Directory) (others : IsAtRestBut ws slot directory) where
  all_at_rest : IsSlotAtRest ws slot (slice_set directory slot (Some queue)) → IsAtRest ws (slice_set directory slot (Some queue))
  all_at_rest own = record {
    room = others.room;
    count = length-set directory slot (Some queue) ∙ others.count;
    slots = λ other below. elim (eqb_tells other slot) [
      | inl e ↦ subst (λ (s : ℕ). IsSlotAtRest ws s (slice_set directory slot (Some queue))) (sym e.1) own
      | inr e ↦
          let rest = others.others other below e.1 in
          record {
            settled = rest.settled;
            sound = rest.sound;
            same = set_there directory slot other (Some queue) (omega (arith, others.count)) e.1 ∙ rest.same;
          }
    ];
  }

  none_in_it : IsSlotAtRest ws slot directory → IsAtRest ws directory
  none_in_it own = record {
    room = others.room;
    count = others.count;
    slots = λ other below. elim (eqb_tells other slot) [
      | inl e ↦ subst (λ (s : ℕ). IsSlotAtRest ws s directory) (sym e.1) own
      | inr e ↦ others.others other below e.1
    ];
  }

  -- all four words are kept
  created : IsName queue.name → IsKept ws (gate_at slot) 1 → HasQueueWords ws slot queue → IsAtRest ws (slice_set directory slot (Some queue))
  created named gate h =
      let has : queue_in ws.kept slot ≡ Some queue = queue_again ws.kept slot queue named h.0.0.kept h.0.1.kept h.1.kept in
      all_at_rest (record {
        settled = record {
          first = h.0.0.cached ∙ sym h.0.0.kept;
          second = h.0.1.cached ∙ sym h.0.1.kept;
          kind = h.1.cached ∙ sym h.1.kept;
          gate = gate.cached ∙ sym gate.kept;
        };
        sound = inr (record { gate = gate.kept; queue = subst (λ (q : Option Queue). IsSome q) (sym has) refl });
        same = set_here directory slot (Some queue) (omega (arith, others.count, others.in_range)) ∙ ap Some (sym (slot_open ws.kept slot gate.kept ∙ has));
      })

-- a step of a creation
module _ (c : Counts) (ws : Words) (slot : SlotId) (queue : Queue) (directory : Directory) (others : IsAtRestBut ws slot.0 directory) (named : IsName queue.name) where
  store_step : (field w v : ℕ) → field < 4 → w ≡ 2 + 4 * slot.0 + field → (next : CreationPoint) → IsAsFarAs (words_after_store w v ws) slot.0 queue next
      → IsCreationUnderWay (words_after_access (words_after_store w v ws)) (creation_at slot queue next) directory
  store_step field w v small at next own =
      let rest = others_stored ws slot.0 field w v small at directory others in
      creation_moves (words_after_store w v ws) (words_after_access (words_after_store w v ws)) (counted (words_after_store w v ws) rest.room) (creation_at slot queue next) directory (record { others = rest; named = named; own = own })

  fence_step : (w : ℕ) → (next : CreationPoint) → IsAsFarAs (words_after_eviction w ws) slot.0 queue next
      → IsCreationUnderWay (words_after_access (words_after_eviction w ws)) (creation_at slot queue next) directory
  fence_step w next own =
      let rest = others_evicted ws w slot.0 directory others in
      creation_moves (words_after_eviction w ws) (words_after_access (words_after_eviction w ws)) (counted (words_after_eviction w ws) rest.room) (creation_at slot queue next) directory (record { others = rest; named = named; own = own })

  -- a word stays kept where another one of the slot is stored or kept
  still : (field w v i x : ℕ) → field < 4 → w ≡ 2 + 4 * slot.0 + field → i ≢ w → IsKept ws i x → IsKept (words_after_store w v ws) i x
  still field w v i x small at other h = kept_stored ws slot.0 field w v small at i x other h

  here : (field w v : ℕ) → field < 4 → w ≡ 2 + 4 * slot.0 + field → IsStored (words_after_store w v ws) w v
  here field w v small at = stored_here ws slot.0 field w v small at others.room (omega (arith, others.in_range))

  too : (w i x : ℕ) → i < 34 → IsKept ws i x → IsKept (words_after_eviction w ws) i x
  too w i x below h = kept_evicted ws w others.room i x below h

  now : (w v : ℕ) → w < 34 → IsStored ws w v → IsKept (words_after_eviction w ws) w v
  now w v below h = flushed ws w others.room v below h

  pub goes_on : (at : CreationPoint) → IsAsFarAs ws slot.0 queue at → ComesTo (after_one c (access_at slot queue at) ws) queue directory (after_point slot queue (next_of at))
  goes_on (StoreWord first_name) h =
      let w : ℕ = first_name_at slot.0 in
      let v : ℕ = first_word queue.name in
      store_step 0 w v (omega arith) (omega arith) (FlushWord first_name)
      (still 0 w v _ _ (omega arith) (omega arith) (λ e. omega arith) h, here 0 w v (omega arith) (omega arith))
  goes_on (FlushWord word) h =
      creation_moves ws (words_after_access ws) (counted ws others.room) (creation_at slot queue (FenceWord word)) directory (record { others = others; named = named; own = h })
  goes_on (FenceWord first_name) h =
      let below : slot.0 < 8 = others.in_range in
      let w : ℕ = first_name_at slot.0 in
      fence_step w (StoreWord second_name) (too w _ _ (omega arith) h.0, now w _ (omega arith) h.1)
  goes_on (StoreWord second_name) h =
      let w : ℕ = second_name_at slot.0 in
      let v : ℕ = second_word queue.name in
      store_step 1 w v (omega arith) (omega arith) (FlushWord second_name)
      (still 1 w v _ _ (omega arith) (omega arith) (λ e. omega arith) h.0, still 1 w v _ _ (omega arith) (omega arith) (λ e. omega arith) h.1, here 1 w v (omega arith) (omega arith))
  goes_on (FenceWord second_name) h =
      let below : slot.0 < 8 = others.in_range in
      let w : ℕ = second_name_at slot.0 in
      fence_step w (StoreWord kind_word) (too w _ _ (omega arith) h.0, (too w _ _ (omega arith) h.1, now w _ (omega arith) h.2))
  goes_on (StoreWord kind_word) h =
      let w : ℕ = kind_at slot.0 in
      let v : ℕ = kind_code queue.kind in
      store_step 2 w v (omega arith) (omega arith) (FlushWord kind_word)
      (still 2 w v _ _ (omega arith) (omega arith) (λ e. omega arith) h.0, (still 2 w v _ _ (omega arith) (omega arith) (λ e. omega arith) h.1.0, still 2 w v _ _ (omega arith) (omega arith) (λ e. omega arith) h.1.1), here 2 w v (omega arith) (omega arith))
  goes_on (FenceWord kind_word) h =
      let below : slot.0 < 8 = others.in_range in
      let w : ℕ = kind_at slot.0 in
      fence_step w (StoreWord gate_word) (too w _ _ (omega arith) h.0, ((too w _ _ (omega arith) h.1.0, too w _ _ (omega arith) h.1.1), now w _ (omega arith) h.2))
  goes_on (StoreWord gate_word) h =
      let w : ℕ = gate_at slot.0 in
      let opening : IsOpening (words_after_store w 1 ws) slot.0 = record { cached = (here 3 w 1 (omega arith) (omega arith)).cached; kept = inl h.0.kept } in
      store_step 3 w 1 (omega arith) (omega arith) (FlushWord gate_word)
      (opening, ((still 3 w 1 _ _ (omega arith) (omega arith) (λ e. omega arith) h.1.0.0, still 3 w 1 _ _ (omega arith) (omega arith) (λ e. omega arith) h.1.0.1), still 3 w 1 _ _ (omega arith) (omega arith) (λ e. omega arith) h.1.1))
  goes_on (FenceWord gate_word) h =
      let below : slot.0 < 8 = others.in_range in
      let w : ℕ = gate_at slot.0 in
      let rest = others_evicted ws w slot.0 directory others in
      let gate = now w 1 (omega arith) (record { cached = h.0.cached }) in
      let queue_words : HasQueueWords (words_after_eviction w ws) slot.0 queue = ((too w _ _ (omega arith) h.1.0.0, too w _ _ (omega arith) h.1.0.1), too w _ _ (omega arith) h.1.1) in
      rest_moves (words_after_eviction w ws) (words_after_access (words_after_eviction w ws)) (counted (words_after_eviction w ws) rest.room) (slice_set directory slot.0 (Some queue))
      (created (words_after_eviction w ws) slot.0 queue directory rest named gate queue_words)

pub creation_goes_on : (c : Counts) (ws : Words) (creation : Creation) (directory : Directory) → IsCreationUnderWay ws creation directory
    → ComesTo (after_one c (access_of creation) ws) creation.queue directory (successor creation)
creation_goes_on c ws creation directory h = goes_on c ws creation.slot creation.queue directory h.others h.named creation.at h.own

-- a creation begins in a free slot of a directory at rest
pub creation_begins : (ws : Words) (slot : SlotId) (queue : Queue) (directory : Directory) → IsAtRest ws directory → IsFree directory slot.0 → IsName queue.name
    → IsCreationUnderWay ws (new_creation slot queue) directory
creation_begins ws slot queue directory h free named =
    let below : slot.0 < 8 = let long = slice_get_within directory slot.0 None free in omega (arith, h.count) in
    let own = h.slots slot.0 below in
    record {
      others = record {
        room = h.room;
        count = h.count;
        in_range = below;
        free = free;
        others = λ other small apart. h.slots other small;
      };
      named = named;
      own = closed own own.sound;
    }
  where
    closed : IsSlotAtRest ws slot.0 directory → IsSlotSound ws.kept slot.0 → IsKept ws (gate_at slot.0) 0
    closed own (inl shut) = record { cached = own.settled.gate ∙ shut; kept = shut }
    closed own (inr opened) =
        let none : Some None ≡ Some (queue_in ws.kept slot.0) = sym free ∙ (own.same ∙ ap Some (slot_open ws.kept slot.0 opened.gate)) in
        let nothing : None ≡ queue_in ws.kept slot.0 = cc in
        absurd (let some : IsSome {T = Queue} None = subst (λ (q : Option Queue). IsSome q) (sym nothing) opened.queue in cc)

-- a crash leaves the words of the directory that are kept
room_crashed : (ws : Words) → HasDirectory ws → HasDirectory (words_after_crash ws)
room_crashed ws h = record { cached = h.kept; kept = h.kept }

pub rest_crashed : (ws : Words) (directory : Directory) → IsAtRest ws directory → IsAtRest (words_after_crash ws) directory
rest_crashed ws directory h = record {
  room = room_crashed ws h.room;
  count = h.count;
  slots = λ slot below. let own = h.slots slot below in slot_crashes ws slot directory own.sound own.same;
}

module _ (ws : Words) (slot : ℕ) (queue : Queue) (directory : Directory) (others : IsAtRestBut ws slot directory) (named : IsName queue.name) where
  others_crashed : IsAtRestBut (words_after_crash ws) slot directory
  others_crashed = record {
    room = room_crashed ws others.room;
    count = others.count;
    in_range = others.in_range;
    free = others.free;
    others = λ other below apart. let own = others.others other below apart in slot_crashes ws other directory own.sound own.same;
  }

  -- the gate is kept closed
  lost : slice_index ws.kept (gate_at slot) ≡ 0 → IsAtRest (words_after_crash ws) directory
  lost closed = none_in_it (words_after_crash ws) slot queue directory others_crashed
      (slot_crashes ws slot directory (inl closed) (others.free ∙ ap Some (sym (slot_closed ws.kept slot closed))))

  -- it is kept open, and before it the words of the queue
  kept_whole : slice_index ws.kept (gate_at slot) ≡ 1 → HasQueueWords ws slot queue → IsAtRest (words_after_crash ws) (slice_set directory slot (Some queue))
  kept_whole opened h = created (words_after_crash ws) slot queue directory others_crashed named
      (record { cached = opened; kept = opened })
      ((record { cached = h.0.0.kept; kept = h.0.0.kept }, record { cached = h.0.1.kept; kept = h.0.1.kept }), record { cached = h.1.kept; kept = h.1.kept })

  stored_crashed : (word : SlotWord) → HasStored ws slot queue word → IsAtRest (words_after_crash ws) directory ⊎ IsAtRest (words_after_crash ws) (slice_set directory slot (Some queue))
  stored_crashed first_name h = inl (lost h.0.kept)
  stored_crashed second_name h = inl (lost h.0.kept)
  stored_crashed kind_word h = inl (lost h.0.kept)
  stored_crashed gate_word h = elim h.0.kept [ inl closed ↦ inl (lost closed) | inr opened ↦ inr (kept_whole opened h.1) ]

  pub crashed : (at : CreationPoint) → IsAsFarAs ws slot queue at → IsAtRest (words_after_crash ws) directory ⊎ IsAtRest (words_after_crash ws) (slice_set directory slot (Some queue))
  crashed (StoreWord first_name) h = inl (lost h.kept)
  crashed (StoreWord second_name) h = inl (lost h.0.kept)
  crashed (StoreWord kind_word) h = inl (lost h.0.kept)
  crashed (StoreWord gate_word) h = inl (lost h.0.kept)
  crashed (FlushWord word) h = stored_crashed word h
  crashed (FenceWord word) h = stored_crashed word h

pub creation_crashed : (ws : Words) (creation : Creation) (directory : Directory) → IsCreationUnderWay ws creation directory → IsAsItWasOrWith (words_after_crash ws) creation directory
creation_crashed ws creation directory h = crashed ws creation.slot.0 creation.queue directory h.others h.named creation.at h.own

-- a list that has what each slot has is the directory that the words have
pub directory_is : (ws : List ℕ) (directory : Directory) → length directory ≡ 8 → ((slot : ℕ) → slot < 8 → slice_get directory slot ≡ Some (slot_in ws slot)) → directory_of ws ≡ directory
unfolding directory_of
directory_is ws directory count same =
    sym (fill_by_all (slot_in ws) directory 8 None count (λ slot below. get_or_from_slice_get directory slot (slot_in ws slot) None (same slot below)))

pub kept_directory : (ws : Words) (directory : Directory) → IsAtRest ws directory → directory_of ws.kept ≡ directory
kept_directory ws directory h = directory_is ws.kept directory h.count (λ slot below. (h.slots slot below).same)

pub cached_directory : (ws : Words) (directory : Directory) → IsAtRest ws directory → directory_of ws.cached ≡ directory
cached_directory ws directory h = directory_is ws.cached directory h.count (λ slot below.
    let own = h.slots slot below in
    let same : SameSlot ws.kept ws.cached slot = record { first = own.settled.first; second = own.settled.second; kind = own.settled.kind; gate = own.settled.gate } in
    own.same ∙ ap Some (sym (slot_in-same ws.kept ws.cached slot same)))

-- a creation has one step less after each
less_at : (slot : SlotId) (queue : Queue) (at : CreationPoint) → left_after (after_point slot queue (next_of at)) + 1 ≡ left_at at
less_at slot queue (StoreWord first_name) = refl
less_at slot queue (FlushWord first_name) = refl
less_at slot queue (FenceWord first_name) = refl
less_at slot queue (StoreWord second_name) = refl
less_at slot queue (FlushWord second_name) = refl
less_at slot queue (FenceWord second_name) = refl
less_at slot queue (StoreWord kind_word) = refl
less_at slot queue (FlushWord kind_word) = refl
less_at slot queue (FenceWord kind_word) = refl
less_at slot queue (StoreWord gate_word) = refl
less_at slot queue (FlushWord gate_word) = refl
less_at slot queue (FenceWord gate_word) = refl

pub creation_less : (creation : Creation) → left_after (successor creation) + 1 ≡ left_at creation.at
creation_less creation = less_at creation.slot creation.queue creation.at

-- Sound words and directories at rest; what a step leaves as it is.
use Rattle.std.proofs.Common.{◌≤◌, ◌≡◌, ℕ, ◌<◌, List, Some, None, refl, sym, ◌∙◌, ap, subst, arith, inl, inr, slice_index, slice_set}
use Rattle.std.specs.Prelude.{replicate, drop, take}
use Rattle.std.proofs.lemmas.List.{get_or-replicate, get_or-take, drop-set-lt}
use Rattle.std.proofs.lemmas.Option.{slice_get-get_or}
use Rattle.persist.specs.Memory.{Words, words_after_access, words_after_store, words_after_eviction, words_after_crash, IsSameOutside}
use Rattle.arena.specs.Shape.{Counts}
use Rattle.arena.specs.declared.broker.SlotId.{SlotId}
use Rattle.directory.specs.Name.{first_word, second_word}
use Rattle.directory.specs.Queue.{kind_code, first_name_at, second_name_at, kind_at, gate_at, IsSlotSound, directory_of}
use Rattle.directory.specs.Directory.{Directory, IsDirectory}
use Rattle.directory.specs.Step.{after_one}
use Rattle.directory.specs.Creation.{access_at, access_of}
use Rattle.directory.specs.Recovery.{access_of as recovery_access}
use Rattle.directory.specs.declared.recovery.DirectoryRecovery.{DirectoryRecovery}
use Rattle.directory.specs.Sound.{SlotIsSound, DirectoryIsSound, AreBrokerWords, AreFreeBlocksZero}
use Rattle.directory.specs.UnderWay.{HasDirectory, HasHead, HaveSameDirectory, IsKept, IsAtRest, IsBlank, HaveSameBlocks}
use Rattle.directory.specs.declared.queue.Queue.{Queue}
use Rattle.directory.specs.declared.creation.Creation.{Creation}
use Rattle.directory.specs.declared.creation.CreationPoint.{CreationPoint}
use Rattle.directory.specs.declared.creation.CreationPoint.TheVariants.{Store as StoreWord, Flush as FlushWord, Fence as FenceWord}
use Rattle.directory.specs.declared.creation.SlotWord.TheVariants.{FirstName as first_name, SecondName as second_name, Kind as kind_word, Gate as gate_word}
use Rattle.directory.proofs.SlotWords.{slot_crashes, written_there, evicted_both}
use Rattle.directory.proofs.Creations.{slot_closed, kept_directory}
use Rattle.directory.proofs.Kept.{directory_at}

-- a sound slot is closed or open
slot_of : (c : Counts) (ws : List ℕ) (slot : ℕ) → SlotIsSound c ws slot → IsSlotSound ws slot
slot_of c ws slot (inl shut) = inl shut.gate
slot_of c ws slot (inr opened) = inr opened

-- after a crash the directory of sound words is at rest
pub sound_rest : (ws : Words) → AreBrokerWords ws.kept → IsAtRest (words_after_crash ws) (directory_of ws.kept)
sound_rest ws h =
    let size = h.head.size in
    record {
      room = record { cached = omega arith; kept = omega arith };
      count = h.directory.names.count;
      slots = λ slot below. slot_crashes ws slot (directory_of ws.kept) (slot_of _ ws.kept slot (h.directory.slots slot below)) (directory_at ws.kept slot below);
    }

-- and the words of a directory at rest are sound
pub rest_sound : (c : Counts) (ws : Words) (directory : Directory) → IsAtRest ws directory → IsDirectory directory → AreFreeBlocksZero c ws.kept directory → DirectoryIsSound c ws.kept
rest_sound c ws directory h once zero = record {
  slots = λ slot below. go slot below (h.slots slot below).sound;
  names = subst IsDirectory (sym (kept_directory ws directory h)) once;
}
  where
    go : (slot : ℕ) → slot < 8 → IsSlotSound ws.kept slot → SlotIsSound c ws.kept slot
    go slot below (inl closed) = inl (record {
      gate = closed;
      block = zero slot below ((h.slots slot below).same ∙ ap Some (slot_closed ws.kept slot closed));
    })
    go slot below (inr opened) = inr opened

-- words that are all 0 have a directory with no queue
pub blank_rest : (ws : Words) → HasDirectory ws → IsBlank ws → IsAtRest ws (replicate 8 None)
blank_rest ws room blank = record {
  room = room;
  count = refl;
  slots = λ slot below.
      let first : IsKept ws (first_name_at slot) 0 = blank (first_name_at slot) (omega arith) (omega arith) in
      let second : IsKept ws (second_name_at slot) 0 = blank (second_name_at slot) (omega arith) (omega arith) in
      let kind : IsKept ws (kind_at slot) 0 = blank (kind_at slot) (omega arith) (omega arith) in
      let gate : IsKept ws (gate_at slot) 0 = blank (gate_at slot) (omega arith) (omega arith) in
      record {
        settled = record {
          first = first.cached ∙ sym first.kept;
          second = second.cached ∙ sym second.kept;
          kind = kind.cached ∙ sym kind.kept;
          gate = gate.cached ∙ sym gate.kept;
        };
        sound = inl gate.kept;
        same = slice_get-get_or (replicate 8 None) slot None below ∙ (ap Some (get_or-replicate 8 slot None None below) ∙ ap Some (sym (slot_closed ws.kept slot gate.kept)));
      };
}

-- a write of a word of the directory leaves the blocks
module _ (c : Counts) (ws : Words) (slot : SlotId) (queue : Queue) (below : slot.0 < 8) where
  stored : (w v : ℕ) → w < 34 → drop 34 (slice_set ws.cached w v) ≡ drop 34 ws.cached
  stored w v small = drop-set-lt 34 ws.cached w v small

  flushed : (w : ℕ) → w < 34 → drop 34 (slice_set ws.kept w (slice_index ws.cached w)) ≡ drop 34 ws.kept
  flushed w small = drop-set-lt 34 ws.kept w (slice_index ws.cached w) small

  pub blocks_at : (at : CreationPoint) → HaveSameBlocks ws (after_one c (access_at slot queue at) ws)
  blocks_at (StoreWord first_name) = record { cached = stored (first_name_at slot.0) (first_word queue.name) (omega arith); kept = refl }
  blocks_at (FlushWord word) = record { cached = refl; kept = refl }
  blocks_at (FenceWord first_name) = record { cached = refl; kept = flushed (first_name_at slot.0) (omega arith) }
  blocks_at (StoreWord second_name) = record { cached = stored (second_name_at slot.0) (second_word queue.name) (omega arith); kept = refl }
  blocks_at (FenceWord second_name) = record { cached = refl; kept = flushed (second_name_at slot.0) (omega arith) }
  blocks_at (StoreWord kind_word) = record { cached = stored (kind_at slot.0) (kind_code queue.kind) (omega arith); kept = refl }
  blocks_at (FenceWord kind_word) = record { cached = refl; kept = flushed (kind_at slot.0) (omega arith) }
  blocks_at (StoreWord gate_word) = record { cached = stored (gate_at slot.0) 1 (omega arith); kept = refl }
  blocks_at (FenceWord gate_word) = record { cached = refl; kept = flushed (gate_at slot.0) (omega arith) }

pub creation_blocks : (c : Counts) (ws : Words) (creation : Creation) → creation.slot.0 < 8 → HaveSameBlocks ws (after_one c (access_of creation) ws)
creation_blocks c ws creation below = blocks_at c ws creation.slot creation.queue below creation.at

-- the head stays where the words of the directory stay, in evictions and in a crash
pub head_moves : (old new : Words) (c : Counts) → HaveSameDirectory old new → HasHead old c → HasHead new c
head_moves old new c same h = record {
  clients = record { cached = same.cached 0 (omega arith) ∙ h.clients.cached; kept = same.kept 0 (omega arith) ∙ h.clients.kept };
  records = record { cached = same.cached 1 (omega arith) ∙ h.records.cached; kept = same.kept 1 (omega arith) ∙ h.records.kept };
}

pub head_evicted : (ws : Words) (word : ℕ) (c : Counts) → HasDirectory ws → HasHead ws c → HasHead (words_after_eviction word ws) c
head_evicted ws word c room h = record {
  clients = record { cached = h.clients.cached; kept = evicted_both ws.cached ws.kept word 0 c.clients (omega (arith, room.kept)) h.clients.cached h.clients.kept };
  records = record { cached = h.records.cached; kept = evicted_both ws.cached ws.kept word 1 c.records (omega (arith, room.kept)) h.records.cached h.records.kept };
}

pub head_crashed : (ws : Words) (c : Counts) → HasHead ws c → HasHead (words_after_crash ws) c
head_crashed ws c h = record {
  clients = record { cached = h.clients.kept; kept = h.clients.kept };
  records = record { cached = h.records.kept; kept = h.records.kept };
}

-- and in a step of a creation
module _ (c : Counts) (ws : Words) (slot : SlotId) (queue : Queue) (room : HasDirectory ws) (h : HasHead ws c) where
  head_stored : (w v : ℕ) → 2 ≤ w → HasHead (words_after_access (words_after_store w v ws)) c
  head_stored w v past = record {
    clients = record { cached = written_there ws.cached w v 0 (λ e. omega arith) ∙ h.clients.cached; kept = h.clients.kept };
    records = record { cached = written_there ws.cached w v 1 (λ e. omega arith) ∙ h.records.cached; kept = h.records.kept };
  }

  head_fenced : (w : ℕ) → HasHead (words_after_access (words_after_eviction w ws)) c
  head_fenced w =
      let kept = head_evicted ws w c room h in
      record {
        clients = record { cached = kept.clients.cached; kept = kept.clients.kept };
        records = record { cached = kept.records.cached; kept = kept.records.kept };
      }

  head_at : (k : Counts) (at : CreationPoint) → HasHead (after_one k (access_at slot queue at) ws) c
  head_at k (StoreWord first_name) = head_stored (first_name_at slot.0) (first_word queue.name) (omega arith)
  head_at k (FlushWord word) = record { clients = record { cached = h.clients.cached; kept = h.clients.kept }; records = record { cached = h.records.cached; kept = h.records.kept } }
  head_at k (FenceWord first_name) = head_fenced (first_name_at slot.0)
  head_at k (StoreWord second_name) = head_stored (second_name_at slot.0) (second_word queue.name) (omega arith)
  head_at k (FenceWord second_name) = head_fenced (second_name_at slot.0)
  head_at k (StoreWord kind_word) = head_stored (kind_at slot.0) (kind_code queue.kind) (omega arith)
  head_at k (FenceWord kind_word) = head_fenced (kind_at slot.0)
  head_at k (StoreWord gate_word) = head_stored (gate_at slot.0) 1 (omega arith)
  head_at k (FenceWord gate_word) = head_fenced (gate_at slot.0)

pub creation_head : (k c : Counts) (ws : Words) (creation : Creation) → HasDirectory ws → HasHead ws c → HasHead (after_one k (access_of creation) ws) c
creation_head k c ws creation room h = head_at c ws creation.slot creation.queue room h k creation.at

-- what lies past the directory changes nothing before it
pub outside_same : (old new : Words) (from len : ℕ) → 34 ≤ from → HasDirectory new → IsSameOutside from len old new → HaveSameDirectory old new
outside_same old new from len past room same = record {
  room = room;
  cached = λ word below. before old.cached new.cached word below same.cached_before;
  kept = λ word below. before old.kept new.kept word below same.kept_before;
}
  where
    before : (xs ys : List ℕ) (word : ℕ) → word < 34 → take from ys ≡ take from xs → slice_index ys word ≡ slice_index xs word
    before xs ys word below e =
        sym (get_or-take from ys word 0 (omega arith)) ∙ (ap (λ (zs : List ℕ). slice_index zs word) e ∙ get_or-take from xs word 0 (omega arith))

pub recovery_head : (k c : Counts) (ws : Words) (recovery : DirectoryRecovery) → HasHead ws c → HasHead (after_one k (recovery_access recovery) ws) c
recovery_head k c ws recovery h = record {
  clients = record { cached = h.clients.cached; kept = h.clients.kept };
  records = record { cached = h.records.cached; kept = h.records.kept };
}

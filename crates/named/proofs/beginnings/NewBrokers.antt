-- What holds of a new broker.
use Rattle.std.proofs.Common.{◌≡◌, ℕ, zero, suc, ◌-◌, ◌<◌, ◌≤◌, List, length, take, drop, replicate, slice_get, slice_set, slice_index, Some, None, true, sym, ap, ◌∙◌, subst, arith, get_or-set_other}
use Rattle.std.proofs.lemmas.List.{drop-replicate, take-replicate, get_or-replicate, get_or-set_same, length-replicate, drop-set-lt}
use Rattle.std.proofs.lemmas.Option.{slice_get_within}
use Rattle.persist.specs.Memory.{Words}
use Rattle.arena.specs.Broker.{block_from, block_size_of, broker_size}
use Rattle.arena.specs.Limits.{AreCounts}
use Rattle.arena.specs.Shape.{Counts}
use Rattle.arena.proofs.Facts.{block_ends}
use Rattle.directory.specs.Directory.{Directory, IsDirectory}
use Rattle.directory.specs.UnderWay.{HasDirectory, IsAtRest, IsBlank}
use Rattle.directory.proofs.Facts.{blank_rest}
use Rattle.named.specs.Brokers.{HasRoom, IsSlotAt, IsUnusedBlock, IsWell, new_words}
use Rattle.named.specs.declared.slot.Slot.{Slot}
use Rattle.named.specs.declared.slot.Slot.TheVariants.{Closed}
use Rattle.named.specs.Slots.{IsReadyIn}
use Rattle.named.proofs.acts.OneSlot.{length_set}

pub get_replicate : {X : Type 0} (n : ℕ) (x : X) (i : ℕ) (y : X) → slice_get (replicate n x) i ≡ Some y → y ≡ x
get_replicate zero x i y e = absurd (cc)
get_replicate (suc n) x zero y e = cc
get_replicate (suc n) x (suc i) y e = get_replicate n x i y e

module _ (c : Counts) where
  abbrev zeros : List ℕ
  zeros = replicate (broker_size c) 0

  new_length : length (new_words c) ≡ broker_size c
  new_length = length_set (slice_set zeros 0 c.clients) 1 c.records ∙ length_set zeros 0 c.clients ∙ length-replicate {A = ℕ} (broker_size c) 0

  new_clients : slice_index (new_words c) 0 ≡ c.clients
  new_clients = get_or-set_other (slice_set zeros 0 c.clients) 1 0 c.records 0 (λ e. absurd (omega (arith, e)))
      ∙ get_or-set_same zeros 0 c.clients 0 (omega (arith, length-replicate {A = ℕ} (broker_size c) 0))

  new_records : slice_index (new_words c) 1 ≡ c.records
  new_records = get_or-set_same (slice_set zeros 0 c.clients) 1 c.records 0
      (omega (arith, length_set zeros 0 c.clients, length-replicate {A = ℕ} (broker_size c) 0))

  new_zero : (word : ℕ) → 2 ≤ word → word < broker_size c → slice_index (new_words c) word ≡ 0
  new_zero word past below = get_or-set_other (slice_set zeros 0 c.clients) 1 word c.records 0 (λ e. absurd (omega (arith, e, past)))
      ∙ get_or-set_other zeros 0 word c.clients 0 (λ e. absurd (omega (arith, e, past)))
      ∙ get_or-replicate (broker_size c) word 0 0 below

  new_block : (slot : ℕ) → slot < 8 → take (block_size_of c.clients c.records) (drop (block_from c slot) (new_words c)) ≡ replicate (block_size_of c.clients c.records) 0
  new_block slot below =
      let ends = block_ends (block_size_of c.clients c.records) slot 8 below in
      ap (take (block_size_of c.clients c.records))
      (drop-set-lt (block_from c slot) (slice_set zeros 0 c.clients) 1 c.records (omega arith)
      ∙ drop-set-lt (block_from c slot) zeros 0 c.clients (omega arith)
      ∙ drop-replicate (block_from c slot) (broker_size c) 0)
      ∙ take-replicate (block_size_of c.clients c.records) (broker_size c - block_from c slot) 0 (omega (arith, ends))

pub new_well : (c : Counts) (ws : Words) (slots : List Slot) (directory : Directory) → AreCounts c.clients c.records
    → ws.cached ≡ new_words c → ws.kept ≡ new_words c → slots ≡ replicate 8 Closed → directory ≡ replicate 8 None → IsDirectory directory
    → IsWell (record { counts = c; words = ws; slots = slots; directory = directory; creation = None; recovery = None })
new_well c ws slots directory counts cached kept closed free listed = record {
  counts = counts;
  room = room;
  head = record {
    clients = record { cached = at_cached 0 ∙ new_clients c; kept = at_kept 0 ∙ new_clients c };
    records = record { cached = at_cached 1 ∙ new_records c; kept = at_kept 1 ∙ new_records c };
  };
  count = ap length closed;
  slots = unused;
  listed = listed;
  kinds = λ at slot queue here there. cc (
    get_replicate 8 Closed at slot (subst (λ (l : List Slot). slice_get l at ≡ Some slot) closed here),
    get_replicate 8 None at queue (subst (λ (l : Directory). slice_get l at ≡ Some queue) free there),
  );
  directory = subst (IsAtRest ws) (sym free) (blank_rest ws has blank);
  readiness = λ at slot here.
      subst (IsReadyIn true) (sym (get_replicate 8 Closed at slot (subst (λ (l : List Slot). slice_get l at ≡ Some slot) closed here))) tt;
}
  where
    room : HasRoom c ws
    room = record { cached = ap length cached ∙ new_length c; kept = ap length kept ∙ new_length c }

    has : HasDirectory ws
    has = record { cached = omega (arith, room.cached); kept = omega (arith, room.kept) }

    at_cached : (word : ℕ) → slice_index ws.cached word ≡ slice_index (new_words c) word
    at_cached word = ap (λ (l : List ℕ). slice_index l word) cached

    at_kept : (word : ℕ) → slice_index ws.kept word ≡ slice_index (new_words c) word
    at_kept word = ap (λ (l : List ℕ). slice_index l word) kept

    blank : IsBlank ws
    blank word past below = record {
      cached = at_cached word ∙ new_zero c word past (omega (arith, below));
      kept = at_kept word ∙ new_zero c word past (omega (arith, below));
    }

    unused : (at : ℕ) (slot : Slot) → slice_get slots at ≡ Some slot → IsSlotAt c ws at slot
    unused at slot here =
        let there : slice_get (replicate 8 Closed) at ≡ Some slot = subst (λ (l : List Slot). slice_get l at ≡ Some slot) closed here in
        let below : at < 8 = slice_get_within (replicate 8 Closed) at slot there in
        let is_closed : slot ≡ Closed = get_replicate 8 Closed at slot there in
        let block : IsUnusedBlock c ws at = record {
          cached = ap (λ (l : List ℕ). take (block_size_of c.clients c.records) (drop (block_from c at) l)) cached ∙ new_block c at below;
          kept = ap (λ (l : List ℕ). take (block_size_of c.clients c.records) (drop (block_from c at) l)) kept ∙ new_block c at below;
        } in
        subst (IsSlotAt c ws at) (sym is_closed) block

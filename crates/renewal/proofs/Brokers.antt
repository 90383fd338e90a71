-- What the words of a broker become: the new counts, its directory as it was, and each slot's block in fresh records.
use Rattle.std.proofs.Common.{◌≡◌, ℕ, ◌+◌, ◌-◌, ◌*◌, ◌<◌, ◌≤◌, inl, inr, List, [], ◌∷◌, ◌++◌, length, map, take, drop, get_or, slice_index, Option, Some, None, refl, sym, ◌∙◌, ap, subst, arith}
use Rattle.std.specs.Prelude.{IsSome, replicate}
use Rattle.std.specs.List.{flat_map, range_with_len}
use Rattle.std.proofs.Math.Seq.{drop-append-add}
use Rattle.std.proofs.lemmas.List.{get_or_append_left, get_or-append_right, get_or-drop, get_or-replicate, get_or-take, length-append, length-replicate}
use Rattle.std.proofs.lemmas.List.FromFn.{get_or-map-range_with_len, get_or-range_with_len, length-map-range_with_len, length-range_with_len}
use Rattle.std.proofs.lemmas.Option.{slice_get_within}
use Rattle.arena.specs.Broker.{block_from_in, block_in, block_size_of, broker_size_in}
use Rattle.arena.specs.Form.{running}
use Rattle.arena.specs.Limits.{AreCounts}
use Rattle.arena.specs.Shape.{Counts, shape_of}
use Rattle.persist.specs.Memory.{Words}
use Rattle.sound_words.specs.Sound.{AreSoundWords}
use Rattle.directory.specs.Directory.{Directory, IsDirectory}
use Rattle.directory.specs.Queue.{directory_of, slot_in}
use Rattle.directory.specs.Sound.{AreBrokerWords, DirectoryIsSound, IsBlockZero, SlotIsSound, counts_in}
use Rattle.directory.specs.declared.queue.Queue.{Queue}
use Rattle.directory.proofs.Facts.{directory_at, slot_closed}
use Rattle.migration.proofs.Facts.{piece, pieces_length}
use Rattle.renewal.specs.Broker.{BlockFits, IsBrokerRenewalOf, MayBeRenewedTo, SlotFits, broker_renewed, front_renewed}
use Rattle.renewal.specs.Broker.{slot_block_renewed, slot_renewed}
use Rattle.renewal.specs.Words.{IsRenewalOf}
use Rattle.renewal.proofs.Fronts.{directory_same, gate_same, queue_same}
use Rattle.renewal.proofs.Slots.{same_queue}
use Rattle.renewal.proofs.Words.{block_length, block_same}

pub slot_length : (to c : Counts) (o : Option Queue) (old : List ℕ)
    → length (slot_renewed to c o old) ≡ block_size_of to.clients to.records
slot_length to c None old = length-replicate (block_size_of to.clients to.records) 0
slot_length to c (Some queue) old = block_length _

module _ (to : Counts) (ws : List ℕ) where
  abbrev c : Counts
  c = counts_in ws

  abbrev size : ℕ
  size = block_size_of to.clients to.records

  abbrev new : List ℕ
  new = broker_renewed to ws

  abbrev front : List ℕ
  front = front_renewed to ws

  abbrev blocks : List ℕ
  blocks = flat_map (slot_block_renewed to c ws) (range_with_len 0 8)

  -- the words before the blocks
  front_length : length front ≡ 34
  front_length =
      let whole : length front ≡ 2 + length (map (slice_index ws) (range_with_len 2 32)) = length-append (to.clients ∷ to.records ∷ []) (map (slice_index ws) (range_with_len 2 32)) in
      omega (arith, whole, length-map-range_with_len (slice_index ws) 2 32)

  front_word : (w : ℕ) → 2 ≤ w → w < 34 → slice_index new w ≡ slice_index ws w
  unfolding broker_renewed
  front_word w past below =
      let at : 2 + (w - 2) ≡ w = omega (arith, past) in
      get_or_append_left front blocks 0 w (omega (arith, below, front_length))
      ∙ get_or-append_right (to.clients ∷ to.records ∷ []) (map (slice_index ws) (range_with_len 2 32)) 2 w 0 refl past
      ∙ get_or-map-range_with_len (slice_index ws) 2 32 (w - 2) w 0 (omega (arith, below, past)) at

  pub counts_are : counts_in new ≡ to
  unfolding broker_renewed
  counts_are = refl

  each : (slot : ℕ) → length (slot_block_renewed to c ws slot) ≡ size
  each slot = slot_length to c (slot_in ws slot) (block_in running c slot ws)

  -- as many as a broker of these counts has
  size_is : length new ≡ broker_size_in running to
  unfolding broker_renewed
  size_is =
      let whole : length (front ++ blocks) ≡ length front + length blocks = length-append front blocks in
      let count : length (range_with_len 0 8) ≡ 8 = length-range_with_len 0 8 in
      let rest : length blocks ≡ 8 * size = pieces_length (slot_block_renewed to c ws) size each (range_with_len 0 8) ∙ ap (λ (n : ℕ). n * size) count in
      omega (arith, whole, front_length, rest)

  -- the block of each slot
  pub block_is : (slot : ℕ) → slot < 8 → block_in running to slot new ≡ slot_block_renewed to c ws slot
  unfolding broker_renewed
  block_is slot below =
      let from : block_from_in running to slot ≡ length front + slot * size = omega (arith, front_length) in
      let count : slot < length (range_with_len 0 8) = omega (arith, below, length-range_with_len 0 8) in
      let number : get_or (range_with_len 0 8) slot 0 ≡ slot = get_or-range_with_len 0 8 slot 0 below ∙ omega arith in
      ap (λ (n : ℕ). take size (drop n (front ++ blocks))) from
      ∙ ap (λ (ys : List ℕ). take size ys) (drop-append-add front blocks (slot * size))
      ∙ piece (slot_block_renewed to c ws) size each (range_with_len 0 8) slot count
      ∙ ap (slot_block_renewed to c ws) number

  -- a closed slot's block is all 0 again
  block_zero : (slot : ℕ) → slot < 8 → slot_in ws slot ≡ None → IsBlockZero to new slot
  block_zero slot below none word inside =
      let read : slice_index (block_in running to slot new) word ≡ slice_index new (block_from_in running to slot + word) =
      get_or-take size (drop (block_from_in running to slot) new) word 0 inside
      ∙ get_or-drop (block_from_in running to slot) new word 0 in
      let blank : block_in running to slot new ≡ replicate size 0 =
      block_is slot below ∙ ap (λ (o : Option Queue). slot_renewed to c o (block_in running c slot ws)) none in
      sym read ∙ ap (λ (ys : List ℕ). slice_index ys word) blank ∙ get_or-replicate size word 0 0 inside

  slot_sound : (slot : ℕ) → slot < 8 → SlotIsSound c ws slot → SlotIsSound to new slot
  slot_sound slot below (inl shut) = inl (record {
    gate = gate_same ws new front_word slot below ∙ shut.gate;
    block = block_zero slot below (slot_closed ws slot shut.gate);
  })
  slot_sound slot below (inr opened) = inr (record {
    gate = gate_same ws new front_word slot below ∙ opened.gate;
    queue = subst (λ (q : Option Queue). IsSome q) (sym (queue_same ws new front_word slot below)) opened.queue;
  })

  directory_sound : DirectoryIsSound c ws → DirectoryIsSound to new
  directory_sound d = record {
    slots = λ slot below. slot_sound slot below (d.slots slot below);
    names = subst IsDirectory (sym (directory_same ws new front_word)) d.names;
  }

  pub broker_sound : AreCounts to.clients to.records → AreBrokerWords ws → AreBrokerWords new
  broker_sound counts b = record {
    head = record {
      counts = subst (λ (k : Counts). AreCounts k.clients k.records) (sym counts_are) counts;
      size = size_is ∙ ap (broker_size_in running) (sym counts_are);
    };
    directory = subst (λ (k : Counts). DirectoryIsSound k new) (sym counts_are) (directory_sound b.directory);
  }

  -- the block of each slot with a queue has that queue
  queue_kept : AreCounts to.clients to.records → AreBrokerWords ws → c.clients ≤ to.clients → (slot : ℕ) (queue : Queue) → slot < 8
      → slot_in ws slot ≡ Some queue → AreSoundWords (shape_of queue.kind c) (block_in running c slot ws) → BlockFits to ws slot
      → IsRenewalOf (shape_of queue.kind c) (block_in running c slot ws) (shape_of queue.kind to) (block_in running to slot new)
  queue_kept counts b more slot queue below has sound fits =
      let old : List ℕ = block_in running c slot ws in
      let is : block_in running to slot new ≡ slot_renewed to c (Some queue) old =
      block_is slot below ∙ ap (λ (o : Option Queue). slot_renewed to c o old) has in
      subst (IsRenewalOf (shape_of queue.kind c) old (shape_of queue.kind to)) (sym is)
      (block_same (shape_of queue.kind c) old (shape_of queue.kind to) (record {
        sound = sound;
        counts = b.head.counts;
        new_counts = counts;
        kind = refl;
        clients = more;
        room = subst (λ (o : Option Queue). SlotFits to c o old) has fits;
      }))

-- so it is of all of them
pub broker_same : (ws : Words) (counts to : Counts) (directory : Directory) → MayBeRenewedTo ws counts directory to → AreCounts to.clients to.records
    → ((slot : ℕ) → slot < 8 → BlockFits to ws.kept slot) → IsBrokerRenewalOf ws.kept to (broker_renewed to ws.kept)
broker_same ws counts to directory h some fits = record {
  sound = broker_sound to ws.kept some h.broker;
  counts = counts_are to ws.kept;
  directory = directory_same ws.kept (broker_renewed to ws.kept) (front_word to ws.kept);
  queues = λ slot queue has.
      let within : slot < length (directory_of ws.kept) = slice_get_within (directory_of ws.kept) slot (Some queue) has in
      let below : slot < 8 = omega (arith, within, h.broker.directory.names.count) in
      queue_kept to ws.kept some h.broker h.clients slot queue below
      (sym (same_queue (Some queue) (slot_in ws.kept slot) (sym has ∙ directory_at ws.kept slot below))) (h.blocks slot queue has) (fits slot below);
}

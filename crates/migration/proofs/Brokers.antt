-- What the words of a broker become: its head and directory as they were, and each slot's block what that becomes.
use Rattle.std.proofs.Common.{◌≡◌, ℕ, ◌+◌, ◌*◌, ◌<◌, inl, inr, List, ◌++◌, length, take, drop, get_or, slice_index, Option, Some, None, refl, sym, ◌∙◌, ap, subst, arith}
use Rattle.std.specs.Prelude.{◌==◌, if◌then◌else◌, IsSome, replicate}
use Rattle.std.specs.List.{flat_map, range_with_len}
use Rattle.std.proofs.Math.Seq.{drop-append-add}
use Rattle.std.proofs.lemmas.List.{get_or_append_left, get_or-drop, get_or-replicate, get_or-take, length-append, length-replicate, length-take-le}
use Rattle.std.proofs.lemmas.List.FromFn.{get_or-range_with_len, length-map-range_with_len, length-range_with_len}
use Rattle.arena.specs.Broker.{block_from_in, block_in, block_size_of, broker_size_in}
use Rattle.arena.specs.Shape.{Counts, shape_of}
use Rattle.arena.specs.declared.form.Form.TheVariants.{OfItems, OfValues}
use Rattle.directory.specs.Directory.{IsDirectory}
use Rattle.directory.specs.Queue.{directory_of, first_name_at, gate_at, kind_at, queue_in, second_name_at, slot_in}
use Rattle.directory.specs.Sound.{AreBrokerWords, DirectoryIsSoundIn, HeadIsSoundIn, IsBlockZeroIn, SlotIsSoundIn}
use Rattle.directory.specs.Sound.{counts_in}
use Rattle.directory.specs.declared.queue.Queue.{Queue}
use Rattle.directory.proofs.Facts.{directory_at, directory_is, queue_of-same, slot_closed}
use Rattle.migration.specs.Words.{HasSoundQueue, HaveQueueOf, block_migrated, broker_migrated, slot_block_migrated}
use Rattle.migration.specs.Words.{slot_migrated}
use Rattle.migration.proofs.Pieces.{piece, pieces_length}
use Rattle.migration.proofs.Words.{block_length, block_same}

slot_length : (c : Counts) (o : Option Queue) (old : List ℕ)
    → length (slot_migrated c o old) ≡ block_size_of c.clients c.records
slot_length c None old = length-replicate (block_size_of c.clients c.records) 0
slot_length c (Some queue) old = block_length queue.kind c old

module _ (ws : List ℕ) (h : HeadIsSoundIn OfValues ws) where
  abbrev c : Counts
  c = counts_in ws

  abbrev size : ℕ
  size = block_size_of c.clients c.records

  abbrev new : List ℕ
  new = broker_migrated ws

  abbrev blocks : List ℕ
  blocks = flat_map (slot_block_migrated c ws) (range_with_len 0 8)

  -- the words before the blocks are as they were
  front_length : length (take 34 ws) ≡ 34
  front_length = let size : length ws ≡ broker_size_in OfValues c = h.size in length-take-le 34 ws (omega (arith, size))

  front_word : (w : ℕ) → w < 34 → slice_index new w ≡ slice_index ws w
  unfolding broker_migrated
  front_word w below =
      get_or_append_left (take 34 ws) blocks 0 w (omega (arith, below, front_length)) ∙ get_or-take 34 ws w 0 below

  pub counts_same : counts_in new ≡ c
  counts_same = rw (front_word 0 (omega arith), front_word 1 (omega arith)) refl

  each : (slot : ℕ) → length (slot_block_migrated c ws slot) ≡ size
  each slot = slot_length c (slot_in ws slot) (block_in OfValues c slot ws)

  -- and there are as many words as a broker of items has
  size_is : length new ≡ broker_size_in OfItems c
  unfolding broker_migrated
  size_is =
      let whole : length (take 34 ws ++ blocks) ≡ length (take 34 ws) + length blocks = length-append (take 34 ws) blocks in
      let count : length (range_with_len 0 8) ≡ 8 = length-range_with_len 0 8 in
      let rest : length blocks ≡ 8 * size = pieces_length (slot_block_migrated c ws) size each (range_with_len 0 8) ∙ ap (λ (n : ℕ). n * size) count in
      omega (arith, whole, front_length, rest)

  -- the block of each slot
  pub block_is : (slot : ℕ) → slot < 8 → block_in OfItems c slot new ≡ slot_block_migrated c ws slot
  unfolding broker_migrated
  block_is slot below =
      let from : block_from_in OfItems c slot ≡ length (take 34 ws) + slot * size = omega (arith, front_length) in
      let count : slot < length (range_with_len 0 8) = omega (arith, below, length-range_with_len 0 8) in
      let number : get_or (range_with_len 0 8) slot 0 ≡ slot = get_or-range_with_len 0 8 slot 0 below ∙ omega arith in
      ap (λ (n : ℕ). take size (drop n (take 34 ws ++ blocks))) from
      ∙ ap (λ (ys : List ℕ). take size ys) (drop-append-add (take 34 ws) blocks (slot * size))
      ∙ piece (slot_block_migrated c ws) size each (range_with_len 0 8) slot count
      ∙ ap (slot_block_migrated c ws) number

  -- the directory
  gate_same : (slot : ℕ) → slot < 8 → slice_index new (gate_at slot) ≡ slice_index ws (gate_at slot)
  gate_same slot below = front_word (gate_at slot) (omega (arith, below))

  queue_same : (slot : ℕ) → slot < 8 → queue_in new slot ≡ queue_in ws slot
  queue_same slot below =
      queue_of-same _ _ _ _ _ _ (front_word (first_name_at slot) (omega (arith, below)))
      (front_word (second_name_at slot) (omega (arith, below))) (front_word (kind_at slot) (omega (arith, below)))

  pub slot_same : (slot : ℕ) → slot < 8 → slot_in new slot ≡ slot_in ws slot
  slot_same slot below =
      ap (λ (g : ℕ). if g == 1 then queue_in new slot else None) (gate_same slot below)
      ∙ ap (λ (q : Option Queue). if slice_index ws (gate_at slot) == 1 then q else None) (queue_same slot below)

  pub directory_same : directory_of new ≡ directory_of ws
  unfolding directory_of
  directory_same =
      directory_is new (directory_of ws) (length-map-range_with_len (slot_in ws) 0 8)
      (λ slot below. directory_at ws slot below ∙ ap Some (sym (slot_same slot below)))

  -- a closed slot's block is all 0 again
  block_zero : (slot : ℕ) → slot < 8 → slot_in ws slot ≡ None → IsBlockZeroIn OfItems c new slot
  block_zero slot below none word inside =
      let read : slice_index (block_in OfItems c slot new) word ≡ slice_index new (block_from_in OfItems c slot + word) =
      get_or-take size (drop (block_from_in OfItems c slot) new) word 0 inside
      ∙ get_or-drop (block_from_in OfItems c slot) new word 0 in
      let blank : block_in OfItems c slot new ≡ replicate size 0 =
      block_is slot below ∙ ap (λ (o : Option Queue). slot_migrated c o (block_in OfValues c slot ws)) none in
      sym read ∙ ap (λ (ys : List ℕ). slice_index ys word) blank ∙ get_or-replicate size word 0 0 inside

  slot_sound : (slot : ℕ) → slot < 8 → SlotIsSoundIn OfValues c ws slot → SlotIsSoundIn OfItems c new slot
  slot_sound slot below (inl shut) = inl (record {
    gate = gate_same slot below ∙ shut.gate;
    block = block_zero slot below (slot_closed ws slot shut.gate);
  })
  slot_sound slot below (inr opened) = inr (record {
    gate = gate_same slot below ∙ opened.gate;
    queue = subst (λ (q : Option Queue). IsSome q) (sym (queue_same slot below)) opened.queue;
  })

  directory_sound : DirectoryIsSoundIn OfValues c ws → DirectoryIsSoundIn OfItems c new
  directory_sound d = record {
    slots = λ slot below. slot_sound slot below (d.slots slot below);
    names = subst IsDirectory (sym directory_same) d.names;
  }

  head_sound : HeadIsSoundIn OfItems new
  head_sound = record {
    counts = rw (front_word 0 (omega arith), front_word 1 (omega arith)) h.counts;
    size = size_is ∙ ap (broker_size_in OfItems) (sym counts_same);
  }

  pub broker_sound : DirectoryIsSoundIn OfValues c ws → AreBrokerWords new
  broker_sound d = record {
    head = head_sound;
    directory = subst (λ (k : Counts). DirectoryIsSoundIn OfItems k new) (sym counts_same) (directory_sound d);
  }

  -- the block of each slot with a queue has that queue still
  pub queue_kept : (slot : ℕ) (queue : Queue) → HasSoundQueue ws slot queue
      → HaveQueueOf (shape_of queue.kind c) (block_in OfValues c slot ws) (block_in OfItems c slot new)
  queue_kept slot queue q =
      let old : List ℕ = block_in OfValues c slot ws in
      let is : block_in OfItems c slot new ≡ block_migrated queue.kind c old =
      block_is slot q.in_range ∙ ap (λ (o : Option Queue). slot_migrated c o old) q.has in
      subst (HaveQueueOf (shape_of queue.kind c) old) (sym is) (block_same queue.kind c old q.sound.sound)

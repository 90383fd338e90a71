-- Words of a broker with another block in a slot are a broker's, with the same queues.
use Rattle.std.proofs.Common.{◌≡◌, ◌≢◌, ℕ, ◌+◌, ◌-◌, ◌*◌, ◌<◌, ◌≤◌, ◌⊎◌, inl, inr, List, ◌++◌, length, take, drop, slice_index, slice_index_or, slice_get, is_some, true, Option, Some, None, refl, sym, ◌∙◌, ap, ap₂, subst, arith, length-drop}
use Rattle.std.specs.Prelude.{IsSome}
use Rattle.std.proofs.Math.Seq.{drop-append-add}
use Rattle.std.proofs.lemmas.Bool.{cases_lt}
use Rattle.std.proofs.lemmas.List.{ext_get_or, get_or_append_left, get_or-append_right, get_or-drop, get_or-take, length-append, length-take-le, take_at}
use Rattle.std.proofs.lemmas.List.FromFn.{get_or-map-range_with_len, length-map-range_with_len}
use Rattle.std.proofs.lemmas.Option.{slice_get_within}
use Rattle.words.specs.declared.refusal.Refusal.{Refusal}
use Rattle.words.specs.declared.refusal.Refusal.TheVariants.{NoMemory, NoRoom}
use Rattle.arena.specs.Broker.{block_from, block_in, block_size_of, broker_size_in}
use Rattle.arena.specs.Form.{running}
use Rattle.arena.specs.Limits.{AreCounts}
use Rattle.arena.specs.Shape.{Counts, shape_of}
use Rattle.arena.proofs.Facts.{block_ends}
use Rattle.persist.specs.Memory.{Words, overwritten}
use Rattle.directory.specs.Directory.{Directory, HasQueue, IsDirectory}
use Rattle.directory.specs.Queue.{directory_of, slot_in}
use Rattle.directory.specs.Sound.{AreBrokerWords, DirectoryIsSound, IsBlockZero, SlotIsSound, counts_in}
use Rattle.directory.specs.declared.queue.Queue.{Queue}
use Rattle.directory.proofs.Facts.{directory_at, slot_closed}
use Rattle.renewal.specs.Broker.{BlockFits, MayBeRenewedTo, SlotFits, slot_block_renewed, slot_renewed}
use Rattle.renewal.specs.OneQueue.{IsQueueRenewalOf, IsWhyNotRenewed, block_replaced, queue_renewed, stretch}
use Rattle.renewal.specs.Words.{IsRenewalOf}
use Rattle.renewal.proofs.Brokers.{slot_length}
use Rattle.renewal.proofs.Fronts.{directory_same, gate_same, queue_same}
use Rattle.renewal.proofs.Slots.{entry, fits_are, same_queue, words_are}
use Rattle.renewal.proofs.Words.{block_same}

module _ (ws : List ℕ) (slot : ℕ) (block : List ℕ) (b : AreBrokerWords ws) (below : slot < 8)
    (long : length block ≡ block_size_of (counts_in ws).clients (counts_in ws).records) where
  abbrev c : Counts
  c = counts_in ws

  abbrev size : ℕ
  size = block_size_of c.clients c.records

  abbrev from : ℕ
  from = block_from c slot

  abbrev end : ℕ
  end = from + size

  abbrev front : List ℕ
  front = stretch ws 0 from

  abbrev rest : List ℕ
  rest = stretch ws end (length ws - end)

  abbrev new : List ℕ
  new = block_replaced c slot block ws

  whole : length ws ≡ 34 + 8 * size
  whole = b.head.size

  pub within : end ≤ length ws
  within = omega (arith, whole, block_ends size slot 8 below)

  front_length : length front ≡ from
  front_length = length-map-range_with_len (slice_index ws) 0 from

  size_is : length new ≡ length ws
  size_is =
      let all : length new ≡ length front + length (block ++ rest) = length-append front (block ++ rest) in
      let behind : length (block ++ rest) ≡ length block + length rest = length-append block rest in
      omega (arith, all, behind, front_length, long, length-map-range_with_len (slice_index ws) end (length ws - end), within)

  -- they are what the block makes that is written over the words
  front_is : take from ws ≡ front
  front_is =
      let taken : length (take from ws) ≡ from = length-take-le from ws (omega (arith, within)) in
      ext_get_or 0 (take from ws) front (taken ∙ sym front_length)
      (λ i h.
      let below_from : i < from = omega (arith, h, taken) in
      get_or-take from ws i 0 below_from
      ∙ sym (get_or-map-range_with_len (slice_index ws) 0 from i i 0 below_from (omega arith)))

  rest_is : drop (from + length block) ws ≡ rest
  rest_is =
      let far : from + length block ≡ end = omega (arith, long) in
      let left : length (drop (from + length block) ws) ≡ length ws - end = length-drop (from + length block) ws ∙ ap (λ (n : ℕ). length ws - n) far in
      ext_get_or 0 (drop (from + length block) ws) rest
      (left ∙ sym (length-map-range_with_len (slice_index ws) end (length ws - end)))
      (λ i h.
      let inside : i < length ws - end = omega (arith, h, left) in
      get_or-drop (from + length block) ws i 0
      ∙ ap (λ (n : ℕ). slice_index ws (n + i)) far
      ∙ sym (get_or-map-range_with_len (slice_index ws) end (length ws - end) i (end + i) 0 inside refl))

  pub over_is : overwritten from block ws ≡ new
  over_is = ap₂ (λ (xs ys : List ℕ). xs ++ (block ++ ys)) front_is rest_is

  -- words outside the block are as they were
  before : (w : ℕ) → w < from → slice_index new w ≡ slice_index ws w
  before w h =
      get_or_append_left front (block ++ rest) 0 w (omega (arith, h, front_length))
      ∙ get_or-map-range_with_len (slice_index ws) 0 from w w 0 h (omega arith)

  after : (w : ℕ) → end ≤ w → w < length ws → slice_index new w ≡ slice_index ws w
  after w past h =
      let at : end + (w - from - size) ≡ w = omega (arith, past) in
      get_or-append_right front (block ++ rest) from w 0 front_length (omega (arith, past))
      ∙ get_or-append_right block rest size (w - from) 0 long (omega (arith, past))
      ∙ get_or-map-range_with_len (slice_index ws) end (length ws - end) (w - from - size) w 0 (omega (arith, past, h)) at

  -- the block
  pub block_there : block_in running c slot new ≡ block
  block_there =
      let at : from ≡ length front + 0 = omega (arith, front_length) in
      ap (λ (n : ℕ). take size (drop n new)) at
      ∙ ap (λ (ys : List ℕ). take size ys) (drop-append-add front (block ++ rest) 0)
      ∙ take_at block rest size long

  -- and the other blocks
  word_elsewhere : (other word : ℕ) → other < 8 → other ≢ slot → word < size
      → slice_index new (block_from c other + word) ≡ slice_index ws (block_from c other + word)
  word_elsewhere other word inside apart h = elim (cases_lt other slot) [
    | inl less ↦ before (block_from c other + word) (omega (arith, h, block_ends size other slot less))
    | inr more ↦
        let above : slot < other = omega (arith, more, apart) in
        after (block_from c other + word) (omega (arith, block_ends size slot other above))
        (omega (arith, h, whole, block_ends size other 8 inside))
  ]

  pub others_stay : (other : ℕ) → other < 8 → other ≢ slot → block_in running c other new ≡ block_in running c other ws
  others_stay other inside apart =
      let at : ℕ = block_from c other in
      let cut : (xs : List ℕ) → length xs ≡ length ws → length (take size (drop at xs)) ≡ size = λ xs same.
      let taken : size ≤ length (drop at xs) = omega (arith, length-drop at xs, same, whole, block_ends size other 8 inside) in
      length-take-le size (drop at xs) taken in
      ext_get_or 0 (take size (drop at new)) (take size (drop at ws)) (cut new size_is ∙ sym (cut ws refl))
      (λ i h.
      let inner : i < size = omega (arith, h, cut new size_is) in
      get_or-take size (drop at new) i 0 inner ∙ get_or-drop at new i 0 ∙ word_elsewhere other i inside apart inner
      ∙ sym (get_or-take size (drop at ws) i 0 inner ∙ get_or-drop at ws i 0))

  -- head and directory
  word_same : (w : ℕ) → 2 ≤ w → w < 34 → slice_index new w ≡ slice_index ws w
  word_same w past h = before w (omega (arith, h))

  pub counts_stay : counts_in new ≡ c
  counts_stay =
      ap₂ (λ (t k : ℕ). let x : Counts = record { clients = t; records = k } in x) (before 0 (omega arith)) (before 1 (omega arith))

  pub directory_stays : directory_of new ≡ directory_of ws
  directory_stays = directory_same ws new word_same

  module _ (queue : Queue) (has : slot_in ws slot ≡ Some queue) where
    zero_stays : (other : ℕ) → other < 8 → slot_in ws other ≡ None → IsBlockZero c ws other → IsBlockZero c new other
    zero_stays other inside none zeros word h =
        let apart : other ≢ slot = λ same.
        let both : slot_in ws slot ≡ None = ap (slot_in ws) (sym same) ∙ none in absurd (cc (both, has)) in
        word_elsewhere other word inside apart h ∙ zeros word h

    slot_stays : (other : ℕ) → other < 8 → SlotIsSound c ws other → SlotIsSound c new other
    slot_stays other inside (inl shut) = inl (record {
      gate = gate_same ws new word_same other inside ∙ shut.gate;
      block = zero_stays other inside (slot_closed ws other shut.gate) shut.block;
    })
    slot_stays other inside (inr opened) = inr (record {
      gate = gate_same ws new word_same other inside ∙ opened.gate;
      queue = subst (λ (q : Option Queue). IsSome q) (sym (queue_same ws new word_same other inside)) opened.queue;
    })

    directory_sound : DirectoryIsSound c new
    directory_sound = record {
      slots = λ other inside. slot_stays other inside (b.directory.slots other inside);
      names = subst IsDirectory (sym directory_stays) b.directory.names;
    }

    pub replaced_sound : AreBrokerWords new
    replaced_sound = record {
      head = record {
        counts = subst (λ (k : Counts). AreCounts k.clients k.records) (sym counts_stay) b.head.counts;
        size = size_is ∙ b.head.size ∙ ap (broker_size_in running) (sym counts_stay);
      };
      directory = subst (λ (k : Counts). DirectoryIsSound k new) (sym counts_stay) directory_sound;
    }

-- so are those with a queue in fresh records
pub queue_same_in : (ws : Words) (counts : Counts) (directory : Directory) → MayBeRenewedTo ws counts directory counts → (slot : ℕ) (queue : Queue)
    → HasQueue (directory_of ws.kept) slot queue → BlockFits (counts_in ws.kept) ws.kept slot
    → IsQueueRenewalOf ws.kept slot (queue_renewed slot ws.kept)
unfolding queue_renewed
queue_same_in ws counts directory h slot queue has fits =
    let c : Counts = counts_in ws.kept in
    let below : slot < 8 =
    omega (arith, slice_get_within (directory_of ws.kept) slot (Some queue) has, h.broker.directory.names.count) in
    let there : slot_in ws.kept slot ≡ Some queue =
    sym (same_queue (Some queue) (slot_in ws.kept slot) (sym has ∙ directory_at ws.kept slot below)) in
    let old : List ℕ = block_in running c slot ws.kept in
    let block : List ℕ = slot_block_renewed c c ws.kept slot in
    let long = slot_length c c (slot_in ws.kept slot) old in
    let is : block_in running c slot (queue_renewed slot ws.kept) ≡ slot_renewed c c (Some queue) old =
    block_there ws.kept slot block h.broker below long ∙ ap (λ (o : Option Queue). slot_renewed c c o old) there in
    record {
      sound = replaced_sound ws.kept slot block h.broker below long queue there;
      counts = counts_stay ws.kept slot block h.broker below long;
      directory = directory_stays ws.kept slot block h.broker below long;
      queue = queue;
      has = has;
      renewed = subst (IsRenewalOf (shape_of queue.kind c) old (shape_of queue.kind c)) (sym is)
          (block_same (shape_of queue.kind c) old (shape_of queue.kind c) (record {
            sound = h.blocks slot queue has;
            counts = h.broker.head.counts;
            new_counts = h.broker.head.counts;
            kind = refl;
            clients = omega arith;
            room = subst (λ (o : Option Queue). SlotFits c c o old) there fits;
          }));
      others = others_stay ws.kept slot block h.broker below long;
    }

-- the words that are written are these
pub replaced_is : (ws : List ℕ) (slot : ℕ) (k : Counts) (block : List ℕ) → k ≡ counts_in ws
    → block ≡ slot_block_renewed (counts_in ws) (counts_in ws) ws slot → block_replaced k slot block ws ≡ queue_renewed slot ws
unfolding queue_renewed
replaced_is ws slot k block counts is =
    ap (λ (c : Counts). block_replaced c slot block ws) counts ∙ ap (λ (xs : List ℕ). block_replaced (counts_in ws) slot xs ws) is

-- the queue of a slot that is not free
pub listed_one : (places directory : Directory) (slot : ℕ) (none : Option Queue) → places ≡ directory → IsDirectory directory → slot < 8
    → is_some (slice_index_or places slot none) ≡ true → (queue : Queue) × HasQueue directory slot queue
listed_one places directory slot none same is below some =
    go (slice_index_or places slot none) (entry places directory slot none same is below) some
  where
    go : (o : Option Queue) → slice_get directory slot ≡ Some o → is_some o ≡ true → (queue : Queue) × HasQueue directory slot queue
    go None at some = absurd (cc (some))
    go (Some queue) at some = (queue, at)

-- why they are not written
pub why_not : (ws : List ℕ) (slot : ℕ) (e : Refusal) → (e ≡ NoRoom) ⊎ (e ≡ NoMemory)
    → (e ≡ NoRoom → BlockFits (counts_in ws) ws slot → ⊥) → IsWhyNotRenewed ws slot e
why_not ws slot e (inl room) over = subst (IsWhyNotRenewed ws slot) (sym room) (over room)
why_not ws slot e (inr full) over = subst (IsWhyNotRenewed ws slot) (sym full) tt

-- by the counts and the directory that were read
module _ (ws : Words) (counts : Counts) (directory : Directory) (h : MayBeRenewedTo ws counts directory counts) (slot : ℕ) (queue : Option Queue)
    (at : slice_get directory slot ≡ Some queue) (below : slot < 8) where
  pub block_written : slot_renewed counts counts queue (block_in running counts slot ws.kept)
      ≡ slot_block_renewed (counts_in ws.kept) (counts_in ws.kept) ws.kept slot
  block_written =
      words_are ws counts counts directory h slot queue at below
      ∙ ap (λ (k : Counts). slot_block_renewed k (counts_in ws.kept) ws.kept slot) h.counts_are

  pub fits_there : SlotFits counts counts queue (block_in running counts slot ws.kept) ≡ BlockFits (counts_in ws.kept) ws.kept slot
  fits_there =
      fits_are ws counts counts directory h slot queue at below
      ∙ ap (λ (k : Counts). BlockFits k ws.kept slot) h.counts_are

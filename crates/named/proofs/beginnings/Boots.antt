-- What a broker that begins on kept words is, and why it is refused.
use Rattle.std.proofs.Common.{◌≡◌, ℕ, ◌<◌, ◌≤◌, inl, inr, List, [], ◌∷◌, ◌++◌, length, drop, replicate, slice_get, slice_index, slice_index_or, true, false, Option, Some, None, Result, Ok, Err, refl, sym, ap, subst, ◌∙◌, arith}
use Rattle.std.specs.Prelude.{IfOk, IsSome, is_some}
use Rattle.std.specs.Option.{option_map}
use Rattle.std.proofs.lemmas.List.{ext_get_or, get_or-replicate, length-drop, length-replicate, length-take}
use Rattle.std.proofs.lemmas.Option.{slice_get-get_or, slice_get_within}
use Rattle.words.specs.declared.call.Kind.{Kind}
use Rattle.words.specs.declared.call.Kind.TheVariants.{Durable as durable_kind, Log as log_kind}
use Rattle.words.specs.declared.refusal.Refusal.{Refusal}
use Rattle.words.specs.declared.refusal.Rule.{Rule}
use Rattle.words.specs.declared.refusal.Rule.TheVariants.{Size, Records, Chain, Claims, Ends, Rows, Entries, Image}
use Rattle.words.specs.declared.refusal.Rule.TheVariants.{Directory as directory_rule}
use Rattle.persist.specs.Memory.{Words, words_after_crash}
use Rattle.persist.proofs.Facts.{index_within}
use Rattle.arena.specs.Broker.{block_from, block_size_of, broker_size}
use Rattle.arena.specs.Limits.{AreCounts}
use Rattle.arena.specs.Shape.{Counts, Shape, shape_of}
use Rattle.arena.proofs.Facts.{block_ends}
use Rattle.arena.specs.declared.place.Place.{Place}
use Rattle.events.proofs.Facts.{get_push_cases}
use Rattle.sound_words.specs.Kept.{kept_in}
use Rattle.sound_words.specs.Sound.{AnswersAreSound, AreSoundWords, EntriesAreSound, IfKind, Obeys, RowsAreSound}
use Rattle.directory.specs.Directory.{Directory, IsDirectory}
use Rattle.directory.specs.Queue.{directory_of, queue_in, slot_in}
use Rattle.directory.specs.Sound.{IsBlockZero, SlotIsSound, counts_in}
use Rattle.directory.specs.UnderWay.{IsAtRest}
use Rattle.directory.specs.declared.queue.Queue.{Queue}
use Rattle.directory.proofs.Facts.{directory_at, recovery_begins, slot_open, sound_rest}
use Rattle.interleave.specs.Booted.{booted_world}
use Rattle.interleave.specs.State.{State}
use Rattle.named.specs.Blocks.{state_in}
use Rattle.named.specs.Booting.{AreKept, AreRead, AreSlotsBooted, IsBooted, IsSlotBooted, kept_block, world_booted}
use Rattle.named.specs.Brokers.{Brokered, IsSlotAt, IsUnusedBlock, IsWell, block_words, world_of}
use Rattle.named.specs.Slots.{IsReadyIn, kind_in, world_in}
use Rattle.named.specs.Stopping.{booting}
use Rattle.named.specs.declared.slot.Slot.{Slot}
use Rattle.named.specs.declared.slot.Slot.TheVariants.{Closed, Open}

-- sound words obey each rule
rows_obeyed : (kind : Kind) (s : Shape) (kept : Place → ℕ) → AnswersAreSound kind s kept → IfKind durable_kind kind (RowsAreSound s kept)
rows_obeyed durable_kind s kept h = h
rows_obeyed log_kind s kept h = tt

entries_obeyed : (kind : Kind) (s : Shape) (kept : Place → ℕ) → AnswersAreSound kind s kept → IfKind log_kind kind (EntriesAreSound s kept)
entries_obeyed durable_kind s kept h = tt
entries_obeyed log_kind s kept h = h

pub obeyed : (s : Shape) (ws : List ℕ) → AreSoundWords s ws → (rule : Rule) → Obeys s ws rule
obeyed s ws h Size = h.count
obeyed s ws h Records = h.sound.records
obeyed s ws h Chain = h.sound.chain
obeyed s ws h Claims = h.sound.claims
obeyed s ws h Ends = h.sound.ends
obeyed s ws h Rows = rows_obeyed s.kind s (kept_in s ws) h.sound.answers
obeyed s ws h Entries = entries_obeyed s.kind s (kept_in s ws) h.sound.answers
obeyed s ws h Image = tt
obeyed s ws h directory_rule = tt

-- what holds of each slot of a list, and of one put behind them, holds of each that is then there
pub slots_more : (holds : ℕ → Slot → Type 0) (slots : List Slot) (own : Slot)
    → ((at : ℕ) (slot : Slot) → slice_get slots at ≡ Some slot → holds at slot) → holds (length slots) own
    → (at : ℕ) (slot : Slot) → slice_get (slots ++ own ∷ []) at ≡ Some slot → holds at slot
slots_more holds slots own before here at slot there = elim (get_push_cases slots own at slot there) [
  | inl old ↦ before at slot old
  | inr last ↦ subst (λ (x : Slot). holds at x) last.1 (subst (λ (k : ℕ). holds k own) (sym last.0) here)
]

-- where each word of a block is 0, so is the block
zero_block : (c : Counts) (ws : List ℕ) (slot : ℕ) → slot < 8 → broker_size c ≤ length ws → IsBlockZero c ws slot
    → kept_block c slot ws ≡ replicate (block_size_of c.clients c.records) 0
zero_block c ws slot below room blank =
    let size : ℕ = block_size_of c.clients c.records in
    let ends = block_ends size slot 8 below in
    let long : length (kept_block c slot ws) ≡ size = omega (arith, length-take size (drop (block_from c slot) ws), length-drop (block_from c slot) ws, ends, room) in
    ext_get_or 0 (kept_block c slot ws) (replicate size 0) (long ∙ sym (length-replicate size 0))
    (λ word h.
    let within : word < size = omega (arith, h, long) in
    index_within ws (block_from c slot) size word within ∙ blank word within ∙ sym (get_or-replicate size word 0 0 within))

-- a crash that comes first changes nothing
pub booted_alike : (c : Counts) (at : ℕ) (ws : Words) (place : Option Queue) → world_booted c at (words_after_crash ws) place ≡ world_booted c at ws place
booted_alike c at ws None = refl
booted_alike c at ws (Some queue) = refl

-- so it is of the broker that begins on them
crashed_is : (ws crashed : Words) (b : Brokered) → crashed ≡ words_after_crash ws → IsBooted crashed b → IsBooted ws b
crashed_is ws crashed b is booted =
    let here : IsBooted (words_after_crash ws) b = subst (λ (v : Words). IsBooted v b) is booted in
    record {
      counts = here.counts;
      words = here.words;
      directory = here.directory;
      worlds = λ at below. here.worlds at below ∙ booted_alike b.counts at ws (slot_in ws.kept at);
      creation = here.creation;
      recovery = here.recovery;
    }

pub booted_crashed : (ws crashed : Words) (r : Result Brokered Refusal) → crashed ≡ words_after_crash ws
    → IfOk r (IsBooted crashed) → IfOk r (IsBooted ws)
booted_crashed ws crashed (Err e) is booted = tt
booted_crashed ws crashed (Ok b) is booted = crashed_is ws crashed b is booted

-- what was read of words that a crash left is what is kept
pub read_kept : (ws : Words) (counts : Counts) (directory : Directory) → AreRead ws counts directory → AreKept ws counts directory
read_kept ws counts directory read = record {
  room = ap length read.crashed;
  broker = read.broker;
  counts_are = read.counts_are;
  directory_is = read.directory_is;
}

-- recovery is to come in the world that it is
down_of : (w : State) (s : Shape) (part : Words) → Some w ≡ Some (booted_world s part) → is_some w.recovery ≡ true
down_of w s part is =
    let same : w ≡ booted_world s part = cc in
    ap (λ (x : State). is_some x.recovery) same

module _ (ws : Words) (counts : Counts) (directory : Directory) (slots : List Slot) (read : AreRead ws counts directory)
    (booted : AreSlotsBooted counts ws directory slots) where
  -- nothing but what is kept is there
  still : words_after_crash ws ≡ ws
  still = ap (λ (xs : List ℕ). let v : Words = record ws { cached = xs } in v) (sym read.crashed)

  kept_size : length ws.kept ≡ broker_size counts
  kept_size = read.broker.head.size ∙ ap broker_size (sym read.counts_are)

  place_at : (at : ℕ) → at < 8 → slice_get directory at ≡ Some (slot_in ws.kept at)
  place_at at below = ap (λ (d : Directory). slice_get d at) read.directory_is ∙ directory_at ws.kept at below

  -- a slot that is free has nothing in its block
  unused_at : (at : ℕ) → at < 8 → slot_in ws.kept at ≡ None → IsUnusedBlock counts ws at
  unused_at at below free = go (read.broker.directory.slots at below)
    where
      go : SlotIsSound (counts_in ws.kept) ws.kept at → IsUnusedBlock counts ws at
      go (inl shut) =
          let blank : IsBlockZero counts ws.kept at = subst (λ (n : Counts). IsBlockZero n ws.kept at) (sym read.counts_are) shut.block in
          let kept = zero_block counts ws.kept at below (omega (arith, kept_size)) blank in
          record { cached = ap (kept_block counts at) read.crashed ∙ kept; kept = kept }
      go (inr opened) =
          let none : queue_in ws.kept at ≡ None = sym (slot_open ws.kept at opened.gate) ∙ free in
          absurd (let some : IsSome {T = Queue} None = subst (λ (q : Option Queue). IsSome q) none opened.queue in cc)

  slot_at : (at : ℕ) (slot : Slot) (place : Option Queue) → at < 8 → slot_in ws.kept at ≡ place → IsSlotBooted counts ws at place slot → IsSlotAt counts ws at slot
  slot_at at slot None below free is = subst (IsSlotAt counts ws at) (sym is) (unused_at at below free)
  slot_at at slot (Some queue) below has is = subst (λ (v : Words). IsSlotAt counts v at slot) still is.here

  kind_at : (at : ℕ) (slot : Slot) (place : Option Queue) → IsSlotBooted counts ws at place slot → kind_in slot ≡ option_map (λ (q : Queue). q.kind) place
  kind_at at slot None is = ap kind_in is
  kind_at at slot (Some queue) is = is.kind_is

  -- no queue is ready
  down_in : (slot : Slot) (s : Shape) (part v : Words) → world_in v slot ≡ Some (booted_world s part) → IsReadyIn false slot
  down_in Closed s part v is = tt
  down_in (Open block) s part v is = down_of (state_in v block) s part is

  down_at : (at : ℕ) (slot : Slot) (place : Option Queue) → IsSlotBooted counts ws at place slot → IsReadyIn false slot
  down_at at slot None is = subst (IsReadyIn false) (sym is) tt
  down_at at slot (Some queue) is = down_in slot (shape_of queue.kind counts) (block_words counts at ws) (words_after_crash ws) is.world

  within : (at : ℕ) (slot : Slot) → slice_get slots at ≡ Some slot → at < 8
  within at slot here = omega (arith, slice_get_within slots at slot here, booted.count)

  rest : IsAtRest ws directory
  rest = subst (IsAtRest ws) (sym read.directory_is) (subst (λ (v : Words). IsAtRest v (directory_of ws.kept)) still (sound_rest ws read.broker))

  pub booted_well : IsWell (record { counts = counts; words = ws; slots = slots; directory = directory; creation = None; recovery = booting })
  booted_well = record {
    counts = subst (λ (n : Counts). AreCounts n.clients n.records) (sym read.counts_are) read.broker.head.counts;
    room = record { cached = ap length read.crashed ∙ kept_size; kept = kept_size };
    head = record {
      clients = record { cached = ap (λ (l : List ℕ). slice_index l 0) read.crashed ∙ ap (λ (n : Counts). n.clients) (sym read.counts_are); kept = ap (λ (n : Counts). n.clients) (sym read.counts_are) };
      records = record { cached = ap (λ (l : List ℕ). slice_index l 1) read.crashed ∙ ap (λ (n : Counts). n.records) (sym read.counts_are); kept = ap (λ (n : Counts). n.records) (sym read.counts_are) };
    };
    count = booted.count;
    slots = λ at slot here. let below = within at slot here in slot_at at slot (slot_in ws.kept at) below refl (booted.each at slot (slot_in ws.kept at) here (place_at at below));
    listed = subst IsDirectory (sym read.directory_is) read.broker.directory.names;
    kinds = λ at slot place here there. kind_at at slot place (booted.each at slot place here there);
    directory = record { whole = directory; recovering = recovery_begins ws directory rest; more = refl; loaded = λ slot below. refl };
    readiness = λ at slot here. let below = within at slot here in down_at at slot (slot_in ws.kept at) (booted.each at slot (slot_in ws.kept at) here (place_at at below));
  }

  -- the world of each slot
  pub booted_world_at : (at : ℕ) (slot : Slot) (place : Option Queue) → IsSlotBooted counts ws at place slot → world_in ws slot ≡ world_booted counts at ws place
  booted_world_at at slot None is = ap (world_in ws) is
  booted_world_at at slot (Some queue) is = ap (λ (v : Words). world_in v slot) (sym still) ∙ is.world

  pub booted_worlds : (at : ℕ) → at < 8 → world_of ws (slice_get slots at) ≡ world_booted counts at ws (slot_in ws.kept at)
  booted_worlds at below =
      let slot : Slot = slice_index_or slots at Closed in
      let here : slice_get slots at ≡ Some slot = slice_get-get_or slots at Closed (omega (arith, below, booted.count)) in
      ap (world_of ws) here ∙ booted_world_at at slot (slot_in ws.kept at) (booted.each at slot (slot_in ws.kept at) here (place_at at below))

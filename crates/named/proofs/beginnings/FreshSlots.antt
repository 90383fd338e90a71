-- Slots that begin on what a broker at rest keeps begin on the same words with one queue in fresh records: they hold and
-- tell the same.
use Rattle.std.proofs.Common.{◌≡◌, ℕ, ◌<◌, false, List, [], length, Option, Some, None, Ok, replicate, slice_get, refl, sym, ap, ap₂, subst, ◌∙◌, arith}
use Rattle.words.specs.PlainQueue.{Value}
use Rattle.words.specs.declared.told.Told.{Told}
use Rattle.persist.specs.Memory.{Words, words_after_crash, words_at_rest, words_in}
use Rattle.arena.specs.Broker.{broker_size}
use Rattle.arena.specs.Content.{kept_content as content_of}
use Rattle.arena.specs.Shape.{Counts, Shape, shape_of}
use Rattle.recover.specs.Table.{boot_recovery}
use Rattle.sound_words.specs.Told.{tells_by}
use Rattle.directory.specs.Directory.{Directory, HasQueue}
use Rattle.directory.specs.Queue.{directory_of, slot_in}
use Rattle.directory.specs.Sound.{counts_in}
use Rattle.directory.specs.declared.queue.Queue.{Queue}
use Rattle.interleave.specs.Booted.{booted_world, queue_at_boot}
use Rattle.interleave.specs.Holds.{Holds}
use Rattle.interleave.specs.State.{State}
use Rattle.interleave.specs.Values.{value_of_place}
use Rattle.interleave.proofs.Facts.{holds_booted}
use Rattle.renewal.specs.OneQueue.{IsQueueRenewalOf, queue_renewed}
use Rattle.named.specs.Blocks.{BlockState, state_in}
use Rattle.named.specs.Booting.{AreRead, AreSlotsBooted, IsBooted, IsQueueBooted, IsSlotBooted, world_booted}
use Rattle.named.specs.Brokers.{Brokered, IsInBlock, IsWell, block_words, world_at}
use Rattle.named.specs.Renewing.{IsRenewedAt}
use Rattle.named.specs.Rotating.{rotate_result}
use Rattle.named.specs.Stopping.{booting}
use Rattle.named.specs.declared.slot.Slot.{Slot}
use Rattle.named.specs.declared.slot.Slot.TheVariants.{Closed, Open}
use Rattle.named.proofs.beginnings.Boots.{booted_well, booted_worlds}
use Rattle.named.proofs.promises.Promises.{boots_well, head_is}
use Rattle.named.proofs.beginnings.RenewedQueues.{block_sound, content_same, known, renewed_there, tells_same}

-- a world that begins with this
abbrev begun : Shape → List Told → List Value → Words → State
begun s told base ws = record {
  shape = s;
  words = ws;
  queue = queue_at_boot s.kind told;
  calls = replicate s.clients None;
  base = base;
  told = told;
  log = record { events = []; issued = []; effects = [] };
  recovery = Some boot_recovery;
}

module _ (b : Brokered) (holds : IsWell b) (rests : rotate_result false b ≡ Ok tt) (slot : ℕ) (new : List ℕ)
    (same : IsQueueRenewalOf b.words.kept slot new) where
  abbrev c : Counts
  c = counts_in b.words.kept

  abbrev now : Words
  now = words_at_rest new

  long : length new ≡ length b.words.kept
  long =
      same.sound.head.size ∙ ap broker_size (same.counts ∙ head_is b holds) ∙ sym holds.room.kept

  module _ (at : ℕ) (queue : Queue) (has : HasQueue (directory_of b.words.kept) at queue) where
    abbrev s : Shape
    s = shape_of queue.kind c

    abbrev part : Words
    part = block_words c at now

    world_rebooted : (block : BlockState) → IsInBlock c (words_after_crash b.words) at block
        → state_in (words_after_crash b.words) block ≡ booted_world s (block_words c at b.words)
        → state_in (words_after_crash now) block ≡ booted_world s part
    world_rebooted block here is =
        let old_told : List Told = tells_by s (value_of_place s (block_words c at b.words).kept) in
        let old_base : List Value = content_of s (value_of_place s (block_words c at b.words).kept) in
        let told : List Told = tells_by s (value_of_place s part.kept) in
        ap (λ (w : State). let x : State = record w { words = words_in block.from block.len (words_after_crash now) } in x) is
        ∙ ap₂ (λ (from len : ℕ). begun s old_told old_base (words_in from len (words_after_crash now))) here.from here.len
        ∙ ap (λ (t : List Told). begun s t old_base (words_after_crash part)) (sym (tells_same b holds rests slot new same at queue has))
        ∙ ap (λ (v : List Value). begun s told v (words_after_crash part)) (sym (content_same b holds rests slot new same at queue has))

    part_holds : Holds (booted_world s part)
    part_holds =
        let counts = (boots_well b holds).broker.head.counts in
        holds_booted s part counts.some_client counts.few_clients (block_sound b holds rests slot new same at queue has)

    queue_rebooted : (it : Slot) → IsQueueBooted c b.words at queue.kind it → IsQueueBooted c now at queue.kind it
    queue_rebooted Closed booted = absurd (let none : None ≡ Some queue.kind = booted.kind_is in cc)
    queue_rebooted (Open block) booted =
        let here : IsInBlock c (words_after_crash b.words) at block = booted.here in
        let was : state_in (words_after_crash b.words) block ≡ booted_world s (block_words c at b.words) = cc (booted.world) in
        let is = world_rebooted block here was in
        record {
          kind_is = booted.kind_is;
          world = ap (λ (w : State). Some w) is;
          here = record {
            shape = here.shape;
            from = here.from;
            len = here.len;
            port = here.port;
            well = record {
              some = here.well.some;
              inside = omega (arith, here.well.inside, long);
              ports = here.well.ports;
              holds = subst Holds (sym is) part_holds;
            };
          };
        }

  slot_rebooted : (at : ℕ) (place : Option Queue) (it : Slot) → slice_get b.directory at ≡ Some place
      → IsSlotBooted b.counts b.words at place it → IsSlotBooted b.counts now at place it
  slot_rebooted at None it listed booted = booted
  slot_rebooted at (Some queue) it listed booted =
      let has : HasQueue (directory_of b.words.kept) at queue = subst (λ (d : Directory). HasQueue d at queue) (sym (known b holds rests)) listed in
      subst (λ (k : Counts). IsQueueBooted k now at queue.kind it) (head_is b holds)
      (queue_rebooted at queue has it (subst (λ (k : Counts). IsQueueBooted k b.words at queue.kind it) (sym (head_is b holds)) booted))

  module _ (slots : List Slot) (booted : AreSlotsBooted b.counts b.words b.directory slots) where
    slots_rebooted : AreSlotsBooted b.counts now b.directory slots
    slots_rebooted = record {
      count = booted.count;
      each = λ at it place here listed. slot_rebooted at place it listed (booted.each at it place here listed);
    }

    read : AreRead now b.counts b.directory
    read = record {
      crashed = refl;
      broker = same.sound;
      counts_are = sym (same.counts ∙ head_is b holds);
      directory_is = sym (same.directory ∙ known b holds rests);
    }

    -- the broker that begins so
    abbrev anew : Brokered
    anew = record { counts = b.counts; words = now; slots = slots; directory = b.directory; creation = None; recovery = booting }

    pub anew_well : IsWell anew
    anew_well = booted_well now b.counts b.directory slots read slots_rebooted

    pub anew_worlds : (at : ℕ) → at < 8 → world_at anew at ≡ world_booted b.counts at now (slot_in new at)
    anew_worlds at below = booted_worlds now b.counts b.directory slots read slots_rebooted at below

    anew_booted : IsBooted now anew
    anew_booted = record {
      counts = read.counts_are;
      words = refl;
      directory = read.directory_is;
      worlds = anew_worlds;
      creation = refl;
      recovery = refl;
    }

    pub anew_renewed : new ≡ queue_renewed slot b.words.kept → IsRenewedAt b anew slot
    anew_renewed is = renewed_there b holds rests slot new same anew anew_booted anew_well is

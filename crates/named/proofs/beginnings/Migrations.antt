-- Sound words are refused for want of memory alone; a migrated broker begins with what the old words hold and tell.
use Rattle.std.proofs.Common.{◌≡◌, ◌<◌, ◌⊎◌, ℕ, List, Option, Some, Result, Ok, Err, inl, inr, refl, sym, ap, subst, ◌∙◌, arith}
use Rattle.std.specs.Prelude.{IfErr, IfOk}
use Rattle.std.proofs.lemmas.Option.{slice_get_within}
use Rattle.words.specs.declared.refusal.Refusal.{Refusal}
use Rattle.words.specs.declared.refusal.Refusal.TheVariants.{NoMemory}
use Rattle.words.specs.declared.refusal.Refusal.TheVariants.{Damaged}
use Rattle.words.specs.declared.refusal.Rule.TheVariants.{Image}
use Rattle.words.specs.declared.refusal.Rule.TheVariants.{Directory as directory_rule}
use Rattle.words.specs.declared.call.Kind.{Kind}
use Rattle.words.specs.declared.call.Kind.TheVariants.{Durable, Log}
use Rattle.words.specs.declared.told.Told.{Told}
use Rattle.persist.specs.Memory.{Words, words_at_rest}
use Rattle.arena.specs.Broker.{block_in}
use Rattle.arena.specs.Shape.{Counts, Shape, shape_of}
use Rattle.arena.specs.declared.form.Form.TheVariants.{OfItems, OfValues}
use Rattle.sound_words.specs.Kept.{kept_in}
use Rattle.sound_words.specs.Sound.{AreSoundWords, IsDamaged}
use Rattle.sound_words.specs.Told.{tells_by}
use Rattle.sound_words.proofs.Facts.{content_like, tells_like}
use Rattle.directory.specs.Directory.{Directory, HasQueue}
use Rattle.directory.specs.Queue.{directory_of, slot_in}
use Rattle.directory.specs.Sound.{AreBrokerWords, IsBrokerDamaged, counts_in}
use Rattle.directory.specs.declared.queue.Queue.{Queue}
use Rattle.directory.proofs.Facts.{directory_at}
use Rattle.interleave.specs.Booted.{booted_world, queue_at_boot}
use Rattle.interleave.specs.Queue.{told_in}
use Rattle.interleave.specs.Values.{value_of_place}
use Rattle.interleave.proofs.Facts.{shown_at}
use Rattle.migration.specs.Words.{HasSoundQueue, HaveQueueOf, broker_migrated}
use Rattle.migration.proofs.Facts.{broker_sound, counts_same, directory_same, queue_kept, slot_same}
use Rattle.named.specs.Booting.{AreBootWords, AreBootWordsIn, IsBlockDamaged, IsBooted, MayRefuse, MayRefuseIn}
use Rattle.named.specs.Booting.{world_booted}
use Rattle.named.specs.Brokers.{Brokered, block_words, world_at}
use Rattle.named.specs.Migrating.{BeginsAs, IsMigrated}
use Rattle.named.proofs.beginnings.Boots.{obeyed}

undamaged : (s : Shape) (ws : List ℕ) → AreSoundWords s ws → (e : Refusal) → IsDamaged s ws e → ⊥
undamaged s ws sound (Damaged rule) h = h.broken (obeyed s ws sound rule)
undamaged s ws sound _ h = h

undamaged_broker : (ws : List ℕ) → AreBrokerWords ws → (e : Refusal) → IsBrokerDamaged ws e → ⊥
undamaged_broker ws sound (Damaged Image) h = h sound.head
undamaged_broker ws sound (Damaged directory_rule) h = h.broken sound.directory
undamaged_broker ws sound _ h = h

no_damage : (ws : List ℕ) → AreBootWords ws → (e : Refusal) → IsBrokerDamaged ws e ⊎ IsBlockDamaged ws e → ⊥
no_damage ws sound e (inl head) = undamaged_broker ws sound.broker e head
no_damage ws sound e (inr block) = undamaged _ _ (sound.blocks block.slot block.queue block.has) e block.damaged

pub refused_for_memory : (ws : List ℕ) → AreBootWords ws → (e : Refusal) → MayRefuse ws e → e ≡ NoMemory
refused_for_memory ws sound NoMemory h = refl
refused_for_memory ws sound refusal h = absurd (no_damage ws sound refusal h)

-- so a migration is refused as the old words are
pub refused_as_old : {T : Type 0} (old new : List ℕ) (r : Result T Refusal) → AreBootWordsIn OfValues old → AreBootWords new
    → IfErr r (MayRefuse new) → IfErr r (MayRefuseIn OfValues old)
refused_as_old old new (Ok x) was sound h = tt
refused_as_old old new (Err e) was sound h = subst (MayRefuseIn OfValues old) (sym (refused_for_memory new sound e h)) was

pub same_some : (x y : Option Queue) → ◌≡◌ {A = Option (Option Queue)} (Some x) (Some y) → x ≡ y
same_some x y e = cc

pub told_at_boot : (kind : Kind) (told : List Told) → told_in (queue_at_boot kind told) ≡ told
told_at_boot Durable told = refl
told_at_boot Log told = refl

module _ (old : List ℕ) (was : AreBootWordsIn OfValues old) where
  abbrev new : List ℕ
  new = broker_migrated old

  counts : counts_in new ≡ counts_in old
  counts = counts_same old was.broker.head

  listed : (slot : ℕ) (queue : Queue) → HasQueue (directory_of old) slot queue → HasSoundQueue old slot queue
  listed slot queue has =
      let below : slot < 8 = omega (arith, slice_get_within (directory_of old) slot (Some queue) has, was.broker.directory.names.count) in
      record {
        in_range = below;
        has = same_some _ _ (sym (directory_at old slot below) ∙ has);
        sound = was.blocks slot queue has;
      }

  kept : (slot : ℕ) (queue : Queue) → HasQueue (directory_of old) slot queue
      → HaveQueueOf (shape_of queue.kind (counts_in old)) (block_in OfValues (counts_in old) slot old) (block_in OfItems (counts_in old) slot new)
  kept slot queue has = queue_kept old was.broker.head slot queue (listed slot queue has)

  -- a broker may begin on them
  pub migrated_boots : AreBootWords new
  migrated_boots = record {
    broker = broker_sound old was.broker.head was.broker.directory;
    blocks = λ slot queue has.
        let listed_old : HasQueue (directory_of old) slot queue =
        subst (λ (d : Directory). HasQueue d slot queue) (directory_same old was.broker.head) has in
        subst (λ (c : Counts). AreSoundWords (shape_of queue.kind c) (block_in OfItems c slot new)) (sym counts) (kept slot queue listed_old).sound;
  }

  -- and each queue begins there with what the old words hold and tell
  queue_begins : (b : Brokered) → IsBooted (words_at_rest new) b → (slot : ℕ) (queue : Queue) → HasQueue (directory_of old) slot queue
      → BeginsAs (shape_of queue.kind (counts_in old)) (block_in OfValues (counts_in old) slot old) (world_at b slot)
  queue_begins b booted slot queue has =
      let s : Shape = shape_of queue.kind (counts_in old) in
      let is : HasSoundQueue old slot queue = listed slot queue has in
      let there : slot_in new slot ≡ Some queue = slot_same old was.broker.head slot is.in_range ∙ is.has in
      let begun : world_at b slot ≡ world_booted (counts_in old) slot (words_at_rest new) (Some queue) =
      booted.worlds slot is.in_range ∙ ap (λ (o : Option Queue). world_booted b.counts slot (words_at_rest new) o) there
      ∙ ap (λ (c : Counts). world_booted c slot (words_at_rest new) (Some queue)) (booted.counts ∙ counts) in
      let block : List ℕ = block_in OfItems (counts_in old) slot new in
      let same : HaveQueueOf s (block_in OfValues (counts_in old) slot old) block = kept slot queue has in
      record {
        world = booted_world s (block_words (counts_in old) slot (words_at_rest new));
        is = begun;
        shape = refl;
        base = content_like s (kept_in s block) (value_of_place s block) (λ p at. shown_at s block p at) same.sound.sound ∙ same.content;
        told =
            told_at_boot queue.kind (tells_by s (value_of_place s block))
            ∙ tells_like s (kept_in s block) (value_of_place s block) (λ p at. shown_at s block p at) same.sound.sound ∙ same.told;
      }

  pub migrated_is : (b : Brokered) → IsBooted (words_at_rest new) b → IsMigrated old b
  migrated_is b booted = record {
    booted = booted;
    counts = booted.counts ∙ counts;
    directory = booted.directory ∙ directory_same old was.broker.head;
    queues = queue_begins b booted;
  }

pub migrated_if : (old : List ℕ) (ws : Words) (r : Result Brokered Refusal) → AreBootWordsIn OfValues old → ws ≡ words_at_rest (broker_migrated old)
    → IfOk r (IsBooted ws) → IfOk r (IsMigrated old)
migrated_if old ws (Ok b) was same h = migrated_is old was b (subst (λ (v : Words). IsBooted v b) same h)
migrated_if old ws (Err e) was same h = tt

-- A broker in fresh records begins with what the old words hold and tell.
use Rattle.std.proofs.Common.{◌≡◌, ◌<◌, ◌≤◌, ◌⊎◌, ℕ, List, length, Some, Option, Result, Ok, Err, get_or, slice_get, inl, inr, refl, sym, ap, subst, ◌∙◌, arith}
use Rattle.std.specs.Prelude.{IfErr, IfOk, IsOk, unwrap_or}
use Rattle.std.proofs.lemmas.List.FromFn.{get_or-map-range_with_len}
use Rattle.std.proofs.lemmas.Option.{slice_get_within, unwrap_or-slice_get}
use Rattle.words.specs.declared.refusal.Refusal.{Refusal}
use Rattle.words.specs.declared.refusal.Refusal.TheVariants.{NoMemory, NoRoom}
use Rattle.words.specs.declared.told.Told.{Told}
use Rattle.words.specs.declared.told.Told.TheVariants.{None as told_none}
use Rattle.persist.specs.Memory.{Words, words_at_rest}
use Rattle.arena.specs.Broker.{block_in}
use Rattle.arena.specs.Content.{kept_content}
use Rattle.arena.specs.Form.{running}
use Rattle.arena.specs.Limits.{AreCounts}
use Rattle.arena.specs.Place.{IsClient}
use Rattle.arena.specs.Shape.{Counts, Shape, shape_of}
use Rattle.sound_words.specs.Kept.{kept_in}
use Rattle.sound_words.specs.Sound.{AreSoundWords}
use Rattle.sound_words.specs.Told.{tells_by, told_by}
use Rattle.sound_words.proofs.Facts.{content_like, tells_like}
use Rattle.directory.specs.Directory.{Directory, HasQueue}
use Rattle.directory.specs.Queue.{directory_of, slot_in}
use Rattle.directory.specs.Sound.{counts_in}
use Rattle.directory.specs.declared.queue.Queue.{Queue}
use Rattle.directory.proofs.Facts.{directory_at}
use Rattle.interleave.specs.Booted.{booted_world}
use Rattle.interleave.specs.State.{State}
use Rattle.interleave.specs.Values.{value_of_place}
use Rattle.interleave.proofs.Facts.{shown_at}
use Rattle.renewal.specs.Broker.{AllFit, IsBrokerRenewalOf, MayBeRenewedTo, broker_renewed}
use Rattle.renewal.specs.Words.{IsRenewalOf}
use Rattle.named.specs.Booting.{AreBootWords, AreRead, IsBooted, world_booted}
use Rattle.named.specs.Brokers.{Brokered, block_words, world_at}
use Rattle.named.specs.Renewing.{AreCountsFor, AreToldAsBefore, BeginsRenewed, IsRenewed, IsWhyUnrenewed}
use Rattle.named.specs.Renewing.{told_of}
use Rattle.named.proofs.beginnings.Migrations.{same_some, told_at_boot}

-- what sound words of a block hold and tell, as the world that begins on them has it
pub content_shown : (s : Shape) (block : List ℕ) → AreSoundWords s block
    → kept_content s (value_of_place s block) ≡ kept_content s (kept_in s block)
content_shown s block sound =
    content_like s (kept_in s block) (value_of_place s block) (λ p at. shown_at s block p at) sound.sound

pub tells_shown : (s : Shape) (block : List ℕ) → AreSoundWords s block
    → tells_by s (value_of_place s block) ≡ tells_by s (kept_in s block)
tells_shown s block sound =
    tells_like s (kept_in s block) (value_of_place s block) (λ p at. shown_at s block p at) sound.sound

pub told_shown : (s : Shape) (block : List ℕ) (t : ℕ) → AreSoundWords s block → t < 16
    → unwrap_or (slice_get (tells_by s (value_of_place s block)) t) told_none ≡ told_by s (kept_in s block) t
told_shown s block t sound below =
    unwrap_or-slice_get (tells_by s (value_of_place s block)) t told_none
    ∙ ap (λ (l : List Told). get_or l t told_none) (tells_shown s block sound)
    ∙ get_or-map-range_with_len (told_by s (kept_in s block)) 0 16 t t told_none below (omega arith)

module _ (old : List ℕ) (to : Counts) (new : List ℕ) (few : (counts_in old).clients ≤ 16) (same : IsBrokerRenewalOf old to new) where
  counts_fit : AreCounts to.clients to.records
  counts_fit = subst (λ (c : Counts). AreCounts c.clients c.records) same.counts same.sound.head.counts

  -- a broker may begin on them
  pub renewed_boots : AreBootWords new
  renewed_boots = record {
    broker = same.sound;
    blocks = λ slot queue has.
        let was : HasQueue (directory_of old) slot queue =
        subst (λ (d : Directory). HasQueue d slot queue) same.directory has in
        subst (λ (c : Counts). AreSoundWords (shape_of queue.kind c) (block_in running c slot new)) (sym same.counts)
        (same.queues slot queue was).sound;
  }

  module _ (slot : ℕ) (queue : Queue) (has : HasQueue (directory_of old) slot queue) where
    abbrev s : Shape
    s = shape_of queue.kind (counts_in old)

    abbrev was : List ℕ
    was = block_in running (counts_in old) slot old

    abbrev now : Shape
    now = shape_of queue.kind to

    abbrev block : List ℕ
    block = block_in running to slot new

    is : IsRenewalOf s was now block
    is = same.queues slot queue has

    listed : HasQueue (directory_of new) slot queue
    listed = subst (λ (d : Directory). HasQueue d slot queue) (sym same.directory) has

    slot_below : slot < 8
    slot_below =
        omega (arith, slice_get_within (directory_of new) slot (Some queue) listed, same.sound.directory.names.count)

    there : slot_in new slot ≡ Some queue
    there = same_some _ _ (sym (directory_at new slot slot_below) ∙ listed)

    -- its queue is there
    pub begun_there : (b : Brokered) → IsBooted (words_at_rest new) b
        → world_at b slot ≡ Some (booted_world now (block_words to slot (words_at_rest new)))
    begun_there b booted =
        booted.worlds slot slot_below
        ∙ ap (λ (o : Option Queue). world_booted b.counts slot (words_at_rest new) o) there
        ∙ ap (λ (c : Counts). world_booted c slot (words_at_rest new) (Some queue)) (booted.counts ∙ same.counts)

    -- it holds and tells what the old words do
    pub holds_same : kept_content now (value_of_place now block) ≡ kept_content s (kept_in s was)
    holds_same = content_shown now block is.sound ∙ is.content

    pub tells_same : (w : State) → w.shape ≡ now
        → ((t : ℕ) → unwrap_or (slice_get (tells_by now (value_of_place now block)) t) told_none ≡ told_of w t)
        → AreToldAsBefore s was w
    tells_same w shape tells = record {
      told = λ t client.
          let within : t < 16 = omega (arith, client, few) in
          sym (tells t) ∙ told_shown now block t is.sound within ∙ is.told t client;
      others = λ t past client.
          let below : t < to.clients = subst (λ (x : Shape). IsClient x t) shape client in
          let within : t < 16 = omega (arith, below, counts_fit.few_clients) in
          sym (tells t) ∙ told_shown now block t is.sound within ∙ is.others t past below;
    }

    queue_begins : (b : Brokered) → IsBooted (words_at_rest new) b → BeginsRenewed s was now (world_at b slot)
    queue_begins b booted = record {
      world = booted_world now (block_words to slot (words_at_rest new));
      is = begun_there b booted;
      shape = refl;
      base = holds_same;
      told = tells_same (booted_world now (block_words to slot (words_at_rest new))) refl
          (λ t. ap (λ (l : List Told). unwrap_or (slice_get l t) told_none)
          (sym (told_at_boot queue.kind (tells_by now (value_of_place now block)))));
    }

-- so the broker that boots from them is a renewed one
pub renewed_is : (old : List ℕ) (to : Counts) (new : List ℕ) → (counts_in old).clients ≤ 16 → AreCountsFor old to
    → IsBrokerRenewalOf old to new → new ≡ broker_renewed to old → (b : Brokered) → IsBooted (words_at_rest new) b → IsRenewed old to b
renewed_is old to new few may same is b booted = record {
  may = may;
  booted = subst (λ (ws : List ℕ). IsBooted (words_at_rest ws) b) is booted;
  words = subst (IsBrokerRenewalOf old to) (sym (ap (λ (ws : Words). ws.kept) booted.words)) same;
  counts = booted.counts ∙ same.counts;
  directory = booted.directory ∙ same.directory;
  queues = λ slot queue has. queue_begins old to new few same slot queue has b booted;
}

pub renewed_if : (old : List ℕ) (to : Counts) (new : List ℕ) (ws : Words) (r : Result Brokered Refusal) → (counts_in old).clients ≤ 16
    → AreCountsFor old to → IsBrokerRenewalOf old to new → new ≡ broker_renewed to old → ws ≡ words_at_rest new → IfOk r (IsBooted ws) → IfOk r (IsRenewed old to)
renewed_if old to new ws (Ok b) few may same is rest booted =
    renewed_is old to new few may same is b (subst (λ (v : Words). IsBooted v b) rest booted)
renewed_if old to new ws (Err e) few may same is rest booted = tt

-- and it is refused for want of memory alone
pub unrenewed_if : {T : Type 0} (old : List ℕ) (to : Counts) (r : Result T Refusal) → AreCountsFor old to
    → IfErr r (λ e. e ≡ NoMemory) → IfErr r (IsWhyUnrenewed old to)
unrenewed_if old to (Ok x) may full = tt
unrenewed_if old to (Err e) may full = subst (IsWhyUnrenewed old to) (sym full) may

-- what is read of them
pub renewed_read : (old : List ℕ) (to counts : Counts) (directory : Directory) (new : List ℕ) (ws : Words) → IsBrokerRenewalOf old to new
    → ws ≡ words_at_rest new → counts ≡ to → directory ≡ directory_of old → AreRead ws counts directory
renewed_read old to counts directory new ws same rest counts_are directory_is =
    subst (λ (v : Words). AreRead v counts directory) (sym rest)
    (record {
      crashed = refl;
      broker = same.sound;
      counts_are = counts_are ∙ sym same.counts;
      directory_is = directory_is ∙ sym same.directory;
    })

-- what renews the words may be asked for
pub may_be_renewed : (ws : Words) (counts : Counts) (directory : Directory) (to : Counts) → length ws.cached ≡ length ws.kept → AreBootWords ws.kept
    → counts ≡ counts_in ws.kept → directory ≡ directory_of ws.kept → counts.clients ≤ to.clients → MayBeRenewedTo ws counts directory to
may_be_renewed ws counts directory to room sound counts_are directory_is clients = record {
  room = room;
  broker = sound.broker;
  counts_are = counts_are;
  directory_is = directory_is;
  blocks = sound.blocks;
  clients = subst (λ (c : Counts). c.clients ≤ to.clients) counts_are clients;
}

-- why it refuses
pub unfit : (old : List ℕ) (to : Counts) (e : Refusal) → AreCountsFor old to → (e ≡ NoRoom) ⊎ (e ≡ NoMemory)
    → (e ≡ NoRoom → (AllFit to old → ⊥)) → IsWhyUnrenewed old to e
unfit old to e may (inl room) over = subst (IsWhyUnrenewed old to) (sym room) (may, over room)
unfit old to e may (inr full) over = subst (IsWhyUnrenewed old to) (sym full) may

pub unfit_as : (old was : List ℕ) (to counts : Counts) → was ≡ old → counts ≡ to → (AllFit to old → ⊥) → AllFit counts was → ⊥
unfit_as old was to counts same is over fit =
    over (subst (λ (ws : List ℕ). AllFit to ws) same (subst (λ (c : Counts). AllFit c was) is fit))

-- a result is no success and a refusal at once
pub not_both : {T : Type 0} (r : Result T Refusal) (x : T) (e : Refusal) → r ≡ Ok x → r ≡ Err e → ⊥
not_both r x e ok err = absurd (cc (ok, err))

pub not_refused : {T : Type 0} (r : Result T Refusal) (e : Refusal) → IsOk r → r ≡ Err e → ⊥
not_refused (Ok x) e ok err = absurd (cc (err))
not_refused (Err f) e ok err = absurd (cc (ok))

-- A broker in fresh records is opened with what the image's words hold and tell.
use Rattle.std.proofs.Common.{◌≡◌, ◌≤◌, ℕ, Bool, List, Result, Ok, Err, slice_get, inr, refl, sym, ap, subst, ◌∙◌}
use Rattle.std.specs.Prelude.{IfOk, unwrap_or}
use Rattle.words.specs.declared.refusal.Refusal.{Refusal}
use Rattle.words.specs.declared.told.Told.{Told}
use Rattle.words.specs.declared.told.Told.TheVariants.{None as told_none}
use Rattle.arena.specs.Shape.{Counts, shape_of}
use Rattle.persist.specs.Memory.{Words, words_at_rest}
use Rattle.directory.specs.Directory.{Directory, HasQueue}
use Rattle.directory.specs.Queue.{directory_of}
use Rattle.directory.specs.Sound.{counts_in}
use Rattle.directory.specs.declared.queue.Queue.{Queue}
use Rattle.renewal.specs.Broker.{IsBrokerRenewalOf, broker_renewed}
use Rattle.named.specs.Booting.{AreBootWords, kept_block}
use Rattle.named.specs.Brokers.{Brokered, world_at}
use Rattle.named.specs.Promises.{KeepsPromises}
use Rattle.named.specs.Renewing.{IsRenewed, IsWhyUnrenewed}
use Rattle.named.proofs.Facts.{holds_same, renewed_boots, renewed_is, tells_same}
use Rattle.opening.specs.Opening.{HasBegunFrom, HasBegunOn, IsOpened, IsOpenedAnew, IsQueueOpened, IsQueueRenewed}
use Rattle.opening.specs.Opening.{IsRenewedBy, IsReopenedAnew, IsWhyNotReopenedAnew}

module _ (old : List ℕ) (to : Counts) (sound : AreBootWords old) (start : Brokered) (renewed : IsRenewed old to start) where
  abbrev new : List ℕ
  new = broker_renewed to old

  few : (counts_in old).clients ≤ 16
  few = sound.broker.head.counts.few_clients

  same : IsBrokerRenewalOf old to new
  same = subst (IsBrokerRenewalOf old to) (ap (λ (ws : Words). ws.kept) renewed.booted.words) renewed.words

  -- it began on the renewed words
  pub begun_anew : HasBegunOn (words_at_rest new) start
  begun_anew = record { sound = renewed_boots old to new few same; booted = renewed.booted }

  queue_anew : (b : Brokered) → IsOpened (words_at_rest new) b → (slot : ℕ) (queue : Queue) → HasQueue (directory_of old) slot queue
      → IsQueueRenewed (shape_of queue.kind (counts_in old)) (kept_block (counts_in old) slot old) (shape_of queue.kind to) (world_at b slot)
  queue_anew b o slot queue has =
      let listed : HasQueue (directory_of new) slot queue =
      subst (λ (d : Directory). HasQueue d slot queue) (sym same.directory) has in
      let q : IsQueueOpened (shape_of queue.kind to) (kept_block to slot new) (world_at b slot) =
      subst (λ (c : Counts). IsQueueOpened (shape_of queue.kind c) (kept_block c slot new) (world_at b slot)) same.counts
      (o.queues slot queue listed) in
      record {
        world = q.world;
        is = q.is;
        shape = q.shape;
        holds = q.holds ∙ holds_same old to new few same slot queue has;
        told = tells_same old to new few same slot queue has q.world q.shape
            (λ t. ap (λ (l : List Told). unwrap_or (slice_get l t) told_none) (sym q.told));
        at_ready = q.at_ready;
        none_yet = q.none_yet;
      }

  -- and is opened with the queues of the old ones
  pub opened_anew : (b : Brokered) → IsOpened (words_at_rest new) b → IsOpenedAnew old to b
  opened_anew b o = record {
    opened = o;
    renewed = renewed_is old to new few renewed.may same refl o.start o.booted;
    counts = o.counts ∙ same.counts;
    directory = o.directory ∙ same.directory;
    queues = queue_anew b o;
  }

-- so it is of an image
pub renewed_from : (first : Bool) (image : List ℕ) (to : Counts) (start anew : Brokered) (r : Result Brokered Refusal)
    → HasBegunFrom first image start → KeepsPromises start → IsRenewed start.words.kept to anew
    → IfOk r (λ b. (ws : Words) → HasBegunOn ws anew → IsOpened ws b) → IfOk r (IsRenewedBy first image to)
renewed_from first image to start anew (Ok b) begun promises renewed opened = record {
  start = start;
  begun = begun;
  anew = opened_anew start.words.kept to promises.boots anew renewed b
      (opened (words_at_rest (broker_renewed to start.words.kept)) (begun_anew start.words.kept to promises.boots anew renewed));
}
renewed_from first image to start anew (Err e) begun promises renewed opened = tt

-- so it is of words
module _ (words : List ℕ) (to : Counts) (start : Brokered) (begun : HasBegunOn (words_at_rest words) start) where
  kept_words : start.words.kept ≡ words
  kept_words = ap (λ (ws : Words). ws.kept) begun.booted.words

  pub reopened_on : (anew : Brokered) (r : Result Brokered Refusal) → IsRenewed start.words.kept to anew
      → IfOk r (λ b. (ws : Words) → HasBegunOn ws anew → IsOpened ws b) → IfOk r (IsReopenedAnew words to)
  reopened_on anew (Ok b) renewed opened =
      let now : IsRenewed words to anew = subst (λ (ws : List ℕ). IsRenewed ws to anew) kept_words renewed in (
        begun.sound,
        opened_anew words to begun.sound anew now b
            (opened (words_at_rest (broker_renewed to words)) (begun_anew words to begun.sound anew now)),
      )
  reopened_on anew (Err e) renewed opened = tt

  pub unrenewed_on : (e : Refusal) → IsWhyUnrenewed start.words.kept to e → IsWhyNotReopenedAnew words to e
  unrenewed_on e why = inr (subst (λ (ws : List ℕ). IsWhyUnrenewed ws to e) kept_words why)

-- At every moment each open queue stands in the words that are kept.
use Rattle.std.proofs.Common.{◌≡◌, ℕ, ◌<◌, inl, inr, length, slice_get, slice_set, Option, Some, None, refl, sym, ap, subst, ◌∙◌, arith, get_or}
use Rattle.std.specs.Prelude.{option_map}
use Rattle.std.proofs.lemmas.Bool.{cases_eq}
use Rattle.std.proofs.lemmas.Option.{none-some, same_Some, slice_get-get_or, slice_get_within}
use Rattle.words.specs.declared.call.Kind.{Kind}
use Rattle.persist.specs.Memory.{Words, words_after_crash}
use Rattle.arena.specs.Shape.{Counts, shape_of}
use Rattle.directory.specs.Directory.{Directory, HasQueue, IsFree}
use Rattle.directory.specs.Queue.{directory_of}
use Rattle.directory.specs.Sound.{counts_in}
use Rattle.directory.specs.UnderWay.{IsAtRest}
use Rattle.directory.specs.declared.creation.Creation.{Creation}
use Rattle.directory.specs.declared.queue.Queue.{Queue}
use Rattle.directory.proofs.Facts.{creation_crashed, kept_directory, rest_crashed}
use Rattle.interleave.specs.State.{State}
use Rattle.named.specs.Blocks.{state_in}
use Rattle.named.specs.Booting.{kept_block}
use Rattle.named.specs.Brokers.{Brokered, IsCreating, IsDirectoryAt, IsInBlock, IsMaybeWith, IsWell}
use Rattle.named.specs.Brokers.{block_words, world_at, world_of}
use Rattle.named.specs.KeptQueues.{IsKeptQueue}
use Rattle.named.specs.Slots.{world_in}
use Rattle.named.specs.declared.recovery.BrokerRecovery.{BrokerRecovery}
use Rattle.named.specs.declared.recovery.BrokerRecovery.TheVariants.{ReadDirectory, RecoverQueue}
use Rattle.named.specs.declared.slot.Slot.{Slot}
use Rattle.named.specs.declared.slot.Slot.TheVariants.{Closed, Open}
use Rattle.named.proofs.acts.OneSlot.{get_set_other}
use Rattle.named.proofs.promises.Promises.{head_is}

-- the queue of a world, by what is known
pub record IsThere (b : Brokered) (at : ℕ) (w : State) : Type 0 where
  pub queue : Queue
  pub has : HasQueue b.directory at queue
  pub shape : w.shape ≡ shape_of queue.kind b.counts
  pub words : w.words ≡ block_words b.counts at b.words

listed_kind : (kind : Kind) (o : Option Queue) → Some kind ≡ option_map (λ (q : Queue). q.kind) o → (q : Queue) × (o ≡ Some q) × (kind ≡ q.kind)
listed_kind kind None e = absurd (cc (e))
listed_kind kind (Some q) e = (q, refl, cc (e))

module _ (b : Brokered) (holds : IsWell b) where
  there_in : (at : ℕ) (s : Slot) (w : State) → slice_get b.slots at ≡ Some s → world_in b.words s ≡ Some w → IsThere b at w
  there_in at Closed w e is = absurd (cc (is))
  there_in at (Open block) w e is =
      let here : IsInBlock b.counts b.words at block = holds.slots at (Open block) e in
      let same : state_in b.words block ≡ w = cc (is) in
      let below : at < length b.directory = omega (arith, slice_get_within b.slots at (Open block) e, holds.count, holds.listed.count) in
      let entry : slice_get b.directory at ≡ Some (get_or b.directory at None) = slice_get-get_or b.directory at None below in
      let listed = listed_kind block.core.shape.kind (get_or b.directory at None) (holds.kinds at (Open block) (get_or b.directory at None) e entry) in
      record {
        queue = listed.0;
        has = entry ∙ ap (λ (o : Option Queue). let x : Option (Option Queue) = Some o in x) listed.1;
        shape =
            ap (λ (v : State). v.shape) (sym same) ∙ here.shape
            ∙ ap (λ (k : Kind). shape_of k b.counts) listed.2;
        words =
            ap (λ (v : State). v.words) (sym same)
            ∙ rw (here.from, here.len) refl;
      }

  pub there : (at : ℕ) (w : State) → world_at b at ≡ Some w → IsThere b at w
  there at w here = go (slice_get b.slots at) refl here
    where
      go : (o : Option Slot) → slice_get b.slots at ≡ o → world_of b.words o ≡ Some w → IsThere b at w
      go None e is = absurd (cc (is))
      go (Some s) e is = there_in at s w e is

  -- the kept directory has every queue that is known
  abbrev AreListed : Type 0
  AreListed = (at : ℕ) (queue : Queue) → HasQueue b.directory at queue → HasQueue (directory_of b.words.kept) at queue

  same_listed : (whole : Directory) → IsAtRest b.words whole → whole ≡ b.directory → AreListed
  same_listed whole rest same at queue has =
      subst (λ (d : Directory). HasQueue d at queue) (sym (kept_directory b.words whole rest ∙ same)) has

  with_listed : (whole : Directory) (creation : Creation) → IsFree b.directory creation.slot.0 → whole ≡ slice_set b.directory creation.slot.0 (Some creation.queue)
      → IsAtRest (words_after_crash b.words) whole → AreListed
  with_listed whole creation free is rest at queue has = elim (cases_eq at creation.slot.0) [
    | inl same ↦
        let none : HasQueue b.directory at queue → slice_get b.directory at ≡ Some None → ⊥ = λ h e. none-some queue (same_Some _ _ (sym e ∙ h)) in
        absurd (none has (subst (IsFree b.directory) (sym same) free))
    | inr apart ↦
        subst (λ (d : Directory). HasQueue d at queue) (sym (kept_directory (words_after_crash b.words) whole rest ∙ is))
        (get_set_other b.directory creation.slot.0 (Some creation.queue) at apart ∙ has)
  ]

  creating_listed : (creation : Creation) → IsCreating b.words creation b.directory → AreListed
  creating_listed creation creating = elim (creation_crashed b.words creation b.directory creating.under_way) [
    | inl without ↦ λ at queue has.
        subst (λ (d : Directory). HasQueue d at queue) (sym (kept_directory (words_after_crash b.words) b.directory without)) has
    | inr whole ↦
        with_listed (slice_set b.directory creation.slot.0 (Some creation.queue)) creation creating.under_way.others.free refl whole
  ]

  maybe_listed : (whole : Directory) (creation : Option Creation) → IsAtRest b.words whole → IsMaybeWith b.directory whole creation → AreListed
  maybe_listed whole None rest same = same_listed whole rest same
  maybe_listed whole (Some creation) rest (inl same) = same_listed whole rest same
  maybe_listed whole (Some creation) rest (inr is) = with_listed whole creation is.free is.is (rest_crashed b.words whole rest)

  at_listed : (recovery : Option BrokerRecovery) (creation : Option Creation) → IsDirectoryAt b.words recovery creation b.directory → AreListed
  at_listed None None here = same_listed b.directory here refl
  at_listed None (Some creation) here = creating_listed creation here
  at_listed (Some (ReadDirectory at)) creation here = maybe_listed here.whole creation here.recovering.rest here.more
  at_listed (Some (RecoverQueue slot)) creation here = same_listed b.directory here.rest refl

  -- each open queue stands in the kept words
  pub kept_queue : (slot : ℕ) (w : State) → world_at b slot ≡ Some w → IsKeptQueue b.words.kept slot w
  kept_queue slot w here =
      let is : IsThere b slot w = there slot w here in
      let head : counts_in b.words.kept ≡ b.counts = head_is b holds in
      record {
        queue = is.queue;
        has = at_listed b.recovery b.creation holds.directory slot is.queue is.has;
        shape = is.shape ∙ ap (λ (c : Counts). shape_of is.queue.kind c) (sym head);
        block = ap (λ (ws : Words). ws.kept) is.words ∙ ap (λ (c : Counts). kept_block c slot b.words.kept) (sym head);
      }

-- What a slot has, by the directory, and its words in fresh records.
use Rattle.std.proofs.Common.{◌≡◌, ◌<◌, ℕ, List, Option, Some, None, Result, Ok, Err, slice_get, refl, sym, ap, subst, ◌∙◌, length, slice_index_or, arith}
use Rattle.std.specs.Prelude.{IfErr, IfOk, IfSome, OnOk}
use Rattle.persist.specs.Memory.{Words}
use Rattle.arena.specs.Broker.{block_in}
use Rattle.arena.specs.Form.{running}
use Rattle.arena.specs.Shape.{Counts, Shape, shape_of}
use Rattle.sound_words.specs.Kept.{kept_in}
use Rattle.sound_words.specs.Sound.{AreSoundWords}
use Rattle.directory.specs.Directory.{Directory, IsDirectory}
use Rattle.directory.specs.Queue.{slot_in}
use Rattle.directory.specs.Sound.{counts_in}
use Rattle.directory.specs.declared.queue.Queue.{Queue}
use Rattle.directory.proofs.Facts.{directory_at}
use Rattle.migration.proofs.Facts.{listed}
use Rattle.renewal.specs.Words.{ItemsFit, block_renewed, renewal_of}
use Rattle.renewal.specs.Broker.{BlockFits, MayBeRenewedTo, SlotFits, slot_block_renewed, slot_renewed}

pub same_queue : (x y : Option Queue) → ◌≡◌ {A = Option (Option Queue)} (Some x) (Some y) → x ≡ y
same_queue x y e = cc

module _ (ws : Words) (counts to : Counts) (directory : Directory) (h : MayBeRenewedTo ws counts directory to) (slot : ℕ) (queue : Option Queue)
    (at : slice_get directory slot ≡ Some queue) where
  pub sound_at : IfSome queue (λ q. AreSoundWords (shape_of q.kind counts) (block_in running counts slot ws.kept))
  sound_at = go queue at
    where
      go : (o : Option Queue) → slice_get directory slot ≡ Some o → IfSome o (λ q. AreSoundWords (shape_of q.kind counts) (block_in running counts slot ws.kept))
      go None e = tt
      go (Some q) e =
          subst (λ (c : Counts). AreSoundWords (shape_of q.kind c) (block_in running c slot ws.kept)) (sym h.counts_are)
          (h.blocks slot q (subst (λ (d : Directory). slice_get d slot ≡ Some (Some q)) h.directory_is e))

  queue_is : slot < 8 → queue ≡ slot_in ws.kept slot
  queue_is below =
      same_queue queue (slot_in ws.kept slot)
      (sym at ∙ ap (λ (d : Directory). slice_get d slot) h.directory_is ∙ directory_at ws.kept slot below)

  pub words_are : slot < 8 → slot_renewed to counts queue (block_in running counts slot ws.kept) ≡ slot_block_renewed to (counts_in ws.kept) ws.kept slot
  words_are below =
      ap (λ (c : Counts). slot_renewed to c queue (block_in running c slot ws.kept)) h.counts_are
      ∙ ap (λ (q : Option Queue). slot_renewed to (counts_in ws.kept) q (block_in running (counts_in ws.kept) slot ws.kept)) (queue_is below)

  pub fits_are : slot < 8 → SlotFits to counts queue (block_in running counts slot ws.kept) ≡ BlockFits to ws.kept slot
  fits_are below =
      ap (λ (c : Counts). SlotFits to c queue (block_in running c slot ws.kept)) h.counts_are
      ∙ ap (λ (q : Option Queue). SlotFits to (counts_in ws.kept) q (block_in running (counts_in ws.kept) slot ws.kept)) (queue_is below)

-- what the directory has in the slot
pub entry : (places directory : Directory) (slot : ℕ) (queue : Option Queue) → places ≡ directory → IsDirectory directory → slot < 8
    → slice_get directory slot ≡ Some (slice_index_or places slot queue)
entry places directory slot queue same is below =
    let count : length places ≡ length directory = ap length same in
    listed places directory slot queue same (omega (arith, count, is.count, below))

-- the words of a queue's block, as its slot's
pub renewed_as : (o : Option Queue) (q : Queue) (to c : Counts) (old new : Shape) (block ws : List ℕ) → o ≡ Some q → old ≡ shape_of q.kind c
    → new ≡ shape_of q.kind to → block ≡ ws → block_renewed (renewal_of new old (kept_in old block)) ≡ slot_renewed to c o ws
renewed_as o q to c old new block ws o_is old_is new_is block_is =
    ap (λ (s : Shape). block_renewed (renewal_of s old (kept_in old block))) new_is
    ∙ ap (λ (s : Shape). block_renewed (renewal_of (shape_of q.kind to) s (kept_in s block))) old_is
    ∙ ap (λ (xs : List ℕ). block_renewed (renewal_of (shape_of q.kind to) (shape_of q.kind c) (kept_in (shape_of q.kind c) xs))) block_is
    ∙ sym (ap (λ (x : Option Queue). slot_renewed to c x ws) o_is)

-- and whether its items fit
pub fits_as : (o : Option Queue) (q : Queue) (to c : Counts) (old new : Shape) (block ws : List ℕ) → o ≡ Some q → old ≡ shape_of q.kind c
    → new ≡ shape_of q.kind to → block ≡ ws → ItemsFit new old block ≡ SlotFits to c o ws
fits_as o q to c old new block ws o_is old_is new_is block_is =
    ap (λ (s : Shape). ItemsFit s old block) new_is
    ∙ ap (λ (s : Shape). ItemsFit (shape_of q.kind to) s block) old_is
    ∙ ap (λ (xs : List ℕ). ItemsFit (shape_of q.kind to) (shape_of q.kind c) xs) block_is
    ∙ sym (ap (λ (x : Option Queue). SlotFits to c x ws) o_is)

-- what is known of a result tells something else of it
pub if_ok : {A E : Type 0} (P Q : A → Type 0) (r : Result A E) → ((x : A) → P x → Q x) → IfOk r P → IfOk r Q
if_ok P Q (Ok x) f p = f x p
if_ok P Q (Err _) f p = tt

pub on_ok : {A E P Q : Type 0} (r : Result A E) → (P → Q) → OnOk r P → OnOk r Q
on_ok (Ok _) f p = f p
on_ok (Err _) f p = tt

pub all_ok : {A E P : Type 0} (r : Result A E) → P → OnOk r P
all_ok (Ok _) p = p
all_ok (Err _) p = tt

pub if_err : {A E : Type 0} (P Q : E → Type 0) (r : Result A E) → ((e : E) → r ≡ Err e → P e → Q e) → IfErr r P → IfErr r Q
if_err P Q (Ok _) f p = tt
if_err P Q (Err e) f p = f e refl p

-- The directory of words whose head is followed by the same words.
use Rattle.std.proofs.Common.{◌≡◌, ℕ, ◌<◌, ◌≤◌, List, Option, Some, None, slice_index, sym, ◌∙◌, ap, arith}
use Rattle.std.specs.Prelude.{◌==◌, if◌then◌else◌}
use Rattle.std.proofs.lemmas.List.FromFn.{length-map-range_with_len}
use Rattle.directory.specs.Queue.{directory_of, first_name_at, gate_at, kind_at, queue_in, second_name_at, slot_in}
use Rattle.directory.specs.declared.queue.Queue.{Queue}
use Rattle.directory.proofs.Facts.{directory_at, directory_is, queue_of-same}

module _ (ws new : List ℕ) (word_same : (w : ℕ) → 2 ≤ w → w < 34 → slice_index new w ≡ slice_index ws w) where
  pub gate_same : (slot : ℕ) → slot < 8 → slice_index new (gate_at slot) ≡ slice_index ws (gate_at slot)
  gate_same slot below = word_same (gate_at slot) (omega arith) (omega (arith, below))

  pub queue_same : (slot : ℕ) → slot < 8 → queue_in new slot ≡ queue_in ws slot
  queue_same slot below =
      queue_of-same _ _ _ _ _ _ (word_same (first_name_at slot) (omega arith) (omega (arith, below)))
      (word_same (second_name_at slot) (omega arith) (omega (arith, below))) (word_same (kind_at slot) (omega arith) (omega (arith, below)))

  pub slot_same : (slot : ℕ) → slot < 8 → slot_in new slot ≡ slot_in ws slot
  slot_same slot below =
      ap (λ (g : ℕ). if g == 1 then queue_in new slot else None) (gate_same slot below)
      ∙ ap (λ (q : Option Queue). if slice_index ws (gate_at slot) == 1 then q else None) (queue_same slot below)

  pub directory_same : directory_of new ≡ directory_of ws
  unfolding directory_of
  directory_same =
      directory_is new (directory_of ws) (length-map-range_with_len (slot_in ws) 0 8)
      (λ slot below. directory_at ws slot below ∙ ap Some (sym (slot_same slot below)))

-- A new queue over words that are all zero.
use Rattle.std.proofs.Common.{◌≡◌, ℕ, ◌≤◌, inl, inr, List, length, replicate, slice_index, sym, ap, ◌∙◌, subst, arith}
use Rattle.std.proofs.lemmas.List.{length-replicate}
use Rattle.persist.specs.Memory.{Words}
use Rattle.arena.specs.Layout.{size_of, word_at}
use Rattle.arena.specs.Ranges.{Fits}
use Rattle.arena.specs.Shape.{Shape}
use Rattle.arena.specs.declared.place.Place.{Place}
use Rattle.protocol.specs.Machine.{World, Memory}
use Rattle.protocol.proofs.Facts.{zero_fits}
use Rattle.sound_words.specs.Sound.{SizeIsSound}
use Rattle.interleave.specs.Floors.{AreFloorsRightIn}
use Rattle.interleave.specs.Holds.{Holds, Invariant}
use Rattle.interleave.specs.Queue.{new_queue}
use Rattle.interleave.specs.Ranges.{AllFit, AreUnused, WordsFit}
use Rattle.interleave.specs.Reuse.{AreAccountedFor}
use Rattle.interleave.specs.State.{machine, new_world, world_over}
use Rattle.interleave.specs.Values.{memory_by_place, value_of_place}
use Rattle.interleave.proofs.machine.Holding.{holds_new, new_kind}
use Rattle.interleave.proofs.words.Values.{shown_zero, zero_at}

module _ (s : Shape) (ws : Words) (unused : AreUnused s ws) where
  room_of : SizeIsSound s ws.kept → size_of s ≤ length ws.kept
  room_of (inl same) = omega (arith, same)
  room_of (inr block) = block.room

  long : length ws.cached ≡ length ws.kept
  long = ap (λ (xs : List ℕ). length xs) unused.cached ∙ length-replicate (length ws.kept) 0

  fit : (p : Place) → Fits s p (slice_index (replicate (length ws.kept) 0) (word_at s p))
  fit p = subst (Fits s p) (sym (zero_at (length ws.kept) (word_at s p))) (zero_fits s p)

  words_fit : WordsFit s ws
  words_fit = record {
    room = omega (arith, room_of unused.count, long);
    same = sym long;
    cached_count = subst (SizeIsSound s) (unused.kept ∙ sym unused.cached) unused.count;
    count = unused.count;
    cached = subst (AllFit s) (sym unused.cached) (λ p at read. fit p);
    kept = subst (AllFit s) (sym unused.kept) (λ p at read. fit p);
  }

  -- its words by their places are those of a new world
  shown : memory_by_place s ws ≡ memory_by_place s (new_world s).words
  shown =
      let none : value_of_place s (replicate (length ws.kept) 0) ≡ value_of_place s (replicate (size_of s) 0) =
      shown_zero s (length ws.kept) ∙ sym (shown_zero s (size_of s)) in
      let zero : Place → ℕ = value_of_place s (replicate (size_of s) 0) in
      ap (λ (f : Place → ℕ). let m : Memory = record { cached = f; kept = value_of_place s ws.kept } in m) (ap (value_of_place s) unused.cached ∙ none)
      ∙ ap (λ (f : Place → ℕ). let m : Memory = record { cached = zero; kept = f } in m) (ap (value_of_place s) unused.kept ∙ none)

  machine_over : machine (world_over s ws) ≡ machine (new_world s)
  machine_over = ap (λ (m : Memory). let w : World = record (machine (new_world s)) { memory = m } in w) shown

  pub holds_over : 1 ≤ s.clients → s.clients ≤ 16 → Holds (world_over s ws)
  holds_over some few =
      let new : Holds (new_world s) = holds_new s some few (new_kind s.kind s.clients) in
      record {
        safe = record { words = words_fit; clients = new.safe.clients; few = few; calls_fit = new.safe.calls_fit };
        kind = new.kind;
        inv = subst Invariant (sym machine_over) new.inv;
        numbers = new.numbers;
        floors = subst (AreFloorsRightIn (new_queue s.kind s.clients)) (sym machine_over) new.floors;
        records = subst AreAccountedFor (sym machine_over) new.records;
      }

-- What holds of a world that begins on sound words.
use Rattle.std.proofs.Common.{◌≡◌, ℕ, ◌≤◌, inl, inr, Bool, true, false, List, length, Option, None, replicate, slice_index, slice_index_or, if◌then◌else◌, refl, sym, ap, subst, arith}
use Rattle.std.proofs.lemmas.List.{length-replicate}
use Rattle.std.proofs.lemmas.List.FromFn.{length-map-range_with_len}
use mathlib.Core.Path.{fun_ext}
use Rattle.words.specs.declared.call.Kind.{Kind}
use Rattle.words.specs.declared.call.Kind.TheVariants.{Durable as durable_kind, Log as log_kind}
use Rattle.words.specs.declared.told.Told.{Told}
use Rattle.persist.specs.Memory.{Words, words_after_crash}
use Rattle.arena.specs.Layout.{size_of, word_at}
use Rattle.arena.specs.Place.{IsPlace}
use Rattle.arena.specs.Ranges.{Fits, IsReadByCalls}
use Rattle.arena.specs.Shape.{Shape}
use Rattle.arena.specs.declared.place.Place.{Place}
use Rattle.recover.specs.Table.{boot_recovery}
use Rattle.sound_words.specs.Sound.{AreSoundWords, SizeIsSound}
use Rattle.sound_words.specs.Kept.{kept_in}
use Rattle.sound_words.specs.Told.{told_by, tells_by}
use Rattle.sound_words.proofs.Facts.{tells_like}
use Rattle.protocol.specs.Booted.{MayBoot, world_at_boot}
use Rattle.protocol.specs.Machine.{World}
use Rattle.protocol.specs.declared.UnderWay.{UnderWay}
use Rattle.protocol.proofs.Facts.{boots, kept_fits, may_boot}
use Rattle.interleave.specs.Booted.{queue_at_boot, booted_world}
use Rattle.interleave.specs.Holds.{Holds, Invariant, to_invariant}
use Rattle.interleave.specs.Ranges.{WordsFit, IfCall, IsOfKind}
use Rattle.interleave.specs.Values.{value_of_place, is_place}
use Rattle.interleave.specs.State.{machine}
use Rattle.interleave.proofs.machine.Holding.{no_call}
use Rattle.interleave.proofs.numbers.Numbers.{numbers_booted}
use Rattle.interleave.proofs.numbers.Floors.{floors_down}
use Rattle.interleave.proofs.records.Accounts.{accounted_none}
use Rattle.interleave.proofs.words.Values.{shown_at, is_place-from}

-- a place that the layout does not have is shown with 0
nowhere : (s : Shape) (ws : List ℕ) (p : Place) → (IsPlace s p → ⊥) → value_of_place s ws p ≡ 0
nowhere s ws p not = go (is_place s p) refl
  where
    go : (b : Bool) → is_place s p ≡ b → (if b then slice_index ws (word_at s p) else 0) ≡ 0
    go true e = absurd (not (is_place-from s p e))
    go false e = refl

kind_told : (kind : Kind) (told : List Told) → IsOfKind kind (queue_at_boot kind told)
kind_told durable_kind told = tt
kind_told log_kind told = tt

room_of : (s : Shape) (ws : List ℕ) → SizeIsSound s ws → size_of s ≤ length ws
room_of s ws (inl e) = omega (arith, e)
room_of s ws (inr b) = b.room

module _ (s : Shape) (ws : Words) (some : 1 ≤ s.clients) (few : s.clients ≤ 16) (sound : AreSoundWords s ws.kept) where
  -- the words are such that a queue may begin on them
  may : MayBoot s (value_of_place s ws.kept)
  may = may_boot s (kept_in s ws.kept) (value_of_place s ws.kept) some few sound.sound (λ p at. shown_at s ws.kept p at) (λ p not. nowhere s ws.kept p not)

  in_range : (p : Place) → IsPlace s p → IsReadByCalls p → Fits s p (slice_index ws.kept (word_at s p))
  in_range p at read = subst (Fits s p) (shown_at s ws.kept p at) (kept_fits (world_at_boot s (value_of_place s ws.kept) (tells_by s (value_of_place s ws.kept))) (boots s (value_of_place s ws.kept) may) p read)

  -- they are in range
  pub booted_fit : WordsFit s (words_after_crash ws)
  booted_fit = record { room = room_of s ws.kept sound.count; same = refl; cached_count = sound.count; count = sound.count; cached = in_range; kept = in_range }

  -- what they tell, by the places that the layout has
  pub booted_tells : tells_by s (kept_in s ws.kept) ≡ tells_by s (value_of_place s ws.kept)
  booted_tells = sym (tells_like s (kept_in s ws.kept) (value_of_place s ws.kept) (λ p at. shown_at s ws.kept p at) sound.sound)

module _ (s : Shape) (ws : Words) (some : 1 ≤ s.clients) (few : s.clients ≤ 16)
    (sound : AreSoundWords s ws.kept) where
  -- the world is the machine that begins on the words
  booted_is : machine (booted_world s ws) ≡ world_at_boot s (value_of_place s ws.kept) (tells_by s (value_of_place s ws.kept))
  booted_is =
      let calls : (λ (j : ℕ). slice_index_or (replicate s.clients (let x : Option UnderWay = None in x)) j None) ≡ (λ j. None) = fun_ext (no_call s.clients) in
      ap (λ (f : ℕ → Option UnderWay). let x : World = record (machine (booted_world s ws)) { calls = f } in x) calls

  pub holds_booted : Holds (booted_world s ws)
  holds_booted =
      record {
        safe = record {
          words = booted_fit s ws some few sound;
          clients = length-replicate s.clients None;
          few = few;
          calls_fit = λ t. subst (IfCall s) (sym (no_call s.clients t)) tt;
        };
        kind = kind_told s.kind (tells_by s (value_of_place s ws.kept));
        inv = subst Invariant (sym booted_is) (to_invariant _ (boots s (value_of_place s ws.kept) (may s ws some few sound)));
        numbers = numbers_booted s.kind (tells_by s (value_of_place s ws.kept)) (length-map-range_with_len (told_by s (value_of_place s ws.kept)) 0 16);
        floors = floors_down (machine (booted_world s ws)) (no_call s.clients) boot_recovery refl (booted_world s ws).queue;
        records = accounted_none (machine (booted_world s ws)) refl;
      }

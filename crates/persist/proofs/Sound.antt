-- What follows from the parts of a memory being sound.
use Rattle.std.proofs.Common.{◌≡◌, ◌==◌, ℕ, ◌<◌, ◌≤◌, ◌⊎◌, inl, inr, List, length, slice_index, Option, Some, None, if◌then◌else◌, refl, sym, ap, ◌∙◌, subst, arith}
use Rattle.std.proofs.lemmas.Bool.{cases_lt}
use Rattle.std.proofs.lemmas.Bool.Decides.{eqb_tells}
use Rattle.std.proofs.Math.ListN.{get_or-eq_default}
use Rattle.persist.specs.ChangeList.{Entries, Listing, get, or_kept, overlaid}
use Rattle.persist.specs.Changes.{differences, IsSound}
use Rattle.persist.proofs.Differences.{difference_at, is_differences, fewer}
use Rattle.persist.specs.Memory.{Words}
use Rattle.persist.proofs.Overlays.{length_overlay, value_at}
use Rattle.persist.proofs.Shown.{shown}

module _ (kept : List ℕ) (listing : Listing) (sound : IsSound kept listing) where
  -- the entries are the differences of the cached and the kept words
  pub listed_differences : listing.entries ≡ differences (overlaid kept listing.entries) kept
  listed_differences = is_differences kept es cached (omega (arith, length_overlay 0 kept es)) sound.ascending (λ w. at w (cases_lt w (length kept)) (get es w) refl)
    where
      es : Entries
      es = listing.entries

      cached : List ℕ
      cached = overlaid kept es

      differs : (w : ℕ) → w < length kept → (o : Option ℕ) → get es w ≡ o → (x : ℕ) → x ≡ or_kept o (slice_index kept w)
          → o ≡ (if x == slice_index kept w then None else Some x)
      differs w h None e x is = elim (eqb_tells x (slice_index kept w)) [ inl t ↦ rw t.0 refl | inr t ↦ absurd (t.1 is) ]
      differs w h (Some v) e x is = elim (eqb_tells x (slice_index kept w)) [
        | inl t ↦ absurd (sound.exact.other w v e (sym is ∙ t.1))
        | inr t ↦ rw t.0 (ap Some (sym is))
      ]

      at : (w : ℕ) → (w < length kept) ⊎ (length kept ≤ w) → (o : Option ℕ) → get es w ≡ o → get es w ≡ difference_at cached kept w
      at w (inl h) o e = differs w h (get es w) refl (slice_index cached w) (value_at kept es w h)
      at w (inr h) (Some v) e = absurd (omega (arith, sound.exact.within w v e))
      at w (inr h) None e =
          let here : slice_index cached w ≡ 0 = get_or-eq_default cached 0 (omega (arith, length_overlay 0 kept es)) in
          let there : slice_index kept w ≡ 0 = get_or-eq_default kept 0 h in
          e ∙ rw (here, there) refl

  -- so they are those of what is shown of them
  pub shown_differences : (accesses : ℕ) (ws : Words) → shown kept listing.entries accesses ≡ ws → listing.entries ≡ differences ws.cached ws.kept
  shown_differences accesses ws is = listed_differences ∙ ap (λ (ws : Words). differences ws.cached ws.kept) is

  -- there is room for a word that is not listed
  pub room_left : (w : ℕ) → w < length kept → get listing.entries w ≡ None → length listing.entries < listing.room
  room_left w below none =
      let long = length_overlay 0 kept listing.entries in
      let few = fewer kept (overlaid kept listing.entries) w (omega (arith, long)) (subst (λ (es : Entries). get es w ≡ None) listed_differences none) in
      omega (arith, few, long, ap length listed_differences, sound.room)

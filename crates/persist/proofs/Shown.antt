-- The words that a memory shows, by its kept words and its list, and what each edit of these makes of them.
use Rattle.std.proofs.Common.{◌≡◌, ◌≢◌, ℕ, ◌<◌, inl, inr, List, length, slice_index, slice_set, Option, Some, None, Bool, if◌then◌else◌, sym, ap, ◌∙◌, subst, arith}
use Rattle.std.proofs.lemmas.Bool.Decides.{eqb_tells}
use Rattle.std.proofs.lemmas.List.{set-get_or}
use Rattle.persist.specs.Memory.{MemoryState, Words, words_after_store, words_after_eviction}
use Rattle.persist.specs.ChangeList.{Entries, get, or_kept, overlaid, RemovesOnly}
use Rattle.persist.specs.Changes.{change_of}
use Rattle.persist.specs.declared.access.Change.{Change}
use Rattle.persist.proofs.Overlays.{length_overlay, value_at, overlaid_set, overlaid_kept}

-- what is shown of kept words, entries and a count of accesses
abbrev pub shown : List ℕ → Entries → ℕ → Words
shown kept entries accesses = record { cached = overlaid kept entries; kept = kept; accesses = accesses }

-- a memory with other words, and what was asked for as before
pub with_words : (asked : List (Option ℕ)) (m : MemoryState) → asked ≡ m.asked → (ws new : Words) → ws ≡ new
    → (let was : MemoryState = record { words = ws; asked = asked } in was) ≡ record m { words = new }
with_words asked m same ws new e =
    ap (λ (ws : Words). let was : MemoryState = record { words = ws; asked = asked } in was) e
    ∙ ap (λ (asked : List (Option ℕ)). let now : MemoryState = record { words = new; asked = asked } in now) same

-- a fence of a word with no entry changes nothing
no_change : (ws : Words) (w : ℕ) → slice_index ws.cached w ≡ slice_index ws.kept w → None ≡ change_of ws w
no_change ws w same =
    let made : Option Change = Some (record { word = w; old = slice_index ws.kept w; new = slice_index ws.cached w }) in
    elim (eqb_tells (slice_index ws.kept w) (slice_index ws.cached w)) [
      | inl t ↦ sym (ap (λ (b : Bool). let r : Option Change = if b then None else made in r) t.0)
      | inr t ↦ absurd (t.1 (sym same))
    ]

-- a fence of a word with an entry changes its kept value to the entry's
change_to : (ws : Words) (w v : ℕ) → slice_index ws.cached w ≡ v → v ≢ slice_index ws.kept w
    → (let made : Option Change = Some (record { word = w; old = slice_index ws.kept w; new = v }) in made) ≡ change_of ws w
change_to ws w v is differs =
    let made : ℕ → Option Change = λ n. Some (record { word = w; old = slice_index ws.kept w; new = n }) in
    elim (eqb_tells (slice_index ws.kept w) (slice_index ws.cached w)) [
      | inl t ↦ absurd (differs (sym is ∙ sym t.1))
      | inr t ↦ ap made (sym is) ∙ sym (ap (λ (b : Bool). let r : Option Change = if b then None else made (slice_index ws.cached w) in r) t.0)
    ]

module _ (kept : List ℕ) (entries : Entries) (accesses : ℕ) (ws : Words) (is : shown kept entries accesses ≡ ws) (w : ℕ) (inside : w < length ws.cached) where
  pub below : w < length kept
  below = omega (arith, subst (λ (ws : Words). w < length ws.cached) (sym is) inside, length_overlay 0 kept entries)

  -- the cached value is the listed one, else the kept one
  pub cached_at : (o : Option ℕ) → o ≡ get entries w → or_kept o (slice_index kept w) ≡ slice_index ws.cached w
  cached_at o found = ap (λ (o : Option ℕ). or_kept o (slice_index kept w)) found ∙ sym (value_at kept entries w below) ∙ ap (λ (ws : Words). slice_index ws.cached w) is

  -- a store is an edit of this word's entry
  pub stored : (new : Entries) (v : ℕ) → or_kept (get new w) (slice_index kept w) ≡ v → ((q : ℕ) → q ≢ w → get new q ≡ get entries q)
      → shown kept new accesses ≡ words_after_store w v ws
  stored new v here others =
      ap (λ (cached : List ℕ). let now : Words = record { cached = cached; kept = kept; accesses = accesses } in now) (overlaid_set kept entries new w v below here others)
      ∙ ap (words_after_store w v) is

  -- an eviction of a word with no entry changes nothing
  pub stays : None ≡ get entries w → ws ≡ words_after_eviction w ws
  stays none =
      let same = ap (slice_set kept w) (value_at kept entries w below ∙ ap (λ (o : Option ℕ). or_kept o (slice_index kept w)) (sym none)) ∙ set-get_or kept w 0 in
      sym is
      ∙ ap (λ (l : List ℕ). let now : Words = record { cached = overlaid kept entries; kept = l; accesses = accesses } in now) (sym same)
      ∙ ap (words_after_eviction w) is

  pub stays_told : None ≡ get entries w → None ≡ change_of ws w
  stays_told none = no_change ws w (sym (cached_at None none) ∙ ap (λ (ws : Words). slice_index ws.kept w) is)

  -- an eviction of a word with an entry keeps the entry's value, and the entry goes
  pub evicted : (new : Entries) (v : ℕ) → Some v ≡ get entries w → RemovesOnly entries new w → shown (slice_set kept w v) new accesses ≡ words_after_eviction w ws
  evicted new v found removes =
      let here = value_at kept entries w below ∙ ap (λ (o : Option ℕ). or_kept o (slice_index kept w)) (sym found) in
      ap (λ (cached : List ℕ). let now : Words = record { cached = cached; kept = slice_set kept w v; accesses = accesses } in now) (overlaid_kept kept entries new w v below here removes)
      ∙ ap (λ (v : ℕ). let now : Words = record { cached = overlaid kept entries; kept = slice_set kept w v; accesses = accesses } in now) (sym here)
      ∙ ap (words_after_eviction w) is

  pub evicted_told : (old v : ℕ) → old ≡ slice_index kept w → Some v ≡ get entries w → v ≢ slice_index kept w
      → (let made : Option Change = Some (record { word = w; old = old; new = v }) in made) ≡ change_of ws w
  evicted_told old v was found differs =
      let kept_is : slice_index kept w ≡ slice_index ws.kept w = ap (λ (ws : Words). slice_index ws.kept w) is in
      ap (λ (n : ℕ). let made : Option Change = Some (record { word = w; old = n; new = v }) in made) (was ∙ kept_is)
      ∙ change_to ws w v (sym (cached_at (Some v) found)) (λ same. differs (same ∙ sym kept_is))

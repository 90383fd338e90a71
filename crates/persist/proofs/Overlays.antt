-- The cached values, as the kept ones with the entries laid over.
use Rattle.std.proofs.Common.{◌≡◌, ◌≢◌, ℕ, zero, suc, ◌+◌, ◌<◌, ◌⊎◌, inl, inr, List, [], ◌∷◌, length, get_or, slice_index, slice_set, refl, sym, ap, ◌∙◌, subst, arith, length-set}
use Rattle.std.proofs.lemmas.Bool.{cases_eq}
use Rattle.std.proofs.lemmas.List.{get_or-set_same, get_or-set_other}
use Rattle.std.proofs.lemmas.Grind.{same_number_lists}
use Rattle.persist.specs.ChangeList.{Entries, get, or_kept, overlay, overlaid, RemovesOnly}

pub length_overlay : (at : ℕ) (xs : List ℕ) (ps : Entries) → length (overlay at xs ps) ≡ length xs
length_overlay at [] ps = refl
length_overlay at (x ∷ xs) ps = ap suc (length_overlay (suc at) xs ps)

get_or-overlay : (at : ℕ) (xs : List ℕ) (ps : Entries) (j : ℕ) → j < length xs → get_or (overlay at xs ps) j 0 ≡ or_kept (get ps (at + j)) (get_or xs j 0)
get_or-overlay at [] ps j h = absurd (omega arith)
get_or-overlay at (x ∷ xs) ps zero h = ap (λ n. or_kept (get ps n) x) (let e : at ≡ at + 0 = omega arith in e)
get_or-overlay at (x ∷ xs) ps (suc j) h = get_or-overlay (suc at) xs ps j (omega arith) ∙ ap (λ n. or_kept (get ps n) (get_or xs j 0)) (let e : suc at + j ≡ at + suc j = omega arith in e)

pub value_at : (k : List ℕ) (ps : Entries) (w : ℕ) → w < length k → slice_index (overlaid k ps) w ≡ or_kept (get ps w) (slice_index k w)
value_at k ps w h = get_or-overlay 0 k ps w h ∙ ap (λ n. or_kept (get ps n) (slice_index k w)) (let e : 0 + w ≡ w = omega arith in e)

pub overlay_none : (at : ℕ) (xs : List ℕ) → overlay at xs [] ≡ xs
overlay_none at [] = refl
overlay_none at (x ∷ xs) = ap (λ l. x ∷ l) (overlay_none (suc at) xs)

-- the word has this value now, and every other word what it had
pub overlaid_set : (k : List ℕ) (ps new : Entries) (w v : ℕ) → w < length k → or_kept (get new w) (slice_index k w) ≡ v → ((q : ℕ) → q ≢ w → get new q ≡ get ps q)
    → overlaid k new ≡ slice_set (overlaid k ps) w v
overlaid_set k ps new w v h here others = same_number_lists (overlaid k new) (slice_set (overlaid k ps) w v) long at
  where
    long : length (overlaid k new) ≡ length (slice_set (overlaid k ps) w v)
    long = length_overlay 0 k new ∙ sym (length_overlay 0 k ps) ∙ sym (length-set (overlaid k ps) w v)

    at : (j : ℕ) → j < length (overlaid k new) → get_or (overlaid k new) j 0 ≡ get_or (slice_set (overlaid k ps) w v) j 0
    at j lt = go (cases_eq j w)
      where
        go : (j ≡ w) ⊎ (j ≡ w → ⊥) → get_or (overlaid k new) j 0 ≡ get_or (slice_set (overlaid k ps) w v) j 0
        go (inl e) = subst (λ n. get_or (overlaid k new) n 0 ≡ get_or (slice_set (overlaid k ps) w v) n 0) (sym e)
            (value_at k new w h ∙ here ∙ sym (get_or-set_same (overlaid k ps) w v 0 (omega (arith, length_overlay 0 k ps))))
        go (inr ne) =
            let below : j < length k = omega (arith, length_overlay 0 k new) in
            value_at k new j below ∙ ap (λ o. or_kept o (slice_index k j)) (others j ne) ∙ sym (value_at k ps j below) ∙ sym (get_or-set_other (overlaid k ps) w j v 0 ne)

-- what is kept now was the cached value, so the cached values stay
pub overlaid_kept : (k : List ℕ) (ps new : Entries) (w v : ℕ) → w < length k → slice_index (overlaid k ps) w ≡ v → RemovesOnly ps new w → overlaid (slice_set k w v) new ≡ overlaid k ps
overlaid_kept k ps new w v h was removes = same_number_lists (overlaid (slice_set k w v) new) (overlaid k ps) long at
  where
    long : length (overlaid (slice_set k w v) new) ≡ length (overlaid k ps)
    long = length_overlay 0 (slice_set k w v) new ∙ length-set k w v ∙ sym (length_overlay 0 k ps)

    at : (j : ℕ) → j < length (overlaid (slice_set k w v) new) → get_or (overlaid (slice_set k w v) new) j 0 ≡ get_or (overlaid k ps) j 0
    at j lt = go (cases_eq j w)
      where
        below : j < length (slice_set k w v)
        below = omega (arith, length_overlay 0 (slice_set k w v) new)

        go : (j ≡ w) ⊎ (j ≡ w → ⊥) → get_or (overlaid (slice_set k w v) new) j 0 ≡ get_or (overlaid k ps) j 0
        go (inl e) = subst (λ n. get_or (overlaid (slice_set k w v) new) n 0 ≡ get_or (overlaid k ps) n 0) (sym e)
            (value_at (slice_set k w v) new w (omega (arith, length-set k w v)) ∙ ap (λ o. or_kept o (slice_index (slice_set k w v) w)) removes.this_word ∙ get_or-set_same k w v 0 h ∙ sym was)
        go (inr ne) =
            value_at (slice_set k w v) new j below ∙ ap (λ o. or_kept o (slice_index (slice_set k w v) j)) (removes.other_words j ne) ∙ ap (or_kept (get ps j)) (get_or-set_other k w j v 0 ne) ∙ sym (value_at k ps j (omega (arith, below, length-set k w v)))

-- Lists of places that are filled one after another.
use Rattle.std.proofs.Common.{◌≡◌, ◌≢◌, ℕ, ◌+◌, ◌<◌, ◌⊎◌, inl, inr, List, [], Option, None, length, slice_index_or, slice_set, ap, sym, subst, ◌∙◌, arith, get_or-set_other}
use Rattle.std.proofs.lemmas.Bool.{cases_eq}
use Rattle.std.proofs.lemmas.List.{get_or-set_same}
use Rattle.words.specs.declared.told.Verdict.{Verdict}
use Rattle.session.specs.Keeping.{IsKeptNow}
use Rattle.session.specs.Sessions.{kept_in}

-- what holds of each place below this one, and of what is put here, holds of each below the next
pub one_more_place : {A : Type 0} (p : ℕ → A → Type 0) (xs : List A) (n : ℕ) (x d : A) → n < length xs
    → ((k : ℕ) → k < n → p k (slice_index_or xs k d)) → p n x
    → (k : ℕ) → k < n + 1 → p k (slice_index_or (slice_set xs n x) k d)
one_more_place {A} p xs n x d inside so_far own k less = go (cases_eq k n)
  where
    go : (k ≡ n) ⊎ (k ≡ n → ⊥) → p k (slice_index_or (slice_set xs n x) k d)
    go (inl same) =
        subst (λ (i : ℕ). p i (slice_index_or (slice_set xs n x) i d)) (sym same)
        (subst (p n) (sym (get_or-set_same xs n x d inside)) own)
    go (inr ne) = subst (p k) (sym (get_or-set_other xs n k x d ne)) (so_far k (omega (arith, less, ne)))

-- this is kept in one place, and elsewhere what was
pub kept_now : (rows : List (List (Option Verdict))) (slot client : ℕ) (last : Option Verdict) → slot < length rows
    → client < length (slice_index_or rows slot [])
    → IsKeptNow rows (slice_set rows slot (slice_set (slice_index_or rows slot []) client last)) slot client last
kept_now rows slot client last inside few = record { here = here; others = others }
  where
    row : List (Option Verdict)
    row = slice_set (slice_index_or rows slot []) client last

    there : slice_index_or (slice_set rows slot row) slot [] ≡ row
    there = get_or-set_same rows slot row [] inside

    here : kept_in (slice_set rows slot row) slot client ≡ last
    here = ap (λ (r : List (Option Verdict)). slice_index_or r client None) there
        ∙ get_or-set_same (slice_index_or rows slot []) client last None few

    elsewhere : (at other : ℕ) → at ≢ slot → kept_in (slice_set rows slot row) at other ≡ kept_in rows at other
    elsewhere at other ne = ap (λ (r : List (Option Verdict)). slice_index_or r other None) (get_or-set_other rows slot at row [] ne)

    others : (at other : ℕ) → (at ≢ slot) ⊎ (other ≢ client)
        → kept_in (slice_set rows slot row) at other ≡ kept_in rows at other
    others at other (inl ne) = elsewhere at other ne
    others at other (inr ne) = go (cases_eq at slot)
      where
        go : (at ≡ slot) ⊎ (at ≡ slot → ⊥) → kept_in (slice_set rows slot row) at other ≡ kept_in rows at other
        go (inl same) = subst (λ (i : ℕ). kept_in (slice_set rows slot row) i other ≡ kept_in rows i other) (sym same)
            (ap (λ (r : List (Option Verdict)). slice_index_or r other None) there
            ∙ get_or-set_other (slice_index_or rows slot []) client other last None ne)
        go (inr far) = elsewhere at other far

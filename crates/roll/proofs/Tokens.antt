-- What a token knows stays so, whatever another token does.
use Rattle.std.proofs.Common.{◌≡◌, ◌≢◌, ℕ, ◌<◌, List, [], ◌∷◌, ◌++◌, length, set, eqb, Option, Some, slice_get}
use Rattle.std.proofs.Common.{IsTrue, true, false, true≢false, sym, ap, ◌∙◌, subst, ⊎_elim, arith}
use Rattle.std.specs.Map.{update}
use Rattle.std.proofs.lemmas.Map.{update_apart}
use Rattle.std.proofs.lemmas.Option.{slice_get_within, same_Some}
use mathlib.Core.Option.{some}
use lib.ListN.{get_elem?}
use Rattle.atomic_table.proofs.Lists.{at_set}
use Rattle.roll.specs.declared.law.View.{View}
use Rattle.roll.specs.Rule.{keeper, holder, keeper_and_holder, nobody, Fits, AllFit}
use Rattle.roll.proofs.Places.{get_set_else, get_longer, at_end_cases}

off : false ≡ true → ⊥
off e = true≢false (sym e)

module _ {E : Type 0} (k : ℕ) (rows : List (List E)) (owner : ℕ → Option ℕ) (j : ℕ) where
  -- a token of each kind
  pub keeper_fits : (known : List (List E)) → (j ≡ k) × (known ≡ rows) → Fits k rows owner j (keeper known)
  keeper_fits known knows = record { keeps = λ h. knows; holds = λ h. absurd (off h) }

  pub nobody_fits : Fits k rows owner j nobody
  nobody_fits = record { keeps = λ h. absurd (off h); holds = λ h. absurd (off h) }

  module _ (p : ℕ) (row : List E) (there : slice_get rows p ≡ Some row) (owns : owner p ≡ Some j) where
    pub holder_fits : Fits k rows owner j (holder p row)
    holder_fits = record { keeps = λ h. absurd (off h); holds = λ h. (there, owns) }

    pub keeper_and_holder_fits : (known : List (List E)) → (j ≡ k) × (known ≡ rows)
        → Fits k rows owner j (keeper_and_holder known p row)
    keeper_and_holder_fits known knows = record { keeps = λ h. knows; holds = λ h. (there, owns) }

  -- token j, which knows u, while token i acts
  module _ (u : View E) (fits : Fits k rows owner j u) (i : ℕ) (apart : j ≢ i) where
    no_keeper : i ≡ k → IsTrue u.keeps → ⊥
    no_keeper is h = apart ((fits.keeps h).0 ∙ sym is)

    other_place : (p : ℕ) → owner p ≡ Some i → IsTrue u.holds → u.place ≢ p
    other_place p owns h same = apart (same_Some j i (sym (fits.holds h).1 ∙ (ap owner same ∙ owns)))

    -- the keeper i adds a row
    pub fits_longer : i ≡ k → (row : List E)
        → Fits k (rows ++ row ∷ []) (update eqb owner (length rows) (Some i)) j u
    fits_longer is row = record { keeps = λ h. absurd (no_keeper is h); holds = λ h. still (fits.holds h) }
      where
        still : (slice_get rows u.place ≡ Some u.row) × (owner u.place ≡ Some j)
            → (slice_get (rows ++ row ∷ []) u.place ≡ Some u.row)
            × (update eqb owner (length rows) (Some i) u.place ≡ Some j)
        still was =
            let within : u.place < length rows = slice_get_within rows u.place u.row was.0 in (
              get_longer rows (row ∷ []) u.place u.row was.0,
              update_apart owner (length rows) (Some i) u.place (λ e. omega arith) ∙ was.1,
            )

    -- the keeper i writes the row that it holds
    pub fits_written : i ≡ k → (p : ℕ) → owner p ≡ Some i → (row : List E) → Fits k (set rows p row) owner j u
    fits_written is p owns row =
        record {
          keeps = λ h. absurd (no_keeper is h);
          holds = λ h. (
            get_set_else rows u.place p row (other_place p owns h) ∙ (fits.holds h).0,
            (fits.holds h).1,
          );
        }

    -- the row that i owns goes to another
    pub fits_moved : (p : ℕ) → owner p ≡ Some i → (new : ℕ) → Fits k rows (update eqb owner p (Some new)) j u
    fits_moved p owns new =
        record {
          keeps = fits.keeps;
          holds = λ h. (
            (fits.holds h).0,
            update_apart owner p (Some new) u.place (other_place p owns h) ∙ (fits.holds h).1,
          );
        }

module _ {E : Type 0} (k : ℕ) (rows : List (List E)) (owner : ℕ → Option ℕ) where
  -- at another name of the token
  pub fits_same : (i : ℕ) (w : View E) → Fits k rows owner i w → (j : ℕ) (u : View E) → (j ≡ i) × (w ≡ u)
      → Fits k rows owner j u
  fits_same i w fits j u same =
      subst (λ (y : ℕ × View E). Fits k rows owner y.0 y.1) (λ t. (sym same.0 t, same.1 t)) fits

module _ {E : Type 0} (k : ℕ) (rows : List (List E)) (owner : ℕ → Option ℕ) (views : List (View E)) where
  -- all tokens but i
  abbrev pub OthersFit : ℕ → Type 0
  OthersFit i = (j : ℕ) (u : View E) → j ≢ i → get_elem? views j ≡ some u → Fits k rows owner j u

  -- after a change of one view
  pub all_fit_set : (i : ℕ) (w : View E) → OthersFit i → Fits k rows owner i w → AllFit k rows owner (set views i w)
  all_fit_set i w others mine j u e =
      ⊎_elim
      (λ same. fits_same k rows owner i w mine j u same)
      (λ other. others j u other.0 other.1)
      (at_set views i j w u e)

  -- with one token more
  pub all_fit_push : (w : View E) → AllFit k rows owner views → Fits k rows owner (length views) w
      → AllFit k rows owner (views ++ w ∷ [])
  all_fit_push w old new j u e =
      ⊎_elim
      (λ was. old j u was)
      (λ last. fits_same k rows owner (length views) w new j u last)
      (at_end_cases views w u j e)

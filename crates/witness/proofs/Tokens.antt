-- What a token knows stays so, whatever another token does.
use Rattle.std.proofs.Common.{◌≡◌, ◌≢◌, ◌⊎◌, inl, inr, ℕ, zero, suc, List, [], ◌∷◌, ◌++◌, length, set, true, false}
use Rattle.std.proofs.Common.{true≢false, refl, sym, ap, ◌∙◌, subst, ⊎_elim}
use mathlib.Core.Option.{some, some-injective, some-ne-none}
use lib.ListN.{get_elem?}
use Rattle.atomic_table.proofs.Lists.{at_set}
use Rattle.witness.specs.declared.law.View.{View}
use Rattle.witness.specs.Rule.{AllFit, Begins, Fits, keeper, keeper_and_witness, nobody, witness, witness_of_both}
use Rattle.witness.proofs.Beginnings.{begins_all, begins_further}

off : false ≡ true → ⊥
off e = true≢false (sym e)

-- after a push a place is an old one, or the last
at_end_cases : {A : Type 0} (xs : List A) (x y : A) (k : ℕ) → get_elem? (xs ++ x ∷ []) k ≡ some y
    → (get_elem? xs k ≡ some y) ⊎ ((k ≡ length xs) × (x ≡ y))
at_end_cases [] x y zero e = inr (refl, some-injective x y e)
at_end_cases [] x y (suc k) e = absurd (some-ne-none y (sym e))
at_end_cases (z ∷ zs) x y zero e = inl e
at_end_cases (z ∷ zs) x y (suc k) e =
    ⊎_elim (λ old. inl old) (λ new. inr (ap suc new.0, new.1)) (at_end_cases zs x y k e)

module _ {E : Type 0} (k : ℕ) (row : List E) (j : ℕ) where
  -- a token of each kind
  pub keeper_fits : (known : List E) → (j ≡ k) × (known ≡ row) → Fits k row j (keeper known)
  keeper_fits known knows = record { keeps = λ h. knows; knows = λ h. absurd (off h) }

  pub nobody_fits : Fits k row j nobody
  nobody_fits = record { keeps = λ h. absurd (off h); knows = λ h. absurd (off h) }

  pub witness_fits : (begins : List E) → Begins begins row → Fits k row j (witness begins)
  witness_fits begins is = record { keeps = λ h. absurd (off h); knows = λ h. (is, begins_all row) }

  pub both_fit : (begins also : List E) → Begins begins row → Begins also row
      → Fits k row j (witness_of_both begins also)
  both_fit begins also one other = record { keeps = λ h. absurd (off h); knows = λ h. (one, other) }

  pub keeper_and_witness_fit : (known begins : List E) → (j ≡ k) × (known ≡ row) → Begins begins row
      → Fits k row j (keeper_and_witness known begins)
  keeper_and_witness_fit known begins knows is = record { keeps = λ h. knows; knows = λ h. (is, begins_all row) }

  -- token j, which knows u, while the keeper i makes the row longer
  pub fits_longer : (u : View E) → Fits k row j u → (i : ℕ) → j ≢ i → i ≡ k → (longer : List E)
      → Begins row longer → Fits k longer j u
  fits_longer u fits i apart is longer on = record {
    keeps = λ h. absurd (apart ((fits.keeps h).0 ∙ sym is));
    knows = λ h. (
      begins_further u.begins row longer (fits.knows h).0 on,
      begins_further u.also row longer (fits.knows h).1 on,
    );
  }

module _ {E : Type 0} (k : ℕ) (row : List E) where
  -- at another name of the token
  pub fits_same : (i : ℕ) (w : View E) → Fits k row i w → (j : ℕ) (u : View E) → (j ≡ i) × (w ≡ u)
      → Fits k row j u
  fits_same i w fits j u same =
      subst (λ (y : ℕ × View E). Fits k row y.0 y.1) (λ t. (sym same.0 t, same.1 t)) fits

module _ {E : Type 0} (k : ℕ) (row : List E) (views : List (View E)) where
  -- all tokens but i
  abbrev pub OthersFit : ℕ → Type 0
  OthersFit i = (j : ℕ) (u : View E) → j ≢ i → get_elem? views j ≡ some u → Fits k row j u

  -- after a change of one view
  pub all_fit_set : (i : ℕ) (w : View E) → OthersFit i → Fits k row i w → AllFit k row (set views i w)
  all_fit_set i w others mine j u e =
      ⊎_elim
      (λ same. fits_same k row i w mine j u same)
      (λ other. others j u other.0 other.1)
      (at_set views i j w u e)

  -- with one token more
  pub all_fit_push : (w : View E) → AllFit k row views → Fits k row (length views) w
      → AllFit k row (views ++ w ∷ [])
  all_fit_push w old new j u e =
      ⊎_elim
      (λ was. old j u was)
      (λ last. fits_same k row (length views) w new j u last)
      (at_end_cases views w u j e)

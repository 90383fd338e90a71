-- Each step of a row keeps what its tokens know right.
use Rattle.std.proofs.Common.{◌≡◌, ℕ, zero, suc, List, [], ◌∷◌, ◌++◌, length, set, ◌==◌}
use Rattle.std.proofs.Common.{refl, sym, ap, subst, ⊎_elim}
use mathlib.Core.Option.{none, some, some-ne-none, some-injective}
use prog.Atomic.{either}
use lib.ListN.{get_elem?}
use Rattle.atomic_table.specs.Table.{Me, Step, step, keeps, Allows, Splits, Joins, opening}
use Rattle.atomic_table.proofs.Lists.{at_set}
use Rattle.witness.specs.declared.law.View.{View}
use Rattle.witness.specs.Rule.{Begins, ComparesBeginnings, Fits, EntersRow, HearsBeginning, IsWitnessed}
use Rattle.witness.specs.Rule.{keeper, keeper_and_witness, nobody, witness, witness_of_both}
use Rattle.witness.proofs.Beginnings.{begins_itself, begins_more, one_begins}
use Rattle.witness.proofs.Tokens.{OthersFit, all_fit_push, all_fit_set, both_fit, fits_longer, fits_same}
use Rattle.witness.proofs.Tokens.{keeper_and_witness_fit, keeper_fits, nobody_fits, witness_fits}

module _ {S E : Type 0} where
  -- at first one keeper knows an empty row
  pub begins : (ws : List ℕ) → IsWitnessed {S = S} {E = E} (opening ws [] (keeper []))
  begins ws = record { keeper_id = 0; row = []; each = one }
    where
      one : (j : ℕ) (v : View E) → get_elem? (keeper [] ∷ []) j ≡ some v → Fits 0 [] j v
      one zero v e = fits_same 0 [] 0 (keeper []) (keeper_fits 0 [] 0 [] (refl, refl)) zero v
          (refl, some-injective _ _ e)
      one (suc j) v e = absurd (some-ne-none v (sym e))

-- what an exchange of 0 for 0 leaves in a word
abbrev left : ℕ → ℕ
left n = either (n == 0) 0 n

module _ {E : Type 0} (slots id : ℕ) (x : E) (row : List E) where
  abbrev said : Step E
  said = step slots 0 0 0 (some x)

  -- the row has an entry more
  abbrev Enters : Me E (View E) → Type 0
  Enters m = Allows IsWitnessed slots id m 0 left (EntersRow said m)

  enters : Enters (keeper row, [])
  enters s k len at lt =
      let mine = (k.each id (keeper row) at).keeps refl in
      let now = row ++ x ∷ [] in
      let w = keeper now in
      let on : Begins k.row now = subst (λ (r : List E). Begins r now) mine.1 (begins_more row (x ∷ [])) in
      let others : OthersFit k.keeper_id now s.views id = λ j u apart e.
      fits_longer k.keeper_id k.row j u (k.each j u e) id apart mine.0 now on in
      let new : Fits k.keeper_id now id w = keeper_fits k.keeper_id now id now (mine.0, refl) in (
        w,
        keeps,
        tt,
        record {
          keeper_id = k.keeper_id;
          row = now;
          each = all_fit_set k.keeper_id now s.views id w others new;
        },
        λ y e. ap (λ (z : E). (keeper (row ++ z ∷ []), [])) (some-injective _ _ e),
      )

  pub enters_at : (m : Me E (View E)) → m ≡ (keeper row, []) → Enters m
  enters_at m is = subst Enters (sym is) enters

module _ {S E : Type 0} (slots id : ℕ) where
  -- nothing changes
  stays : (w : View E) (then : ℕ → Me S (View E) → Type 0)
      → ((keeper_id : ℕ) (row : List E) → Fits keeper_id row id w → (n : ℕ) → then n (w, []))
      → Allows IsWitnessed slots id (w, []) 0 (λ n. n) then
  stays w then tells s k len at lt =
      let mine = k.each id w at in (
        w,
        keeps,
        tt,
        record {
          keeper_id = k.keeper_id;
          row = k.row;
          each = all_fit_set k.keeper_id k.row s.views id w (λ j u apart e. k.each j u e) mine;
        },
        tells k.keeper_id k.row mine _,
      )

  module _ (row one : List E) where
    -- the keeper hears what the witness knows that it took in
    abbrev Hears : Me S (View E) → Type 0
    Hears m = Allows IsWitnessed slots id m 0 (λ n. n) (HearsBeginning (step slots 0 0 0 none) m)

    hears : Hears (keeper_and_witness row one, [])
    hears =
        stays (keeper_and_witness row one) (HearsBeginning (step slots 0 0 0 none) (keeper_and_witness row one, []))
        (λ keeper_id all fits n. (subst (Begins one) (sym (fits.keeps refl).1) (fits.knows refl).0, refl))

    pub hears_at : (m : Me S (View E)) → m ≡ (keeper_and_witness row one, []) → Hears m
    hears_at m is = subst Hears (sym is) hears

  module _ (one other : List E) where
    -- a witness compares two beginnings
    abbrev Compares : Me S (View E) → Type 0
    Compares m = Allows IsWitnessed slots id m 0 (λ n. n) (ComparesBeginnings (step slots 0 0 0 none) m)

    compares : Compares (witness_of_both one other, [])
    compares =
        stays (witness_of_both one other) (ComparesBeginnings (step slots 0 0 0 none) (witness_of_both one other, []))
        (λ keeper_id all fits n. (one_begins one other all (fits.knows refl).0 (fits.knows refl).1, refl))

    pub compares_at : (m : Me S (View E)) → m ≡ (witness_of_both one other, []) → Compares m
    compares_at m is = subst Compares (sym is) compares

module _ (S : Type 0) {E : Type 0} (id : ℕ) where
  -- a token with this view is cut in two
  cut : (v w u : View E)
      → ((keeper_id : ℕ) (row : List E) (other : ℕ) → Fits keeper_id row id v
      → Fits keeper_id row id w × Fits keeper_id row other u)
      → Splits (IsWitnessed {S = S}) id v w u
  cut v w u fit s k at =
      let views = set s.views id w in
      let parts = fit k.keeper_id k.row (length views) (k.each id v at) in
      record {
        keeper_id = k.keeper_id;
        row = k.row;
        each = all_fit_push k.keeper_id k.row views u
            (all_fit_set k.keeper_id k.row s.views id w (λ j x apart e. k.each j x e) parts.0)
            parts.1;
      }

  -- a token takes another in
  taken : (v w both : View E) (other : ℕ)
      → ((keeper_id : ℕ) (row : List E) → Fits keeper_id row id v → Fits keeper_id row other w
      → Fits keeper_id row id both)
      → Joins (IsWitnessed {S = S}) id v other w both nobody
  taken v w both other fit s k at apart there =
      let views = set s.views id both in
      let hers : Fits k.keeper_id k.row other w = ⊎_elim
      (λ same. absurd (apart same.0))
      (λ was. k.each other w was.1)
      (at_set s.views id other both w there) in
      let mine : Fits k.keeper_id k.row id both = fit k.keeper_id k.row (k.each id v at) hers in
      let others : OthersFit k.keeper_id k.row views other = λ j u far e. ⊎_elim
      (λ same. fits_same k.keeper_id k.row id both mine j u same)
      (λ was. k.each j u was.1)
      (at_set s.views id j both u e) in
      record {
        keeper_id = k.keeper_id;
        row = k.row;
        each = all_fit_set k.keeper_id k.row views other nobody others
            (nobody_fits k.keeper_id k.row other);
      }

  module _ (row : List E) where
    -- the keeper has a witness of all of the row beside it
    abbrev Tells : View E → Type 0
    Tells v = Splits (IsWitnessed {S = S}) id v (keeper v.row) (witness v.row)

    tells : Tells (keeper row)
    tells = cut (keeper row) (keeper row) (witness row)
        (λ keeper_id all at fits. (
          fits,
          witness_fits keeper_id all at row
              (subst (λ (r : List E). Begins r all) (sym (fits.keeps refl).1) (begins_itself all)),
        ))

    pub tells_at : (v : View E) → v ≡ keeper row → Tells v
    tells_at v is = subst Tells (sym is) tells

  module _ (row one : List E) where
    -- the keeper lets a witness go
    abbrev LetsGo : View E → Type 0
    LetsGo v = Splits (IsWitnessed {S = S}) id v (keeper v.row) (witness v.begins)

    lets_go : LetsGo (keeper_and_witness row one)
    lets_go = cut (keeper_and_witness row one) (keeper row) (witness one)
        (λ keeper_id all at fits. (
          keeper_fits keeper_id all id row (fits.keeps refl),
          witness_fits keeper_id all at one (fits.knows refl).0,
        ))

    pub lets_go_at : (v : View E) → v ≡ keeper_and_witness row one → LetsGo v
    lets_go_at v is = subst LetsGo (sym is) lets_go

    module _ (guest : ℕ) where
      -- the keeper takes a witness in
      abbrev TakesIn : View E × View E → Type 0
      TakesIn t = Joins (IsWitnessed {S = S}) id t.0 guest t.1 (keeper_and_witness t.0.row t.1.begins) nobody

      takes_in : TakesIn (keeper row, witness one)
      takes_in = taken (keeper row) (witness one) (keeper_and_witness row one) guest
          (λ keeper_id all fits hers.
          keeper_and_witness_fit keeper_id all id row one (fits.keeps refl) (hers.knows refl).0)

      pub takes_in_at : (v u : View E) → v ≡ keeper row → u ≡ witness one → TakesIn (v, u)
      takes_in_at v u is has = subst TakesIn (λ t. (sym is t, sym has t)) takes_in

  module _ (one other : List E) where
    -- two witnesses part
    abbrev Parts : View E → Type 0
    Parts v = Splits (IsWitnessed {S = S}) id v (witness v.begins) (witness v.also)

    parts : Parts (witness_of_both one other)
    parts = cut (witness_of_both one other) (witness one) (witness other)
        (λ keeper_id all at fits. (
          witness_fits keeper_id all id one (fits.knows refl).0,
          witness_fits keeper_id all at other (fits.knows refl).1,
        ))

    pub parts_at : (v : View E) → v ≡ witness_of_both one other → Parts v
    parts_at v is = subst Parts (sym is) parts

    module _ (guest : ℕ) where
      -- a witness takes another in
      abbrev TakesBoth : View E × View E → Type 0
      TakesBoth t = Joins (IsWitnessed {S = S}) id t.0 guest t.1 (witness_of_both t.0.begins t.1.begins) nobody

      takes_both : TakesBoth (witness one, witness other)
      takes_both = taken (witness one) (witness other) (witness_of_both one other) guest
          (λ keeper_id all fits hers.
          both_fit keeper_id all id one other (fits.knows refl).0 (hers.knows refl).0)

      pub takes_both_at : (v u : View E) → v ≡ witness one → u ≡ witness other → TakesBoth (v, u)
      takes_both_at v u is has = subst TakesBoth (λ t. (sym is t, sym has t)) takes_both

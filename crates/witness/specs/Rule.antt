-- What the tokens of a row know of it, and what keeps them right.
use Rattle.std.specs.Prelude.{◌≡◌, ◌⊎◌, ℕ, List, [], ◌∷◌, ◌++◌, true, false, IsTrue}
use mathlib.Core.Option.{some}
use lib.ListN.{get_elem?}
use Rattle.atomic_table.specs.Seated.{TableId}
use Rattle.atomic_table.specs.Table.{State, Me, Step}
use Rattle.atomic_table.specs.declared.shared.Seat.{Seat}
use Rattle.witness.specs.declared.law.View.{View}

module _ {E : Type 0} where
  -- the one list begins the other
  pub record Begins (some all : List E) : Type 0 where
    pub more : List E
    pub is : all ≡ some ++ more

  -- one of two lists begins the other
  abbrev pub OneBegins : List E → List E → Type 0
  OneBegins one other = Begins one other ⊎ Begins other one

  -- a token that knows the row
  abbrev pub keeper : List E → View E
  keeper row = record { keeps = true; row = row; knows = false; begins = []; also = [] }

  -- a token that knows a beginning of the row
  abbrev pub witness : List E → View E
  witness begins = record { keeps = false; row = []; knows = true; begins = begins; also = [] }

  -- one that knows two
  abbrev pub witness_of_both : List E → List E → View E
  witness_of_both begins also = record { keeps = false; row = []; knows = true; begins = begins; also = also }

  -- a keeper that has taken a witness in
  abbrev pub keeper_and_witness : List E → List E → View E
  keeper_and_witness row begins = record { keeps = true; row = row; knows = true; begins = begins; also = [] }

  -- a token that was taken in
  abbrev pub nobody : View E
  nobody = record { keeps = false; row = []; knows = false; begins = []; also = [] }

  -- what the token with this number knows is so: only the keeper keeps the row
  pub record Fits (keeper_id : ℕ) (row : List E) (id : ℕ) (v : View E) : Type 0 where
    pub keeps : IsTrue v.keeps → (id ≡ keeper_id) × (v.row ≡ row)
    pub knows : IsTrue v.knows → Begins v.begins row × Begins v.also row

  abbrev pub AllFit : ℕ → List E → List (View E) → Type 0
  AllFit keeper_id row views = (id : ℕ) (v : View E) → get_elem? views id ≡ some v → Fits keeper_id row id v

module _ {S E : Type 0} where
  -- there is one row with one keeper, and what every token knows of it is so
  pub record IsWitnessed (s : State S (View E)) : Type 0 where
    pub keeper_id : ℕ
    pub row : List E
    pub each : AllFit keeper_id row s.views

  -- nothing changes, and the keeper learns that what the witness knows begins the row
  abbrev pub HearsBeginning : Step S → Me S (View E) → ℕ → Me S (View E) → Type 0
  HearsBeginning st old n new = Begins old.0.begins old.0.row × (new ≡ old)

  -- nothing changes, and of two beginnings the one begins the other
  abbrev pub ComparesBeginnings : Step S → Me S (View E) → ℕ → Me S (View E) → Type 0
  ComparesBeginnings st old n new =
      OneBegins old.0.begins old.0.also × (new ≡ old)

  -- the row that a keeper knows
  abbrev pub row_of : Seat S (View E) → List E
  row_of token = token.me.0.row

  -- what a witness knows of it
  abbrev pub beginning_of : Seat S (View E) → List E
  beginning_of token = token.me.0.begins

  -- the token is the keeper of this row, and knows that this is it
  abbrev pub IsKeeper : TableId → List E → Seat S (View E) → Type 0
  IsKeeper id row token = (token.table_id ≡ id) × (token.me ≡ (keeper row, []))

  -- the token is a witness of this row, and knows that it begins so
  abbrev pub IsWitness : TableId → List E → Seat S (View E) → Type 0
  IsWitness id begins token = (token.table_id ≡ id) × (token.me ≡ (witness begins, []))

-- the keeper's row has the entry more that the step names
module _ {E : Type 0} where
  abbrev pub EntersRow : Step E → Me E (View E) → ℕ → Me E (View E) → Type 0
  EntersRow st old n new = (x : E) → st.said ≡ some x → new ≡ (keeper (old.0.row ++ x ∷ []), old.1)

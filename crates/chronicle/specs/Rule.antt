-- What the seat of a chronicle knows of its lists: those entries that are settled, and those that are not.
use Rattle.std.specs.Prelude.{◌≡◌, ℕ, List, [], ◌∷◌, ◌++◌}
use mathlib.Core.Option.{some}
use Rattle.atomic_table.specs.Seated.{TableId}
use Rattle.atomic_table.specs.Table.{State, Me, Step}
use Rattle.atomic_table.specs.declared.shared.Seat.{Seat}

module _ {E : Type 0} where
  -- no rule
  abbrev pub IsAnything : State E (List E × List E) → Type 0
  IsAnything s = Unit {0}

  -- the seat adds the entry that the step names, which is not settled
  abbrev pub AddsEntry : Step E → Me E (List E × List E) → ℕ → Me E (List E × List E) → Type 0
  AddsEntry st old n new = (x : E) → st.said ≡ some x → new ≡ ((old.0.0, old.0.1 ++ x ∷ []), old.1)

  -- the seat settles all its entries
  abbrev pub SettlesAll : Step E → Me E (List E × List E) → ℕ → Me E (List E × List E) → Type 0
  SettlesAll st old n new = new ≡ ((old.0.0 ++ old.0.1, []), old.1)

  -- the seat is one of this table, of one word, and holds no slot
  pub record IsSeated (table : TableId) (seat : Seat E (List E × List E)) : Type 0 where
    pub one : table.words ≡ 1
    pub of : seat.table_id ≡ table
    pub free : seat.me.1 ≡ []

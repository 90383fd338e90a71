-- Noting an entry, and settling all, are steps that the rule allows.
use Rattle.std.proofs.Common.{◌≡◌, ℕ, List, [], ◌∷◌, ◌++◌, refl, sym, ap, subst, ◌==◌}
use mathlib.Core.Option.{none, some, some-injective}
use prog.Atomic.{either}
use Rattle.atomic_table.specs.Table.{Me, Step, step, keeps, Allows}
use Rattle.chronicle.specs.Rule.{AddsEntry, SettlesAll, IsAnything}

-- what an exchange of 0 for 0 leaves in a word
abbrev left : ℕ → ℕ
left n = either (n == 0) 0 n

module _ {E : Type 0} (slots id : ℕ) where
  module _ (x : E) where
    abbrev said : Step E
    said = step slots 0 0 0 (some x)

    abbrev Adds : Me E (List E × List E) → Type 0
    Adds m = Allows IsAnything slots id m 0 left (AddsEntry said m)

    pub adds : (settled unsettled : List E) → Adds ((settled, unsettled), [])
    adds settled unsettled s k len at lt = (
      (settled, unsettled ++ x ∷ []),
      keeps,
      tt,
      tt,
      λ y e. ap (λ (z : E). ((settled, unsettled ++ z ∷ []), [])) (some-injective _ _ e),
    )

    pub adds_at : (m : Me E (List E × List E)) → m.1 ≡ [] → Adds m
    adds_at m free = subst Adds (ap (λ (l : List (ℕ × E)). (m.0, l)) (sym free)) (adds m.0.0 m.0.1)

  abbrev unsaid : Step E
  unsaid = step slots 0 0 0 none

  abbrev Settles : Me E (List E × List E) → Type 0
  Settles m = Allows IsAnything slots id m 0 (λ n. n) (SettlesAll unsaid m)

  pub settles : (settled unsettled : List E) → Settles ((settled, unsettled), [])
  settles settled unsettled s k len at lt = ((settled ++ unsettled, []), keeps, tt, tt, refl)

  pub settles_at : (m : Me E (List E × List E)) → m.1 ≡ [] → Settles m
  settles_at m free = subst Settles (ap (λ (l : List (ℕ × E)). (m.0, l)) (sym free)) (settles m.0.0 m.0.1)

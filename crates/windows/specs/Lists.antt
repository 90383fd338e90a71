-- What a list has, by cases on the list.
use Rattle.std.specs.Prelude.{◌≡◌, ◌⊎◌, ⊤, List, [], ◌∷◌}

-- it is one of the list
abbrev pub IsAmong : {X : Type 0} → X → List X → Type 0
IsAmong v [] = ⊥
IsAmong v (first ∷ rest) = (first ≡ v) ⊎ IsAmong v rest

-- nothing is in the list twice
abbrev pub AreDifferent : {X : Type 0} → List X → Type 0
AreDifferent [] = ⊤
AreDifferent (first ∷ rest) = (IsAmong first rest → ⊥) × AreDifferent rest

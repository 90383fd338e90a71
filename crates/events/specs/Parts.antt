-- Parts of a list, in the same sequence.
use Rattle.std.specs.Prelude.{List, [], ◌∷◌}

-- the first list is the second without some of its items
pub data IsPartOf {X : Type 0} : List X → List X → Type 0 where
  nothing : IsPartOf [] []
  both : {xs ys : List X} (x : X) (rest : IsPartOf xs ys) → IsPartOf (x ∷ xs) (x ∷ ys)
  more : {xs ys : List X} (y : X) (rest : IsPartOf xs ys) → IsPartOf xs (y ∷ ys)

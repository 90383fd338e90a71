-- Runs of a plain queue of values, and what may be left out of them.
use Rattle.std.specs.Prelude.{ℕ, ◌≡◌, ⊤, Bool, true, false, if◌then◌else◌, List, [], ◌∷◌, ◌++◌}

-- a put of a value, a take that got one, or a take that found nothing; takes have numbers of their own
pub data Step : Type 0 where
  put : (value : ℕ) → Step
  got : (take value : ℕ) → Step
  nothing : (take : ℕ) → Step

-- the steps can be taken one after another, first in, first out, from a queue of these values on
abbrev pub Runs : List ℕ → List Step → Type 0
Runs queue [] = ⊤
Runs queue (put v ∷ rest) = Runs (queue ++ v ∷ []) rest
Runs [] (got t v ∷ rest) = ⊥
Runs (first ∷ queue) (got t v ∷ rest) = (first ≡ v) × Runs queue rest
Runs queue (nothing t ∷ rest) = (queue ≡ []) × Runs queue rest

-- the values that are kept
abbrev pub kept_of : (ℕ → Bool) → List ℕ → List ℕ
kept_of keep [] = []
kept_of keep (v ∷ rest) = if keep v then v ∷ kept_of keep rest else kept_of keep rest

-- the same steps, but without the puts and takes of values that are not kept, and perhaps without some takes that found
-- nothing
pub data LeavesOut (keep : ℕ → Bool) : List Step → List Step → Type 0 where
  end : LeavesOut keep [] []
  keeps_put : {v : ℕ} {steps fewer : List Step} → keep v ≡ true → LeavesOut keep steps fewer
      → LeavesOut keep (put v ∷ steps) (put v ∷ fewer)
  keeps_got : {t v : ℕ} {steps fewer : List Step} → keep v ≡ true → LeavesOut keep steps fewer
      → LeavesOut keep (got t v ∷ steps) (got t v ∷ fewer)
  keeps_nothing : {t : ℕ} {steps fewer : List Step} → LeavesOut keep steps fewer
      → LeavesOut keep (nothing t ∷ steps) (nothing t ∷ fewer)
  drops_put : {v : ℕ} {steps fewer : List Step} → keep v ≡ false → LeavesOut keep steps fewer
      → LeavesOut keep (put v ∷ steps) fewer
  drops_got : {t v : ℕ} {steps fewer : List Step} → keep v ≡ false → LeavesOut keep steps fewer
      → LeavesOut keep (got t v ∷ steps) fewer
  drops_nothing : {t : ℕ} {steps fewer : List Step} → LeavesOut keep steps fewer → LeavesOut keep (nothing t ∷ steps) fewer

-- the puts among the steps
abbrev pub puts_of : List Step → List Step
puts_of [] = []
puts_of (put v ∷ rest) = put v ∷ puts_of rest
puts_of (got t v ∷ rest) = puts_of rest
puts_of (nothing t ∷ rest) = puts_of rest

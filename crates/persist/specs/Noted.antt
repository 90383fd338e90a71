-- Kept words and their changes: what changes make of them, and that an act answers the change that it made.
use Rattle.std.specs.Prelude.{◌≡◌, ◌≢◌, ℕ, ◌+◌, ◌<◌, List, [], ◌∷◌, length, fold, Option, Some, None, IfSome, Result, Ok, Err, slice_index, slice_set}
use Rattle.words.specs.declared.refusal.Refusal.{Refusal}
use Rattle.persist.specs.Changes.{change_of}
use Rattle.persist.specs.Memory.{Access, Words, Load, Store, Cas, Flush, Fence, words_in}
use Rattle.persist.specs.declared.access.Change.{Change}
use Rattle.persist.specs.declared.access.Noted.{Noted}

-- kept words after a change, and after changes in their order
abbrev pub change_made : List ℕ → Change → List ℕ
change_made words change = slice_set words change.word change.new

abbrev pub applied : List Change → List ℕ → List ℕ
applied changes words = fold change_made words changes

-- the change, if there is one, as a list
abbrev pub changes_in : Option Change → List Change
changes_in None = []
changes_in (Some change) = change ∷ []

-- the change of one of these words: it had the old value, which is not the new one
pub record IsChangeOf (words : List ℕ) (change : Change) : Type 0 where
  pub within : change.word < length words
  pub was : change.old ≡ slice_index words change.word
  pub other : change.new ≢ change.old

-- the kept words changed so, and in no other way
pub record IsNoted (change : Option Change) (old new : List ℕ) : Type 0 where
  pub real : IfSome change (IsChangeOf old)
  pub applied : new ≡ applied (changes_in change) old

-- the change that an access makes
abbrev pub change_made_by : Access ℕ → Words → Option Change
change_made_by (Load word) ws = None
change_made_by (Store word value) ws = None
change_made_by (Cas word old new) ws = None
change_made_by (Flush word) ws = None
change_made_by (Fence word) ws = change_of ws word

-- the same change, of the word as it is numbered where its part begins at this word
abbrev pub change_behind : ℕ → Option Change → Option Change
change_behind from None = None
change_behind from (Some change) = Some (record { word = from + change.word; old = change.old; new = change.new })

-- what changed this part changed the whole so, at the words as the whole numbers them
abbrev pub IsNotedBehind : ℕ → ℕ → Words → Words → Type 0
IsNotedBehind from len old new =
    (change : Option Change) → IsNoted change (words_in from len old).kept (words_in from len new).kept
    → IsNoted (change_behind from change) old.kept new.kept

-- what an act answered, apart from its change; and the change: a refused act made none
abbrev pub answer_in : {T : Type 0} → Result (Noted T) Refusal → Result T Refusal
answer_in (Ok noted) = Ok noted.answer
answer_in (Err refusal) = Err refusal

abbrev pub change_in : {T : Type 0} → Result (Noted T) Refusal → Option Change
change_in (Ok noted) = noted.change
change_in (Err refusal) = None

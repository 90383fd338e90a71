-- Notes of changes of kept words: what changes make of words, and what an act adds to the notes.
use Rattle.std.specs.Prelude.{◌≡◌, ◌<◌, ◌++◌, ℕ, List, length, All}
use Rattle.persist.specs.declared.access.Change.{Change}
use Rattle.persist.specs.Memory.{overwritten}
use Rattle.persist.specs.Noted.{applied}

-- the changes that were noted and not handed out yet, and how many more there is room for, as was promised
pub record Noting : Type 0 where
  pub changes : List Change
  pub promised : ℕ

-- the changes make the new words of the old ones, and each is of one of these words
pub record IsMadeBy (changes : List Change) (old new : List ℕ) : Type 0 where
  pub words : new ≡ applied changes old
  pub within : All (λ change. change.word < length old) changes

-- notes of what an act did: behind those of before stand changes that make its new words of the old ones
pub record HasNoted (old new : List Change) (was now : List ℕ) : Type 0 where
  pub more : List Change
  pub behind : new ≡ old ++ more
  pub made : IsMadeBy more was now

-- so they have where these words were written over others, from one of them on
abbrev pub HasNotedWritten : List Change → List Change → ℕ → List ℕ → List ℕ → Type 0
HasNotedWritten old new from written words = HasNoted old new words (overwritten from written words)

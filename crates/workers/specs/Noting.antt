-- The changes of kept words that are noted under the lock, and handed on.
use Rattle.std.specs.Prelude.{◌≡◌, ◌≤◌, ◌+◌, ◌++◌, ◌∷◌, [], ℕ, List, Option, Some, None}
use Rattle.notes.specs.Noting.{HasNoted, IsMadeBy}
use Rattle.persist.specs.declared.access.Change.{Change}
use Rattle.roll.specs.Rule.{IsKeeper, rows_of}
use Rattle.roll.specs.Seated.{TableId}
use Rattle.directory.specs.Creation.{left_at}
use Rattle.directory.specs.declared.creation.Creation.{Creation}
use Rattle.named.specs.Brokers.{Brokered}
use Rattle.workers.specs.declared.book.Book.{Book}
use Rattle.workers.specs.declared.locked.Creating.{Creating}
use Rattle.workers.specs.declared.locked.Creating.TheVariants.{Nothing, UnderWay, Interrupted}

-- how many changes the creation that threads know of may still make: as many as it has steps left
abbrev pub to_create : Creating → Option Creation → ℕ
to_create Nothing creation = 0
to_create Interrupted creation = 0
to_create UnderWay None = 0
to_create UnderWay (Some creation) = left_at creation.at

-- the first one of some rows
abbrev pub first_row : List (List Change) → List Change
first_row [] = []
first_row (row ∷ more) = row

-- the changes that were handed on, as the keeper of their row knows them
abbrev pub handed_in : Book → List Change
handed_in book = first_row (rows_of book.keeper)

-- the book's keeper knows that just these changes of its roll were handed on
abbrev pub HasHandedOn : TableId → List Change → Book → Type 0
HasHandedOn roll changes book = IsKeeper roll (changes ∷ []) book.keeper

-- The changes that were handed on and those that were noted since make the kept words of those that there were when the
-- seats were given. There is room for those of the creation
pub record IsBookRight (roll : TableId) (first : List ℕ) (now : Brokered) (creating : Creating) (book : Book)
    : Type 0 where
  pub same : book.roll ≡ roll
  pub keeper : IsKeeper roll (handed_in book ∷ []) book.keeper
  pub made : IsMadeBy (handed_in book ++ book.notes.changes) first now.words.kept
  pub promised : to_create creating now.creation ≤ book.notes.promised

-- there is a book exactly where the name says that changes are noted, and it is right
abbrev pub IsBooked : Option TableId → List ℕ → Brokered → Creating → Option Book → Type 0
IsBooked None first now creating None = Unit {0}
IsBooked None first now creating (Some book) = ⊥
IsBooked (Some roll) first now creating None = ⊥
IsBooked (Some roll) first now creating (Some book) = IsBookRight roll first now creating book

-- an act that changed kept words so noted it, where there is a book, and changed nothing else in the book but for how
-- many changes more there is room
abbrev pub IsBookOn : Option Book → Option Book → List ℕ → List ℕ → Type 0
IsBookOn None None was now = Unit {0}
IsBookOn None (Some new) was now = ⊥
IsBookOn (Some old) None was now = ⊥
IsBookOn (Some old) (Some new) was now =
    (new ≡ record old { notes = new.notes }) × HasNoted old.notes.changes new.notes.changes was now

-- for how many changes more there is room, where changes are noted
abbrev pub promised_in : Option Book → Option ℕ
promised_in None = None
promised_in (Some book) = Some book.notes.promised

-- for so many more than before
abbrev pub with_promised : ℕ → Option ℕ → Option ℕ
with_promised more None = None
with_promised more (Some promised) = Some (promised + more)

-- for so many at least
abbrev pub HasPromised : ℕ → Option ℕ → Type 0
HasPromised changes None = Unit {0}
HasPromised changes (Some promised) = changes ≤ promised

-- the name says that changes are noted, and of their roll this holds
abbrev pub OfRoll : Option TableId → (TableId → Type 0) → Type 0
OfRoll None P = ⊥
OfRoll (Some roll) P = P roll

-- What holds of a client that listens to the Readys of a history.
use Rattle.std.specs.Prelude.{ℕ, ◌⊎◌, List, Option}
use Rattle.words.specs.declared.told.Told.{Told}
use Rattle.events.specs.Telling.{IsToldSome, IsToldBase}
use Rattle.history.specs.Hearing.{IsProgress, IsProgressTo, IsSaidLast, IsToldAt, IsToldOfAll}
use Rattle.history.specs.declared.hearing.Progress.{Progress}
use Rattle.history.specs.declared.telling.Listener.{Listener}

-- this of one of its calls
abbrev pub HearsOfSome : Listener → ℕ → Told → Type 0
HearsOfSome who ready told = IsToldSome who.kind who.events.now.items who.entries.now who.client ready told

-- this, which the base tells, none of its calls being in the order
abbrev pub HearsBase : Listener → List Told → ℕ → Told → Type 0
HearsBase who base ready told =
    IsToldBase who.kind base who.events.now.items who.entries.now who.client ready told

-- a Ready at `ready` tells it this rightly: of one of its calls, or what the base tells
abbrev pub IsToldRightly : Listener → List Told → ℕ → Told → Type 0
IsToldRightly who base ready told = HearsOfSome who ready told ⊎ HearsBase who base ready told

-- a Ready that stands at q tells it rightly, and so does each Ready
abbrev pub HearsAt : Listener → List Told → ℕ → Type 0
HearsAt who base q = IsToldAt who.kind base who.events.now.items who.entries.now who.client q

abbrev pub HearsAll : Listener → List Told → Type 0
HearsAll who base = IsToldOfAll who.kind base who.events.now.items who.entries.now who.client

-- what it is told says what became of its last call in the order, and there is one
abbrev pub HearsOfLast : Listener → Told → Option ℕ → Type 0
HearsOfLast who told last = IsSaidLast who.kind who.events.now.items who.entries.now who.client told last

-- this is known of its calls before the Ready at q
abbrev pub IsProgressAt : Listener → ℕ → Progress → Type 0
IsProgressAt who q progress =
    IsProgress who.kind who.events.now.items who.entries.now who.client q progress.from progress.last

-- and this once the first n entries were looked at
abbrev pub IsProgressUpTo : Listener → ℕ → Progress → ℕ → Type 0
IsProgressUpTo who q progress n =
    IsProgressTo who.kind who.events.now.items who.entries.now who.client q progress.from progress.last n

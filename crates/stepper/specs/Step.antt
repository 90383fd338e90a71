-- One access to a memory, at a place, and what a step makes of it.
use Rattle.std.specs.Prelude.{◌≡◌, ℕ, Option, Some, None, slice_index}
use Rattle.words.specs.declared.call.Kind.{Kind}
use Rattle.persist.specs.Memory.{Words, Access, Load, Store, Cas, Flush, Fence, Lent, Request, Word, after, lent_after}
use Rattle.persist.specs.Changes.{change_of}
use Rattle.persist.specs.declared.access.Change.{Change}
use Rattle.arena.specs.Layout.{word_at}
use Rattle.arena.specs.Ranges.{Fits}
use Rattle.arena.specs.Shape.{Shape}
use Rattle.arena.specs.declared.place.Place.{Place}
use Rattle.stepper.specs.declared.resume.After.{After}

abbrev pub place_of : Access Place → Place
place_of (Load place) = place
place_of (Store place value) = place
place_of (Cas place old new) = place
place_of (Flush place) = place
place_of (Fence place) = place

-- the access to the place's word
abbrev pub at_word : Shape → Access Place → Access ℕ
at_word s (Load place) = Load (word_at s place)
at_word s (Store place value) = Store (word_at s place) value
at_word s (Cas place old new) = Cas (word_at s place) old new
at_word s (Flush place) = Flush (word_at s place)
at_word s (Fence place) = Fence (word_at s place)

-- the words after exactly one access, this one
abbrev pub after_one : Shape → Access Place → Words → Words
after_one s access ws = after (at_word s access) ws

-- and how they are lent then: a flush asks for the word, and a fence has completed that
abbrev pub lent_after_one : Shape → Access Place → Lent → Lent
lent_after_one s access lent = lent_after (at_word s access) lent

-- a fence completes the request for its place's word: that was asked for
abbrev pub IsAskedFor : Shape → Access Place → Request → Type 0
IsAskedFor s (Load place) request = Unit {0}
IsAskedFor s (Store place value) request = Unit {0}
IsAskedFor s (Cas place old new) request = Unit {0}
IsAskedFor s (Flush place) request = Unit {0}
IsAskedFor s (Fence place) request = request ≡ Word (word_at s place)

-- the cached value that the access finds
abbrev pub value_found : Shape → Access Place → Words → ℕ
value_found s access ws = slice_index ws.cached (word_at s (place_of access))

-- the change of a kept value, where the access is a fence that makes one
abbrev pub change_by : Shape → Access Place → Words → Option Change
change_by s (Fence place) ws = change_of ws (word_at s place)
change_by s (Load place) ws = None
change_by s (Store place value) ws = None
change_by s (Cas place old new) ws = None
change_by s (Flush place) ws = None

-- what it reads is in the range of its place; a store, a flush and a fence read nothing
abbrev pub IsReadInRange : Shape → Access Place → ℕ → Type 0
IsReadInRange s (Load place) found = Fits s place found
IsReadInRange s (Store place value) found = Unit {0}
IsReadInRange s (Cas place old new) found = Fits s place found
IsReadInRange s (Flush place) found = Unit {0}
IsReadInRange s (Fence place) found = Unit {0}

-- so it is of what the access finds
abbrev pub FindsInRange : Shape → Access Place → Words → Type 0
FindsInRange s access ws = IsReadInRange s access (value_found s access ws)

-- The same of a step at a waiting point, whose one access and what comes next a table says. The words after the step:
abbrev pub words_by_step : {P : Type 0} → (Kind → P → Access Place) → Shape → P → Words → Words
words_by_step access s point ws = after_one s (access s.kind point) ws

-- how they are lent then
abbrev pub lent_by_step : {P : Type 0} → (Kind → P → Access Place) → Shape → P → Lent → Lent
lent_by_step access s point lent = lent_after_one s (access s.kind point) lent

-- the change of a kept value
abbrev pub change_by_step : {P : Type 0} → (Kind → P → Access Place) → Shape → P → Words → Option Change
change_by_step access s point ws = change_by s (access s.kind point) ws

-- and that this comes next
abbrev pub IsNext : {P A : Type 0} → (Kind → P → Access Place) → (Shape → P → ℕ → After P A) → Shape → P → Words
    → After P A → Type 0
IsNext access successor s point ws after = after ≡ successor s point (value_found s (access s.kind point) ws)

-- the place whose word the access keeps, if it is a fence
abbrev pub kept_by : Access Place → Option Place
kept_by (Load place) = None
kept_by (Store place value) = None
kept_by (Cas place old new) = None
kept_by (Flush place) = None
kept_by (Fence place) = Some place

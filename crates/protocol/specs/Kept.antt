-- What the kept words tell.
use Rattle.std.specs.Prelude.{◌≡◌, ◌≢◌, ℕ, ◌≤◌, ◌<◌}
use Rattle.words.specs.declared.call.Kind.{Kind}
use Rattle.words.specs.declared.call.Kind.TheVariants.{Durable, Log}
use Rattle.words.specs.declared.call.Reply.TheVariants.{Done, Got, Empty}
use Rattle.words.specs.declared.told.Outcome.{Outcome}
use Rattle.words.specs.declared.told.Outcome.TheVariants.{NotTaken, Taken}
use Rattle.words.specs.declared.told.Row.{Row}
use Rattle.words.specs.declared.told.Row.TheVariants.{NoCall, Open, Empty as row_empty, Got as row_got}
use Rattle.words.specs.declared.told.Told.{Told}
use Rattle.words.specs.declared.told.Told.TheVariants.{None as told_none, Verdict as told_verdict, Row as told_row}
use Rattle.arena.specs.Shape.{Shape}
use Rattle.arena.specs.Words.{links, marks, values, cells, numbers, entry_kinds, statuses, announcements}
use Rattle.arena.specs.declared.place.Place.{Place}

-- what the kept words say became of the entry e
abbrev pub OutcomeBy : (Place → ℕ) → ℕ → Outcome → Type 0
OutcomeBy k e (Taken Done) = (entry_kinds k e ≡ 1) × record { at : ℕ; linked : links k at ≡ e }
OutcomeBy k e (Taken Empty) = (entry_kinds k e ≢ 1) × (statuses k e ≡ 2)
OutcomeBy k e (Taken (Got v)) =
    (entry_kinds k e ≢ 1) × record { at : ℕ; marked : marks k at ≡ e; value : values k at ≡ v }
OutcomeBy k e NotTaken =
    (entry_kinds k e ≡ 1 → (at : ℕ) → links k at ≢ e)
    × (entry_kinds k e ≢ 1 → (statuses k e ≢ 2) × ((at : ℕ) → marks k at ≢ e))

-- what they say became of the dequeue with the cell e
abbrev pub RowBy : (Place → ℕ) → ℕ → Row → Type 0
RowBy k e (row_got v) = record { at : ℕ; marked : marks k at ≡ e; value : values k at ≡ v }
RowBy k e row_empty = cells k e ≡ 1
RowBy k e Open = (cells k e ≢ 1) × ((at : ℕ) → marks k at ≢ e)
RowBy k e NoCall = ⊥

-- what they tell client t
abbrev pub TellsBy : Kind → (Place → ℕ) → ℕ → Told → Type 0
TellsBy Log k t told_none = announcements k t ≡ 0
TellsBy Log k t (told_verdict v) =
    (announcements k t ≢ 0) × (v.number ≡ numbers k (announcements k t)) × OutcomeBy k (announcements k t) v.outcome
TellsBy Log k t (told_row row) = ⊥
TellsBy Durable k t (told_row NoCall) = announcements k t ≡ 0
TellsBy Durable k t (told_row row) = (announcements k t ≢ 0) × RowBy k (announcements k t) row
TellsBy Durable k t told_none = ⊥
TellsBy Durable k t (told_verdict v) = ⊥

-- the same, and nothing where there is no such client
abbrev pub TellsOf : Shape → (Place → ℕ) → ℕ → Told → Type 0
TellsOf s k t told = (t < s.clients → TellsBy s.kind k t told) × (s.clients ≤ t → told ≡ told_none)

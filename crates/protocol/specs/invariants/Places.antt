-- Whose word a place is, and of which kind of queue.
use Rattle.std.specs.Prelude.{◌≡◌, ◌≢◌, ℕ}
use Rattle.words.specs.declared.call.Kind.{Kind}
use Rattle.words.specs.declared.call.Kind.TheVariants.{Durable, Log}
use Rattle.arena.specs.Answers.{empty_answer_of}
use Rattle.arena.specs.Place.{number_of}
use Rattle.arena.specs.Shape.{Shape, owner}
use Rattle.arena.specs.declared.place.Place.{Place}
use Rattle.arena.specs.declared.place.Place.TheVariants.{Announcement, Bump, Cell, EntryKind, EntryNode, Head, Insert, Mark, Next, Number, Status, Tail, Item}
use Rattle.helping.specs.Table.{token_of}

-- a word of a record, or of its node
abbrev pub IsOfRecord : Place → Type 0
IsOfRecord Head = ⊥
IsOfRecord Tail = ⊥
IsOfRecord (Announcement t) = ⊥
IsOfRecord (Bump t) = ⊥
IsOfRecord _ = Unit {0}

-- a word that its client alone writes, but for answers
abbrev pub IsOwnWord : Place → Type 0
IsOwnWord Head = ⊥
IsOwnWord Tail = ⊥
IsOwnWord (Next n) = ⊥
IsOwnWord (Mark n) = ⊥
IsOwnWord _ = Unit {0}

-- a word that helpers write, too
abbrev pub IsAnswer : Place → Type 0
IsAnswer (Cell c) = Unit {0}
IsAnswer (EntryNode e) = Unit {0}
IsAnswer _ = ⊥

-- a word of this kind of queue; node 0 has no message, and there is no record 0
abbrev pub IsOfKind : Kind → Place → Type 0
IsOfKind kind (Item n part) = n.0 ≢ 0
IsOfKind kind (Cell c) = (kind ≡ Durable) × (c.0 ≢ 0)
IsOfKind kind (Insert n) = (kind ≡ Log) × (n.0 ≢ 0)
IsOfKind kind (Number e) = (kind ≡ Log) × (e.0 ≢ 0)
IsOfKind kind (EntryKind e) = (kind ≡ Log) × (e.0 ≢ 0)
IsOfKind kind (Status e) = (kind ≡ Log) × (e.0 ≢ 0)
IsOfKind kind (EntryNode e) = (kind ≡ Log) × (e.0 ≢ 0)
IsOfKind kind _ = Unit {0}

-- whose it is
abbrev pub home : Shape → Place → ℕ
home s Head = 0
home s Tail = 0
home s (Announcement t) = t.0
home s (Bump t) = t.0
home s p = owner s (number_of p)

-- the words that say whether a dequeue found the queue empty, each by its token
abbrev pub empties : Shape → (Place → ℕ) → ℕ → ℕ
empties s f c = f (empty_answer_of s.kind (token_of c)).place

-- this one says so
abbrev pub Says : Shape → (ℕ → ℕ) → ℕ → Type 0
Says s e c = e c ≡ (empty_answer_of s.kind (token_of c)).value

abbrev pub SaysEmpty : Shape → (Place → ℕ) → ℕ → Type 0
SaysEmpty s f c = Says s (empties s f) c

-- What the engine is asked for, what it does, and what it answers.
use Rattle.std.specs.Prelude.{◌≡◌, ℕ, suc, nat_lt, Bool, true, false, List, Option, Some, None, ⊤, if◌then◌else◌}
use Rattle.fenced.specs.Engine.{Engine, Tail, same_state, with_piece}

-- each but the last two compares the tail with the one that it names, and does nothing where that is another
pub data Request : Type 0 where
  -- it is to be this owner's
  Take : Option Tail → List ℕ → Request
  -- the next piece is to have these bytes
  Put : Tail → List ℕ → Request
  -- a piece of another generation is to
  Fresh : Tail → ℕ → ℕ → List ℕ → Request
  -- a generation with so many pieces is to be in use
  Place : Tail → ℕ → ℕ → Request
  -- the generations below that in use are to go
  Drop : Tail → Request
  -- which is the tail?
  Ask : Request
  -- which is the piece of this generation and number?
  Read : ℕ → ℕ → Request

-- done; or not, or asked for, and this is the tail; or this is the piece
pub data Answer : Type 0 where
  Done : Answer
  TailIs : Option Tail → Answer
  PieceIs : Option (List ℕ) → Answer

-- the tail that a request compares with, if it does
abbrev pub compared : Request → Option (Option Tail)
compared (Take seen owner) = Some seen
compared (Put tail bytes) = Some (Some tail)
compared (Fresh tail generation number bytes) = Some (Some tail)
compared (Place tail generation count) = Some (Some tail)
compared (Drop tail) = Some (Some tail)
compared Ask = None
compared (Read generation number) = None

-- the tail of whoever takes the log, with all its pieces; of who begins it, with none
abbrev pub taken : Option Tail → List ℕ → Tail
taken None owner = record { generation = 1; count = 0; owner = owner }
taken (Some tail) owner = record tail { owner = owner }

-- with one piece more
abbrev pub longer : Tail → Tail
longer tail = record tail { count = suc tail.count }

-- with another generation in use
abbrev pub placed : Tail → ℕ → ℕ → Tail
placed tail generation count = record tail { generation = generation; count = count }

-- the pieces without those of the generations below this one
abbrev pub from_generation : ℕ → (ℕ → ℕ → Option (List ℕ)) → ℕ → ℕ → Option (List ℕ)
from_generation generation piece g n = if nat_lt g generation then None else piece g n

-- what a request makes of the engine whose tail is the one that it names
abbrev pub effect : Request → Engine → Engine
effect (Take seen owner) engine = record engine { tail = Some (taken seen owner) }
effect (Put tail bytes) engine =
    record { tail = Some (longer tail); piece = with_piece tail.generation tail.count bytes engine.piece }
effect (Fresh tail generation number bytes) engine =
    record engine { piece = with_piece generation number bytes engine.piece }
effect (Place tail generation count) engine = record engine { tail = Some (placed tail generation count) }
effect (Drop tail) engine = record engine { piece = from_generation tail.generation engine.piece }
effect Ask engine = engine
effect (Read generation number) engine = engine

-- whether the tail is the one that a request compares with
abbrev pub is_as : Option Tail → Option (Option Tail) → Bool
is_as tail None = false
is_as tail (Some seen) = same_state tail seen

abbrev pub is_met : Engine → Request → Bool
is_met engine request = is_as engine.tail (compared request)

-- the engine after a request
abbrev pub after : Engine → Request → Engine
after engine request = if is_met engine request then effect request engine else engine

-- and what it answers
abbrev pub answer_of : Engine → Request → Answer
answer_of engine Ask = TailIs engine.tail
answer_of engine (Read generation number) = PieceIs (engine.piece generation number)
answer_of engine request = if is_met engine request then Done else TailIs engine.tail

-- the tail that a request leaves where it is done
abbrev pub left_tail : Request → Option Tail
left_tail (Take seen owner) = Some (taken seen owner)
left_tail (Put tail bytes) = Some (longer tail)
left_tail (Fresh tail generation number bytes) = Some tail
left_tail (Place tail generation count) = Some (placed tail generation count)
left_tail (Drop tail) = Some tail
left_tail Ask = None
left_tail (Read generation number) = None

-- the tail that an answer to a request shows
abbrev pub shown : Request → Answer → Option Tail
shown request Done = left_tail request
shown request (TailIs tail) = tail
shown request (PieceIs bytes) = None

-- the answer says of a request that moves the tail that it is done: now, or by the same one that was sent before
abbrev pub SaysDone : Request → Answer → Type 0
SaysDone request Done = ⊤
SaysDone request (TailIs tail) = tail ≡ left_tail request
SaysDone request (PieceIs bytes) = ⊤

-- whose a request is, if its answer tells an owner where its log stands
abbrev pub asker : Request → Option (List ℕ)
asker (Take seen owner) = Some owner
asker (Put tail bytes) = Some tail.owner
asker (Fresh tail generation number bytes) = Some tail.owner
asker (Place tail generation count) = Some tail.owner
asker (Drop tail) = Some tail.owner
asker Ask = None
asker (Read generation number) = None

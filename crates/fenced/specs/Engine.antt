-- The engine: one key that says whose the log is and how long, and the pieces of the log.
use Rattle.std.specs.Prelude.{ℕ, zero, suc, ◌==◌, ◌&&◌, Bool, true, false, List, [], ◌++◌, Option, Some, None, bytes_eq, if◌then◌else◌}

-- what the tail says: the generation in use, how many pieces it has, and whose it is
pub record Tail : Type 0 where
  pub generation : ℕ
  pub count : ℕ
  pub owner : List ℕ

-- the tail, if there is one, and the piece of each generation and number, if there is one
pub record Engine : Type 0 where
  pub tail : Option Tail
  pub piece : ℕ → ℕ → Option (List ℕ)

-- that of a log which nobody has begun
abbrev pub nothing : Engine
nothing = record { tail = None; piece = λ g n. None }

-- whether they are the same
abbrev pub same_tail : Tail → Tail → Bool
same_tail a b = (a.generation == b.generation) && ((a.count == b.count) && bytes_eq a.owner b.owner)

abbrev pub same_state : Option Tail → Option Tail → Bool
same_state None None = true
same_state (Some a) (Some b) = same_tail a b
same_state _ _ = false

-- the pieces, and this one
abbrev pub with_piece : ℕ → ℕ → List ℕ → (ℕ → ℕ → Option (List ℕ)) → ℕ → ℕ → Option (List ℕ)
with_piece generation number bytes piece g n =
    if (g == generation) && (n == number) then Some bytes else piece g n

-- the bytes of a piece; of none, nothing
abbrev pub bytes_of : Option (List ℕ) → List ℕ
bytes_of None = []
bytes_of (Some bytes) = bytes

-- the first n of these, one behind another
abbrev pub joined : (ℕ → List ℕ) → ℕ → List ℕ
joined content zero = []
joined content (suc n) = joined content n ++ content n

-- the log's text by this tail: the pieces of its generation, one behind another
abbrev pub text_by : (ℕ → ℕ → Option (List ℕ)) → Option Tail → List ℕ
text_by piece None = []
text_by piece (Some tail) = joined (λ n. bytes_of (piece tail.generation n)) tail.count

abbrev pub text_of : Engine → List ℕ
text_of engine = text_by engine.piece engine.tail

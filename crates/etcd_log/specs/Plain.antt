-- An engine in memory.
use Rattle.std.specs.Prelude.{◌≡◌, ℕ, List, Option, Some, None, fold, option_map}
use denote.Ref.{Bor}
use Rattle.fenced.specs.Engine.{Engine, Tail, with_piece}
use Rattle.fenced.specs.Requests.{Answer, TailIs, from_generation}
use Rattle.etcd_log.specs.declared.plain.Change.{Change}
use Rattle.etcd_log.specs.declared.plain.Change.TheVariants.{Dropped, Piece}
use Rattle.etcd_log.specs.declared.plain.OwnTail.{OwnTail}

-- what its tail says
abbrev pub said_of : OwnTail → Tail
said_of tail = record { generation = tail.generation; count = tail.count; owner = tail.owner.items }

-- the pieces after a change
abbrev pub changed : (ℕ → ℕ → Option (List ℕ)) → Change → ℕ → ℕ → Option (List ℕ)
changed piece (Piece generation number bytes) = with_piece generation number bytes.items piece
changed piece (Dropped below) = from_generation below piece

abbrev pub no_piece : ℕ → ℕ → Option (List ℕ)
no_piece generation number = None

-- and after all of them
abbrev pub pieces_of : List Change → ℕ → ℕ → Option (List ℕ)
pieces_of changes = fold changed no_piece changes

abbrev pub engine_of : Option OwnTail → List Change → Engine
engine_of tail changes = record { tail = option_map said_of tail; piece = pieces_of changes }

-- what tells its tail
abbrev pub answer_of_state : Option Tail → Answer
answer_of_state tail = TailIs tail

-- what a lent option holds
abbrev pub seen_in : Option (Bor (List ℕ)) → Option (List ℕ)
seen_in found = option_map (λ bytes. bytes.now) found

-- A log in an engine as the storage of a journal.
use Rattle.std.specs.Prelude.{◌≡◌, ◌⊎◌, ◌≤◌, ℕ, Bool, true, false, List, Option, Some, None, Vec, IfSome, length, option_map}
use Rattle.std.proofs.Common.{Global}
use Rattle.etcd_text.specs.Tails.{Fits, spelled}
use Rattle.fenced.specs.Engine.{Engine, Tail, bytes_of, joined, text_of}

-- the tail of a known engine is this one
abbrev pub HasTail : Option Engine → Tail → Type 0
HasTail engine tail = IfSome engine (λ e. e.tail ≡ Some tail)

-- the text of the log
abbrev pub text_in : Option Engine → Option (List ℕ)
text_in engine = option_map text_of engine

-- the first pieces of a generation are these bytes
abbrev pub HasPieces : Option Engine → ℕ → ℕ → List ℕ → Type 0
HasPieces engine generation count bytes =
    IfSome engine (λ e. joined (λ n. bytes_of (e.piece generation n)) count ≡ bytes)

-- a log as callers see it: its text, where that is known, how many bytes of it were said to be kept, and whether it
-- failed, or no text was put in place yet
pub record Logged : Type 0 where
  pub text : Option (List ℕ)
  pub kept : ℕ
  pub failed : Bool

-- and as its owner has it: the engine, the tail that he knows, the latest generation that he wrote, how many bytes the text
-- has at most, whether it failed, and whether that is for good
pub record Held : Type 0 where
  pub engine : Option Engine
  pub tail : Tail
  pub latest : ℕ
  pub size : ℕ
  pub failed : Bool
  pub gone : Bool

-- as long as it is not gone the tail is that of the engine
pub record IsLogged (log : Held) : Type 0 where
  pub here : log.gone ≡ false → HasTail log.engine log.tail
  pub over : log.gone ≡ true → log.failed ≡ true
  pub latest : log.tail.generation ≤ log.latest
  pub within : log.failed ≡ false → IfSome (text_in log.engine) (λ text. length text ≤ log.size)

-- what stands there is what stood there, or just these bytes
abbrev pub MayHaveJust : Option (List ℕ) → Option (List ℕ) → List ℕ → Type 0
MayHaveJust old new bytes = (new ≡ old) ⊎ IfSome new (λ text. text ≡ bytes)

-- what was found says this tail, if it was found
abbrev pub IsSeen : Option (Vec ℕ Global) → Option Tail → Type 0
IsSeen None seen = seen ≡ None
IsSeen (Some bytes) None = ⊥
IsSeen (Some bytes) (Some tail) = (bytes.items ≡ spelled tail) × Fits tail

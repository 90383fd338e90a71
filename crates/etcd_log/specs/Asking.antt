-- What it means to ask an engine that is known.
use Rattle.std.specs.Prelude.{◌≡◌, ◌⊎◌, ℕ, Option, Some, None, Vec, IfSome, option_map, ⊤}
use Rattle.std.proofs.Common.{Global}
use Rattle.fenced.specs.Engine.{Engine, Tail}
use Rattle.fenced.specs.Requests.{Answer as Told, Done as told_done, PieceIs, Request as Asked, TailIs, after, answer_of}
use Rattle.etcd_text.specs.declared.answer.Answer.{Answer}
use Rattle.etcd_text.specs.declared.answer.Answer.TheVariants.{Done, Value}
use Rattle.etcd_text.specs.Tails.{Fits, spelled}

-- two engines have the same tail and the same pieces
pub record IsSame (one other : Engine) : Type 0 where
  pub tail : one.tail ≡ other.tail
  pub piece : (generation number : ℕ) → one.piece generation number ≡ other.piece generation number

-- an answer tells what the model's does, whose numbers have 64 bits
abbrev pub Tells : Told → Answer → Type 0
Tells told_done Done = ⊤
Tells told_done (Value found) = ⊥
Tells (TailIs tail) Done = ⊥
Tells (TailIs None) (Value found) = found ≡ None
Tells (TailIs (Some tail)) (Value None) = ⊥
Tells (TailIs (Some tail)) (Value (Some bytes)) = (bytes.items ≡ spelled tail) × Fits tail
Tells (PieceIs piece) Done = ⊥
Tells (PieceIs piece) (Value found) = option_map (λ bytes. bytes.items) found ≡ piece

-- a known engine has done the request, or that is known of none
abbrev pub IsDone : Asked → Option Engine → Option Engine → Type 0
IsDone request None new = new ≡ None
IsDone request (Some old) None = ⊥
IsDone request (Some old) (Some new) = IsSame new (after old request)

-- it has done it, or not
abbrev pub MayBeDone : Asked → Option Engine → Option Engine → Type 0
MayBeDone request None new = new ≡ None
MayBeDone request (Some old) None = ⊥
MayBeDone request (Some old) (Some new) = IsSame new old ⊎ IsSame new (after old request)

-- and what it answers is what it did
abbrev pub IsToldBy : Asked → Option Engine → Answer → Type 0
IsToldBy request None answer = ⊤
IsToldBy request (Some old) answer = Tells (answer_of old request) answer

-- an answer says that a request is done that was to leave this tail: now, or by the same one that was sent before; of
-- one that leaves the tail as it is nothing but the first says so
abbrev pub SaysDone : Option Tail → Answer → Type 0
SaysDone next Done = ⊤
SaysDone None (Value found) = ⊥
SaysDone (Some tail) (Value None) = ⊥
SaysDone (Some tail) (Value (Some bytes)) = bytes.items ≡ spelled tail

-- two known engines are the same, or none is known
abbrev pub AreSame : Option Engine → Option Engine → Type 0
AreSame None new = new ≡ None
AreSame (Some old) None = ⊥
AreSame (Some old) (Some new) = IsSame new old

-- what was found is the text of the tail, if there is one; it is the piece
abbrev pub IsTailText : Option Tail → Option (Vec ℕ Global) → Type 0
IsTailText None found = found ≡ None
IsTailText (Some tail) None = ⊥
IsTailText (Some tail) (Some bytes) = (bytes.items ≡ spelled tail) × Fits tail

abbrev pub FindsTail : Option Engine → Option (Vec ℕ Global) → Type 0
FindsTail engine found = IfSome engine (λ e. IsTailText e.tail found)

abbrev pub FindsPiece : ℕ → ℕ → Option Engine → Option (Vec ℕ Global) → Type 0
FindsPiece generation number engine found =
    IfSome engine (λ e. e.piece generation number ≡ option_map (λ bytes. bytes.items) found)

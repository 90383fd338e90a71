-- The one spelling of a tail.
use Rattle.std.specs.Prelude.{◌≡◌, ◌≢◌, ◌<◌, ◌^◌, ℕ, List, [], ◌∷◌, ◌++◌, decimal, ⊤}
use Rattle.fenced.specs.Engine.{Tail as Said}
use Rattle.etcd_text.specs.declared.tail.Tail.{Tail}

-- what a tail says, as the log's model has it
abbrev pub said_by : Tail → Said
said_by tail = record { generation = tail.generation; count = tail.count; owner = tail.owner.now }

-- its numbers have 64 bits
pub record Fits (said : Said) : Type 0 where
  pub generation : said.generation < 2 ^ 64
  pub count : said.count < 2 ^ 64

-- `G N OWNER`: the generation and the count in decimal, and the owner, with a space between
abbrev pub spelled : Said → List ℕ
spelled said = decimal said.generation ++ 32 ∷ (decimal said.count ++ 32 ∷ said.owner)

-- no byte is a space
abbrev pub HasNoSpace : List ℕ → Type 0
HasNoSpace [] = ⊤
HasNoSpace (byte ∷ bytes) = (byte ≢ 32) × HasNoSpace bytes

-- bytes are parted at their first space
pub record IsParted (bytes front rest : List ℕ) : Type 0 where
  pub whole : bytes ≡ front ++ 32 ∷ rest
  pub first : HasNoSpace front

-- bytes are the text of this tail
pub record IsTailOf (bytes : List ℕ) (tail : Tail) : Type 0 where
  pub text : bytes ≡ spelled (said_by tail)
  pub fits : Fits (said_by tail)

-- no tail is spelled so
abbrev pub IsNoTail : List ℕ → Type 0
IsNoTail bytes = (said : Said) → Fits said → bytes ≢ spelled said

-- no number of 64 bits is
abbrev pub IsNoNumber : List ℕ → Type 0
IsNoNumber bytes = (n : ℕ) → n < 2 ^ 64 → bytes ≢ decimal n

-- two tails that are spelled alike are one
abbrev pub HaveOneSpelling : Said → Said → Type 0
HaveOneSpelling one other = Fits one → Fits other → spelled one ≡ spelled other → one ≡ other

-- What a run of the server does.
use Rattle.std.specs.Prelude.{◌≡◌, ℕ, Bool, false, List, [], ◌∷◌, ◌++◌, Option, None, Some, MatchBool}
use Rattle.engine.specs.declared.reply.Reply.{Reply}
use Rattle.engine.specs.Lines.{HasNoNewline}
use Rattle.engine.specs.Replies.{Meaning, Served, Fits, is_stop, made_of}
use Rattle.engine.specs.Handled.{RepliesTo}

-- One reply to each line, up to and with the first accepted stop. Where it is not the whole, they end somewhere before.
abbrev pub Answers : Meaning → Bool → List (List ℕ) → List Reply → Type 0
Answers meaning whole [] [] = Unit {0}
Answers meaning whole [] (reply ∷ replies) = ⊥
Answers meaning whole (line ∷ lines) [] = whole ≡ false
Answers meaning whole (line ∷ lines) (reply ∷ replies) =
    Fits meaning line reply × MatchBool (is_stop reply) (replies ≡ []) (Answers meaning whole lines replies)

-- The lines have their replies, which are written so, and the desk's list has the requests with their answers.
pub record Serves (meaning : Meaning) (whole : Bool) (lines : List (List ℕ)) (old new : Served)
    (AreWritten : List Reply → Type 0) : Type 0 where
  pub replies : List Reply
  pub answers : Answers meaning whole lines replies
  pub written : AreWritten replies
  pub served : new ≡ old ++ made_of replies

-- the reader had these bytes, where its bytes are known
abbrev pub IsInputOf : Option (List ℕ) → List ℕ → Type 0
IsInputOf (Some known) input = input ≡ known
IsInputOf None input = Unit {0}

-- there is an input of the reader's of which this is so
pub record HasInput (left : Option (List ℕ)) (IsSo : List ℕ → Type 0) : Type 0 where
  pub input : List ℕ
  pub its : IsInputOf left input
  pub so : IsSo input

-- Of what was read of the input the whole lines have their replies, and the part of a line behind them has none.
pub record ServesWhatWasRead (meaning : Meaning) (input : List ℕ) (left : Option (List ℕ)) (old new : Served)
    (AreWritten : List Reply → Type 0) : Type 0 where
  pub part : List ℕ
  pub unread : List ℕ
  pub left_is : IsInputOf left unread
  pub one : HasNoNewline part
  pub replied : RepliesTo meaning false input (part ++ unread) old new AreWritten

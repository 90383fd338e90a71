-- What was replied to the lines of some bytes.
use Rattle.std.specs.Prelude.{◌≡◌, ℕ, ◌≤◌, Bool, true, false, List, [], ◌∷◌, ◌++◌, length, drop, MatchBool}
use Rattle.engine.specs.declared.lines.Progress.{Progress}
use Rattle.engine.specs.declared.lines.Progress.TheVariants.{Replied, Stopped}
use Rattle.engine.specs.declared.reply.Reply.{Reply}
use Rattle.engine.specs.Lines.{HasNoNewline, HaveNoNewline, ended_lines}
use Rattle.engine.specs.Replies.{Meaning, Served, Fits, is_stop, made_of}

-- One reply to each line. Where it stopped the last one accepts a stop, and no other does.
abbrev pub Matches : Meaning → Bool → List (List ℕ) → List Reply → Type 0
Matches meaning stopped [] [] = stopped ≡ false
Matches meaning stopped [] (reply ∷ replies) = ⊥
Matches meaning stopped (line ∷ lines) [] = ⊥
Matches meaning stopped (line ∷ lines) (reply ∷ replies) =
    Fits meaning line reply
    × MatchBool (is_stop reply) ((lines ≡ []) × (replies ≡ []) × (stopped ≡ true))
    (Matches meaning stopped lines replies)

-- The bytes are whole lines, which have these replies, and then the rest.
pub record Handled (meaning : Meaning) (stopped : Bool) (bytes rest : List ℕ) (replies : List Reply) : Type 0 where
  pub lines : List (List ℕ)
  pub are_lines : HaveNoNewline lines
  pub parts : bytes ≡ ended_lines lines ++ rest
  pub fit : Matches meaning stopped lines replies

-- The whole lines before the rest have their replies, which are written so, and the desk's list has the requests with
-- their answers.
pub record RepliesTo (meaning : Meaning) (stopped : Bool) (bytes rest : List ℕ) (old new : Served)
    (AreWritten : List Reply → Type 0) : Type 0 where
  pub replies : List Reply
  pub handled : Handled meaning stopped bytes rest replies
  pub written : AreWritten replies
  pub served : new ≡ old ++ made_of replies

-- as far as these bytes go
abbrev pub RepliesAsFar : Meaning → Progress → List ℕ → Served → Served → (List Reply → Type 0) → Type 0
RepliesAsFar meaning (Replied used) bytes old new AreWritten =
    (used ≤ length bytes) × HasNoNewline (drop used bytes)
    × RepliesTo meaning false bytes (drop used bytes) old new AreWritten
RepliesAsFar meaning Stopped bytes old new AreWritten =
    (rest : List ℕ) × RepliesTo meaning true bytes rest old new AreWritten

-- as far as the writer went
abbrev pub RepliesUntilFault : Meaning → List ℕ → Served → Served → (List Reply → Type 0) → Type 0
RepliesUntilFault meaning bytes old new AreWritten =
    (stopped : Bool) × (rest : List ℕ) × RepliesTo meaning stopped bytes rest old new AreWritten

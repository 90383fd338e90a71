-- Replies to lines.
use Rattle.std.specs.Prelude.{◌≡◌, ◌⊎◌, ℕ, ◌≤◌, Bool, true, false, List, [], ◌∷◌, length, nat_lt, Result, Ok, Err, if◌then◌else◌}
use Rattle.std.specs.List.{flat_map}
use Rattle.wire.specs.declared.request.Request.{Request}
use Rattle.wire.specs.declared.request.Request.TheVariants.{Stop}
use Rattle.wire.specs.declared.answer.Answer.{Answer}
use Rattle.wire.specs.declared.answer.Answer.TheVariants.{Stopping, Refused}
use Rattle.words.specs.declared.refusal.Refusal.{Refusal}
use Rattle.words.specs.declared.refusal.Refusal.TheVariants.{TooLong, NoMemory}
use Rattle.replies.specs.Texts.{answer_line}
use Rattle.engine.specs.declared.limits.TheConstants.{MAX_LINE}
use Rattle.engine.specs.declared.reply.Reply.{Reply}
use Rattle.engine.specs.declared.reply.Reply.TheVariants.{Made, Fault}

-- the request that a line is, or its fault
abbrev pub Meaning : Type 0
Meaning = List ℕ → Result Request Refusal

-- the requests that were made, with their answers
abbrev pub Served : Type 0
Served = List (Request × Answer)

-- What is answered is what the line means, unless memory was refused.
abbrev pub Gives : Result Request Refusal → Result Request Refusal → Type 0
Gives (Ok request) meant = meant ≡ Ok request
Gives (Err fault) meant = (meant ≡ Err fault) ⊎ (fault ≡ NoMemory)

-- a long line means nothing else
abbrev pub meant : Meaning → List ℕ → Result Request Refusal
meant meaning line = if nat_lt MAX_LINE (length line) then Err TooLong else meaning line

-- The reply is to the line's request, or says its fault. Want of memory may come in place of either, but for a line
-- that is too long.
abbrev pub Fits : Meaning → List ℕ → Reply → Type 0
Fits meaning line (Made request answer) = meant meaning line ≡ Ok request
Fits meaning line (Fault fault) = (meant meaning line ≡ Err fault) ⊎ ((fault ≡ NoMemory) × (length line ≤ MAX_LINE))

-- an accepted stop
abbrev pub is_stop : Reply → Bool
is_stop (Made Stop Stopping) = true
is_stop _ = false

abbrev pub answer_of : Reply → Answer
answer_of (Made request answer) = answer
answer_of (Fault fault) = Refused fault

abbrev pub reply_line : Reply → List ℕ
reply_line reply = answer_line (answer_of reply)

abbrev pub output_of : List Reply → List ℕ
output_of replies = flat_map reply_line replies

abbrev pub made_of : List Reply → Served
made_of [] = []
made_of (Made request answer ∷ replies) = (request, answer) ∷ made_of replies
made_of (Fault fault ∷ replies) = made_of replies

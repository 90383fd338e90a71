-- The text of each answer: one JSON object without spaces.
use Rattle.std.specs.Prelude.{ℕ, List, [], ◌∷◌, ◌++◌, codes, decimal}
use Rattle.std.specs.List.{filter_map, join_with_byte}
use Rattle.std.specs.Option.{option_map}
use Rattle.hex.specs.Hex.{encode_lower}
use Rattle.words.specs.PlainQueue.{Value}
use Rattle.words.specs.Refusal.{code_of, name_of}
use Rattle.words.specs.declared.call.Reply.{Reply}
use Rattle.words.specs.declared.call.Reply.TheVariants as reply
use Rattle.words.specs.declared.refusal.Refusal.{Refusal}
use Rattle.words.specs.declared.told.Outcome.{Outcome}
use Rattle.words.specs.declared.told.Outcome.TheVariants.{NotTaken, Taken}
use Rattle.words.specs.declared.told.Row.{Row}
use Rattle.words.specs.declared.told.Row.TheVariants as row
use Rattle.words.specs.declared.told.Told.{Told}
use Rattle.words.specs.declared.told.Told.TheVariants as told
use Rattle.directory.specs.Directory.{Directory}
use Rattle.directory.specs.declared.queue.Queue.{Queue}
use Rattle.wire.specs.declared.answer.Answer.{Answer}
use Rattle.wire.specs.declared.answer.Answer.TheVariants as answer
use Rattle.wire.specs.Kinds.{kind_text}
use Rattle.replies.specs.declared.pieces.TheConstants.{COMMA, NEWLINE}

abbrev pub refusal_text : Refusal → List ℕ
refusal_text refusal =
    codes "{\"error\":" ++ decimal (code_of refusal) ++ codes ",\"name\":\"" ++ name_of refusal ++ codes "\"}"

-- a message, as a text of two lowercase hexadecimal digits for each byte
abbrev pub value_text : Value → List ℕ
value_text value = codes "\"" ++ encode_lower value ++ codes "\""

abbrev pub reply_text : Reply → List ℕ
reply_text reply.Done = codes "{\"reply\":\"done\"}"
reply_text (reply.Got value) = codes "{\"got\":" ++ value_text value ++ codes ",\"reply\":\"got\"}"
reply_text reply.Empty = codes "{\"reply\":\"empty\"}"

-- the call of this number took effect, with this reply
abbrev pub taken_text : ℕ → Reply → List ℕ
taken_text number reply.Done =
    codes "{\"number\":" ++ decimal number ++ codes ",\"reply\":\"done\",\"told\":\"taken\"}"
taken_text number (reply.Got value) =
    codes "{\"got\":" ++ value_text value ++ codes ",\"number\":" ++ decimal number
    ++ codes ",\"reply\":\"got\",\"told\":\"taken\"}"
taken_text number reply.Empty =
    codes "{\"number\":" ++ decimal number ++ codes ",\"reply\":\"empty\",\"told\":\"taken\"}"

abbrev pub outcome_text : ℕ → Outcome → List ℕ
outcome_text number NotTaken = codes "{\"number\":" ++ decimal number ++ codes ",\"told\":\"nottaken\"}"
outcome_text number (Taken reply) = taken_text number reply

abbrev pub row_text : Row → List ℕ
row_text row.NoCall = codes "{\"row\":\"nocall\"}"
row_text row.Open = codes "{\"row\":\"open\"}"
row_text row.Empty = codes "{\"row\":\"empty\"}"
row_text (row.Got value) = codes "{\"got\":" ++ value_text value ++ codes ",\"row\":\"got\"}"

abbrev pub told_text : Told → List ℕ
told_text told.None = codes "{\"told\":\"none\"}"
told_text (told.Verdict verdict) = outcome_text verdict.number verdict.outcome
told_text (told.Row row) = row_text row

abbrev pub queue_text : Queue → List ℕ
queue_text queue =
    codes "{\"kind\":\"" ++ kind_text queue.kind ++ codes "\",\"queue\":\"" ++ queue.name ++ codes "\"}"

-- the texts of the queues, in slot order
abbrev pub queue_texts : Directory → List (List ℕ)
queue_texts places = filter_map (option_map queue_text) places

abbrev pub queues_text : Directory → List ℕ
queues_text places = codes "{\"queues\":[" ++ join_with_byte COMMA (queue_texts places) ++ codes "]}"

abbrev pub answer_text : Answer → List ℕ
answer_text (answer.Created slot) = codes "{\"reply\":\"created\",\"slot\":" ++ decimal slot.0 ++ codes "}"
answer_text (answer.Queues places) = queues_text places
answer_text (answer.Reply reply) = reply_text reply
answer_text answer.Interrupted = codes "{\"reply\":\"interrupted\"}"
answer_text answer.Unfinished = codes "{\"reply\":\"unfinished\"}"
answer_text (answer.Told told) = told_text told
answer_text answer.Crashed = codes "{\"reply\":\"crashed\"}"
answer_text answer.Ready = codes "{\"reply\":\"ready\"}"
answer_text answer.Stopping = codes "{\"reply\":\"stopping\"}"
answer_text (answer.Refused refusal) = refusal_text refusal

-- the text and its newline
abbrev pub answer_line : Answer → List ℕ
answer_line answer = answer_text answer ++ NEWLINE ∷ []

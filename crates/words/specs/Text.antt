-- How a transcript spells replies and what clients are told.
use Rattle.std.specs.Prelude.{ℕ, List, ◌++◌, codes, decimal}
use Rattle.words.specs.Item.{item_text}
use Rattle.words.specs.PlainQueue.{Value}
use Rattle.words.specs.declared.call.Reply.{Reply}
use Rattle.words.specs.declared.call.Reply.TheVariants.{Done, Got, Empty}
use Rattle.words.specs.declared.told.Outcome.{Outcome}
use Rattle.words.specs.declared.told.Outcome.TheVariants.{NotTaken, Taken}
use Rattle.words.specs.declared.told.Verdict.{Verdict}
use Rattle.words.specs.declared.told.Row.{Row}
use Rattle.words.specs.declared.told.Row.TheVariants.{NoCall, Open, Empty as row_empty, Got as row_got}
use Rattle.words.specs.declared.told.Told.{Told}
use Rattle.words.specs.declared.told.Told.TheVariants.{None as told_none, Verdict as told_verdict, Row as told_row}

abbrev pub value_text : Value → List ℕ
value_text value = item_text value

abbrev pub reply_text : Reply → List ℕ
reply_text Done = codes "done"
reply_text (Got value) = codes "got " ++ value_text value
reply_text Empty = codes "empty"

abbrev pub outcome_text : Outcome → List ℕ
outcome_text NotTaken = codes "nottaken"
outcome_text (Taken reply) = reply_text reply

-- the number, a space and the outcome
abbrev pub verdict_text : Verdict → List ℕ
verdict_text verdict = decimal verdict.number ++ codes " " ++ outcome_text verdict.outcome

abbrev pub row_text : Row → List ℕ
row_text NoCall = codes "nocall"
row_text Open = codes "open"
row_text row_empty = codes "empty"
row_text (row_got value) = codes "got " ++ value_text value

abbrev pub told_text : Told → List ℕ
told_text told_none = codes "none"
told_text (told_verdict verdict) = verdict_text verdict
told_text (told_row row) = row_text row

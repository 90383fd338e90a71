-- What the lines of a transcript say.
use Rattle.std.specs.Prelude.{ℕ, ◌==◌, List, [], ◌∷◌, ◌++◌, if◌then◌else◌, codes, decimal}
use Rattle.std.specs.List.{flat_map}
use Rattle.words.specs.Refusal.{refusal_text}
use Rattle.words.specs.PlainQueue.{Value}
use Rattle.words.specs.Text.{value_text, reply_text, told_text}
use Rattle.words.specs.declared.call.Call.{Call}
use Rattle.words.specs.declared.call.Call.TheVariants.{Enq, Deq}
use Rattle.grammar.specs.Grammar.{command_text}
use Rattle.playing.specs.declared.entries.Ordered.{Ordered}
use Rattle.playing.specs.declared.lines.Line.{Line}
use Rattle.playing.specs.declared.lines.Line.TheVariants.{Size, Call as called, Return, Refused, Evicted, Crash, Recovering, Ready, Told, Content, Order, Entry}

-- the values that a queue holds, each after a space, or a dash where there are none
abbrev pub spaced_value : Value → List ℕ
spaced_value value = codes " " ++ value_text value

abbrev pub values_text : List Value → List ℕ
values_text [] = codes " -"
values_text (value ∷ values) = flat_map spaced_value (value ∷ values)

-- a call in the order: its client, its number on a log queue, what it asked for and its reply
abbrev pub number_text : ℕ → List ℕ
number_text number = if number == 0 then codes "" else codes " #" ++ decimal number

abbrev pub asked_text : Call → List ℕ
asked_text (Enq value) = codes " enq " ++ value_text value ++ codes " "
asked_text Deq = codes " deq "

abbrev pub ordered_text : Ordered → List ℕ
ordered_text o = decimal o.client.0 ++ number_text o.number ++ asked_text o.call ++ reply_text o.reply

-- a line
abbrev pub line_text : Line → List ℕ
line_text (Size words) = codes "size " ++ decimal words
line_text (called command) = codes "call " ++ command_text command
line_text (Return client reply steps) =
    codes "return " ++ decimal client.0 ++ codes " " ++ reply_text reply ++ codes " steps " ++ decimal steps
line_text (Refused refusal) = codes "refused " ++ refusal_text refusal
line_text (Evicted word changed) = codes "evict " ++ decimal word ++ (if changed then codes " kept" else codes " same")
line_text Crash = codes "crash"
line_text Recovering = codes "recovering"
line_text (Ready steps) = codes "ready steps " ++ decimal steps
line_text (Told client told) = codes "told " ++ decimal client.0 ++ codes " " ++ told_text told
line_text (Content values) = codes "content" ++ values_text values
line_text (Order calls) = codes "order " ++ decimal calls
line_text (Entry ordered) = ordered_text ordered

-- the text of some lines has a newline after each
abbrev pub ended_text : Line → List ℕ
ended_text line = line_text line ++ codes "\n"

abbrev pub text_of : List Line → List ℕ
text_of lines = flat_map ended_text lines

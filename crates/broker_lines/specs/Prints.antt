-- What the lines of a broker's transcript say.
use Rattle.std.specs.Prelude.{ℕ, List, ◌++◌, Some, None, codes, decimal}
use Rattle.std.specs.List.{flat_map}
use Rattle.words.specs.Item.{item_text}
use Rattle.words.specs.Refusal.{refusal_text}
use Rattle.words.specs.Text.{reply_text, value_text}
use Rattle.words.specs.declared.call.Call.{Call}
use Rattle.words.specs.declared.call.Call.TheVariants.{Enq, Deq}
use Rattle.words.specs.declared.refusal.Refusal.TheVariants.{Damaged}
use Rattle.words.specs.declared.refusal.Rule.{Rule}
use Rattle.words.specs.declared.refusal.Rule.TheVariants.{Size, Records, Chain, Claims, Ends, Rows, Entries, Image, Directory}
use Rattle.grammar.specs.Grammar.{kind_word}
use Rattle.playing.specs.Prints.{line_text}
use Rattle.broker_lines.specs.declared.printed.Printed.{Printed}
use Rattle.broker_lines.specs.declared.printed.Printed.TheVariants.{Whole, Of, Created, Creating, Found, Queues, Place, Rotated, Renewed, Image as image, WasSet, Booted, Unsound, Replied, Begun}

-- the name of a rule of sound words
abbrev pub rule_word : Rule → List ℕ
rule_word Size = codes "Size"
rule_word Records = codes "Records"
rule_word Chain = codes "Chain"
rule_word Claims = codes "Claims"
rule_word Ends = codes "Ends"
rule_word Rows = codes "Rows"
rule_word Entries = codes "Entries"
rule_word Image = codes "Image"
rule_word Directory = codes "Directory"

-- a call without its client
abbrev pub call_text : Call → List ℕ
call_text (Enq value) = codes "enq " ++ value_text value
call_text Deq = codes "deq"

-- a line: one that is about a queue begins with its name
abbrev pub printed_text : Printed → List ℕ
printed_text (Whole line) = line_text line
printed_text (Of name line) = name ++ codes ": " ++ line_text line
printed_text (Created name slot steps) =
    codes "created " ++ name ++ codes " slot " ++ decimal slot.0 ++ codes " steps " ++ decimal steps
printed_text Creating = codes "creating"
printed_text (Found name slot) = codes "found " ++ name ++ codes " slot " ++ decimal slot.0
printed_text (Queues count) = codes "queues " ++ decimal count
printed_text (Place slot queue) =
    codes "slot " ++ decimal slot.0 ++ codes " " ++ queue.name ++ codes " " ++ kind_word queue.kind
printed_text Rotated = codes "rotated"
printed_text Renewed = codes "renewed"
printed_text (image size digest) = codes "image bytes " ++ decimal size ++ codes " digest " ++ item_text digest
printed_text (WasSet word was) = codes "set " ++ decimal word ++ codes " was " ++ decimal was
printed_text Booted = codes "booted"
printed_text (Unsound rule) = codes "refused " ++ refusal_text (Damaged rule) ++ codes " " ++ rule_word rule
printed_text (Replied name client (Some number) reply) =
    name ++ codes ": reply " ++ decimal client.0 ++ codes " " ++ decimal number ++ codes " " ++ reply_text reply
printed_text (Replied name client None reply) =
    name ++ codes ": reply " ++ decimal client.0 ++ codes " " ++ reply_text reply
printed_text (Begun name client number call) =
    name ++ codes ": call begin " ++ decimal client.0 ++ codes " " ++ decimal number ++ codes " " ++ call_text call

-- the text of some lines has a newline after each
abbrev pub ended_text : Printed → List ℕ
ended_text line = printed_text line ++ codes "\n"

abbrev pub text_of : List Printed → List ℕ
text_of lines = flat_map ended_text lines

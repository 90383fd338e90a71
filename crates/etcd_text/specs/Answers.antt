-- What an answer says: a JSON object, in which all is left out that is false, 0 or empty.
use Rattle.std.specs.Prelude.{◌≡◌, ℕ, Bool, true, false, List, [], Option, Some, None, Result, codes, option_map, option_and_then, if◌then◌else◌}
use Rattle.std.specs.Str.{is_utf8}
use Rattle.std.specs.Option.{option_map_or}
use Rattle.std.specs.Result.{result_ok}
use Rattle.base64.specs.GeneralPurpose.{decode_of}
use Rattle.base64.specs.Engines.{standard}
use Rattle.serde_json.specs.Data.{Data}
use Rattle.serde_json.specs.Find.{as_bool, as_str, at, get}
use Rattle.serde_json.specs.Read.{read}
use Rattle.etcd_text.specs.declared.answer.Answer.{Answer}
use Rattle.etcd_text.specs.declared.answer.Answer.TheVariants.{Done, Value}

-- it is done; or this is the value that was asked for, if there is one
pub data Meaning : Type 0 where
  does : Meaning
  has : Option (List ℕ) → Meaning

abbrev pub meant_by : Answer → Meaning
meant_by Done = does
meant_by (Value found) = has (option_map (λ bytes. bytes.items) found)

-- the bytes that a text has in base64
unfoldable pub bytes_in : List ℕ → Option (List ℕ)
bytes_in text = result_ok (decode_of standard text)

-- the value of a key and its value
abbrev pub value_in : Option Data → Option (List ℕ)
value_in None = Some []
value_in (Some value) = option_and_then bytes_in (as_str value)

abbrev pub value_of : Data → Option (List ℕ)
value_of pair = value_in (get (codes "value") pair)

-- the value that a range found, if it found one; nothing, where it is no range
abbrev pub first_of : Option Data → Option (Option (List ℕ))
first_of None = Some None
first_of (Some pairs) = option_map (λ value. Some value) (option_and_then value_of (at 0 pairs))

unfoldable pub found_in : Data → Option (Option (List ℕ))
found_in range = first_of (get (codes "kvs") range)

-- what was asked for where a transaction did nothing: its first response is a range
abbrev pub told_in : Data → Option Data
told_in answer =
    option_and_then (get (codes "response_range")) (option_and_then (at 0) (get (codes "responses") answer))

-- whether a transaction did what it was to do
abbrev pub succeeded : Data → Option Bool
succeeded answer = option_map_or as_bool (get (codes "succeeded") answer) (Some false)

-- what a transaction's answer says, and a range's
abbrev pub by_success : Option Bool → Data → Option Meaning
by_success None answer = None
by_success (Some true) answer = Some does
by_success (Some false) answer = option_map has (option_and_then found_in (told_in answer))

abbrev pub transaction_meaning : Data → Option Meaning
transaction_meaning answer = by_success (succeeded answer) answer

abbrev pub range_meaning : Data → Option Meaning
range_meaning answer = option_map has (found_in answer)

-- so it is where it has a header, as all of them have
abbrev pub value_meaning : Bool → Data → Option Meaning
value_meaning is_range answer =
    option_and_then (λ header. if is_range then range_meaning answer else transaction_meaning answer)
    (get (codes "header") answer)

abbrev pub text_meaning : Bool → List ℕ → Option Meaning
text_meaning is_range text = option_and_then (value_meaning is_range) (read text)

-- what a body says, to a range or to a transaction
unfoldable pub meaning : Bool → List ℕ → Option Meaning
meaning is_range body = if is_utf8 body then text_meaning is_range body else None

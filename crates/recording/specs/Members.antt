-- What a line without times says, by its JSON object.
use Rattle.std.specs.Prelude.{ℕ, ◌||◌, List, Bool, not, codes, Option, Some, None, is_some, option_map}
use Rattle.std.specs.Prelude.{option_and_then, if◌then◌else◌, string_bytes}
use Rattle.std.specs.Prelude.{[], ◌∷◌, map, String, Vec}
use Rattle.std.specs.declared.alloc.Global.{Global}
use Rattle.std.specs.Str.{bytes_eq}
use Rattle.serde_json.specs.Data.{Data, Items, no_items, item}
use Rattle.serde_json.specs.Find.{get, as_str, as_array, as_number, as_u64, as_i64}
use Rattle.serde_json.specs.Written.{compact_text}
use Rattle.recording.specs.declared.line.Answered.{Answered}
use Rattle.recording.specs.declared.line.Answered.TheVariants.{Done, Got, Empty, Refused, Unknown}
use Rattle.recording.specs.declared.line.Line.{Line}
use Rattle.recording.specs.declared.line.Line.TheVariants.{Base, Final, Begin, Answer, Crash, Told as line_told}
use Rattle.recording.specs.declared.line.Line.TheVariants.{Whole, CrashAt}
use Rattle.recording.specs.declared.line.Told.{Told}
use Rattle.recording.specs.declared.line.Told.TheVariants.{NotTaken, Taken}

-- whether it is a text or a whole number, by which clients and values are named
abbrev pub is_key : Data → Bool
is_key json = is_some (as_str json)
    || (is_some (option_and_then as_u64 (as_number json)) || is_some (option_and_then as_i64 (as_number json)))

-- its JSON text, if it is
abbrev pub key_in : Data → Option (List ℕ)
key_in json = if is_key json then Some (compact_text json) else None

-- the bytes of texts
abbrev pub texts_in : Vec (String Global) Global → List (List ℕ)
texts_in texts = map string_bytes texts.items

-- those of a list, if each of its items has one
abbrev pub keys_in : Items → Option (List (List ℕ))
keys_in no_items = Some []
keys_in (item json items) =
    option_and_then (λ key. option_map (λ keys. key ∷ keys) (keys_in items)) (key_in json)

abbrev pub keys_at : Data → Option (List (List ℕ))
keys_at json = option_and_then keys_in (as_array json)

-- the same of a member
abbrev pub key_at : List ℕ → Data → Option (List ℕ)
key_at name json = option_and_then key_in (get name json)

-- the text at a key
abbrev pub text_at : List ℕ → Data → Option (List ℕ)
text_at name json = option_and_then as_str (get name json)

-- a reply by its word, and what it got
abbrev pub Reply : Type 0
Reply = List ℕ × Option (List ℕ)

abbrev pub reply_of : Answered → Reply
reply_of Done = (codes "done", None)
reply_of (Got text) = (codes "got", Some (string_bytes text))
reply_of Empty = (codes "empty", None)
reply_of Refused = (codes "refused", None)
reply_of Unknown = (codes "unknown", None)

-- the reply of this word
abbrev pub reply_with : List ℕ → Data → Option Reply
reply_with word json =
    if bytes_eq word (codes "done") then Some (codes "done", None)
    else (if bytes_eq word (codes "empty") then Some (codes "empty", None)
    else (if bytes_eq word (codes "refused") then Some (codes "refused", None)
    else (if bytes_eq word (codes "unknown") then Some (codes "unknown", None)
    else (if bytes_eq word (codes "got") then option_map (λ text. (codes "got", Some text)) (key_at (codes "got") json)
    else None))))

-- the reply that a line has
abbrev pub reply_in : Data → Option Reply
reply_in json = option_and_then (λ word. reply_with word json) (text_at (codes "reply") json)

-- what is told of an interrupted call: that it took no effect, or that it did, with this reply
abbrev pub told_of : Told → Option Reply
told_of NotTaken = None
told_of (Taken answered) = Some (reply_of answered)

-- a reply that a call which took effect can have
abbrev pub is_effect : Reply → Bool
is_effect reply = not (bytes_eq reply.0 (codes "refused") || bytes_eq reply.0 (codes "unknown"))

abbrev pub effect_in : Option Reply → Option (Option Reply)
effect_in None = None
effect_in (Some reply) = if is_effect reply then Some (Some reply) else None

-- what an object tells
abbrev pub told_in : Data → Option (Option Reply)
told_in json = option_and_then
    (λ word. if bytes_eq word (codes "nottaken") then Some None
    else (if bytes_eq word (codes "taken") then effect_in (reply_in json) else None))
    (text_at (codes "told") json)

-- what a line says, by the bytes of its texts; of lines with times no more than that
pub data Said : Type 0 where
  begins : List ℕ → Option (List ℕ) → Said
  answers : List ℕ → Reply → Said
  crashes : Said
  tells : List ℕ → Option Reply → Said
  held : List (List ℕ) → Said
  left : List (List ℕ) → Said
  others : Said

abbrev pub said_of : Line → Said
said_of (Begin client puts) = begins (string_bytes client) (option_map string_bytes puts)
said_of (Answer client answered) = answers (string_bytes client) (reply_of answered)
said_of Crash = crashes
said_of (line_told client told) = tells (string_bytes client) (told_of told)
said_of (Whole whole) = others
said_of (CrashAt moment) = others
said_of (Base values) = held (texts_in values)
said_of (Final values) = left (texts_in values)

-- an object without times
abbrev pub is_plain : Data → Bool
is_plain json = not (is_some (get (codes "from") json) || is_some (get (codes "at") json))

-- a call of a client; it has no reply
abbrev pub call_in : List ℕ → Option (List ℕ) → Data → Option Said
call_in client puts json = if is_some (get (codes "reply") json) then None else Some (begins client puts)

-- what a client does
abbrev pub deed_in : List ℕ → List ℕ → Data → Option Said
deed_in op client json =
    if bytes_eq op (codes "put")
    then option_and_then (λ value. call_in client (Some value) json) (key_at (codes "value") json)
    else (if bytes_eq op (codes "take") then call_in client None json else None)

-- an object with this text at `op`
abbrev pub operation_in : List ℕ → Data → Option Said
operation_in op json =
    if bytes_eq op (codes "crash") then Some crashes
    else option_and_then (λ client. deed_in op client json) (key_at (codes "client") json)

-- an object without `op`: what a client is answered, or told
abbrev pub rest_of : List ℕ → Data → Option Said
rest_of client json =
    if is_some (get (codes "told") json) then option_map (tells client) (told_in json)
    else option_map (answers client) (reply_in json)

abbrev pub rest_in : Data → Option Said
rest_in json = option_and_then (λ client. rest_of client json) (key_at (codes "client") json)

-- an object without `base` and `final`: with `op`, which is a text, or without it
abbrev pub deed_with : Option Data → Data → Option Said
deed_with None json = rest_in json
deed_with (Some op) json = option_and_then (λ text. operation_in text json) (as_str op)

abbrev pub left_with : Option Data → Data → Option Said
left_with None json = deed_with (get (codes "op") json) json
left_with (Some values) json = option_map left (keys_at values)

-- what an object says that is plain
abbrev pub said_with : Option Data → Data → Option Said
said_with None json = left_with (get (codes "final") json) json
said_with (Some values) json = option_map held (keys_at values)

abbrev pub said_in : Data → Option Said
said_in json = said_with (get (codes "base") json) json

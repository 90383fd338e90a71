-- The requests that are served, a row for each: which JSON object asks what.
use Rattle.std.specs.Prelude.{ℕ, ◌&&◌, List, [], ◌∷◌, Bool, codes, nat_le, Option, Some, None, is_some, option_map, option_and_then, if◌then◌else◌}
use Rattle.std.specs.Str.{bytes_eq}
use Rattle.serde_json.specs.Data.{Data}
use Rattle.serde_json.specs.Find.{get}
use Rattle.words.specs.declared.call.Kind.{Kind}
use Rattle.words.specs.declared.call.Kind.TheVariants.{Durable, Log}
use Rattle.words.specs.Item.{item_in}
use Rattle.words.specs.PlainQueue.{Value}
use Rattle.words.specs.declared.limits.TheConstants.{MAX_CALL_NUMBER}
use Rattle.directory.specs.Name.{is_name}
use Rattle.wire.specs.declared.request.Request.{Request}
use Rattle.wire.specs.declared.request.Request.TheVariants.{Create, List as ListAll, Put, Take, Told, Crash, Recover, Stop}
use Rattle.requests.specs.Members.{has_keys, text_at, whole_at}

-- an option, and then what is found by its value
infixl 10 ◌>>=◌
abbrev ◌>>=◌ : {A B : Type 0} → Option A → (A → Option B) → Option B
option >>= f = option_and_then f option

-- the number, if it is within these limits
abbrev pub within : ℕ → ℕ → ℕ → Option ℕ
within least most n = if nat_le least n && nat_le n most then Some n else None

-- the name that a text is, if it is one
abbrev pub name_in : List ℕ → Option (List ℕ)
name_in text = if is_name text then Some text else None

-- the message that a text spells, two lowercase hexadecimal digits for each byte, if it spells one
abbrev pub value_in : List ℕ → Option Value
value_in text = item_in text

abbrev pub kind_in : List ℕ → Option Kind
kind_in text =
    if bytes_eq text (codes "durable") then Some Durable
    else (if bytes_eq text (codes "log") then Some Log else None)

-- what stands at each key, in its limits; a client's number may be any below 2^64
abbrev pub client_at : Data → Option ℕ
client_at json = whole_at (codes "client") json

unfoldable pub value_at : Data → Option Value
value_at json = option_and_then value_in (text_at (codes "value") json)

unfoldable pub number_at : Data → Option ℕ
number_at json = option_and_then (within 1 MAX_CALL_NUMBER) (whole_at (codes "number") json)

-- a text at `queue`, and the name that it is; a text that is no name asks for no queue
unfoldable pub queue_at : Data → Option (Option (List ℕ))
queue_at json = option_map name_in (text_at (codes "queue") json)

unfoldable pub kind_at : Data → Option Kind
kind_at json = option_and_then kind_in (text_at (codes "kind") json)

-- the request of an object that has exactly these keys
abbrev pub with_keys : List (List ℕ) → Data → Option Request → Option Request
with_keys keys json request = if has_keys keys json then request else None

unfoldable pub create_in : Data → Option Request
create_in json = with_keys (codes "op" ∷ codes "queue" ∷ codes "kind" ∷ []) json (do
  queue ← queue_at json
  kind ← kind_at json
  Some (Create queue kind))

unfoldable pub put_in : Data → Option Request
put_in json = with_keys (codes "op" ∷ codes "client" ∷ codes "queue" ∷ codes "value" ∷ []) json (do
  client ← client_at json
  queue ← queue_at json
  value ← value_at json
  Some (Put client queue value None))

unfoldable pub numbered_put_in : Data → Option Request
numbered_put_in json = with_keys
    (codes "op" ∷ codes "client" ∷ codes "queue" ∷ codes "value" ∷ codes "number" ∷ []) json (do
      client ← client_at json
      queue ← queue_at json
      value ← value_at json
      number ← number_at json
      Some (Put client queue value (Some number)))

unfoldable pub take_in : Data → Option Request
take_in json = with_keys (codes "op" ∷ codes "client" ∷ codes "queue" ∷ []) json (do
  client ← client_at json
  queue ← queue_at json
  Some (Take client queue None))

unfoldable pub numbered_take_in : Data → Option Request
numbered_take_in json = with_keys (codes "op" ∷ codes "client" ∷ codes "queue" ∷ codes "number" ∷ []) json (do
  client ← client_at json
  queue ← queue_at json
  number ← number_at json
  Some (Take client queue (Some number)))

unfoldable pub told_in : Data → Option Request
told_in json = with_keys (codes "op" ∷ codes "client" ∷ codes "queue" ∷ []) json (do
  client ← client_at json
  queue ← queue_at json
  Some (Told client queue))

-- a request that has no key but `op`
abbrev pub alone : Request → Data → Option Request
alone request json = with_keys (codes "op" ∷ []) json (Some request)

abbrev pub is_numbered : Data → Bool
is_numbered json = is_some (get (codes "number") json)

-- the request that an object with this text at `op` is
abbrev pub row_of : List ℕ → Data → Option Request
row_of op json =
    if bytes_eq op (codes "create") then create_in json
    else (if bytes_eq op (codes "list") then alone ListAll json
    else (if bytes_eq op (codes "put") then (if is_numbered json then numbered_put_in json else put_in json)
    else (if bytes_eq op (codes "take") then (if is_numbered json then numbered_take_in json else take_in json)
    else (if bytes_eq op (codes "told") then told_in json
    else (if bytes_eq op (codes "crash") then alone Crash json
    else (if bytes_eq op (codes "recover") then alone Recover json
    else (if bytes_eq op (codes "stop") then alone Stop json
    else None)))))))

-- the request that a JSON value is, if it is one
unfoldable pub request_in : Data → Option Request
request_in json = do
  op ← text_at (codes "op") json
  row_of op json

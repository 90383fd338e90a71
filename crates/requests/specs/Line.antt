-- What a line means.
use Rattle.std.specs.Prelude.{ℕ, List, Result, Ok, Err, if◌then◌else◌}
use Rattle.std.specs.Str.{is_utf8}
use Rattle.std.specs.Option.{option_map_or}
use Rattle.serde_json.specs.Data.{Data}
use Rattle.serde_json.specs.Read.{read}
use Rattle.words.specs.declared.refusal.Refusal.{Refusal}
use Rattle.words.specs.declared.refusal.Refusal.TheVariants.{BadJson, BadRequest}
use Rattle.wire.specs.declared.request.Request.{Request}
use Rattle.requests.specs.Rows.{request_in}

-- a JSON value means the request that it is, else BadRequest
abbrev pub value_meaning : Data → Result Request Refusal
value_meaning json = option_map_or Ok (request_in json) (Err BadRequest)

-- a text means what its JSON value does, else BadJson
abbrev pub text_meaning : List ℕ → Result Request Refusal
text_meaning text = option_map_or value_meaning (read text) (Err BadJson)

-- a line that is no text means BadJson
unfoldable pub meaning : List ℕ → Result Request Refusal
meaning line = if is_utf8 line then text_meaning line else Err BadJson

-- The text of each request: one JSON object without spaces, whose keys and values are in base64.
use Rattle.std.specs.Prelude.{ℕ, Bool, true, false, List, ◌++◌, Option, Some, None, codes, if◌then◌else◌}
use Rattle.std.specs.Int.{to_be_bytes}
use Rattle.std.proofs.Common.{w64}
use Rattle.hex.specs.Hex.{encode_lower}
use Rattle.base64.specs.GeneralPurpose.{encode_of}
use Rattle.base64.specs.Engines.{standard}
use Rattle.fenced.specs.Engine.{Tail}
use Rattle.fenced.specs.Requests.{Ask, Drop, Fresh, Place, Put, Read, Request, Take, longer, placed, taken}
use Rattle.etcd_text.specs.Tails.{spelled}

-- ---- keys, of the log that has this name

abbrev pub tail_key : List ℕ → List ℕ
tail_key name = name ++ codes "/tail"

-- 16 hexadecimal digits
abbrev pub digits_of : ℕ → List ℕ
digits_of n = encode_lower (to_be_bytes w64 n)

-- where the keys of a generation begin
abbrev pub generation_key : List ℕ → ℕ → List ℕ
generation_key name generation = name ++ codes "/" ++ digits_of generation ++ codes "/"

abbrev pub piece_key : List ℕ → ℕ → ℕ → List ℕ
piece_key name generation number = generation_key name generation ++ digits_of number

-- before all generations
abbrev pub first_key : List ℕ → List ℕ
first_key name = name ++ codes "/0"

-- ---- parts

-- a text: bytes in base64, between quotes
unfoldable pub quoted : List ℕ → List ℕ
quoted bytes = codes "\"" ++ encode_of standard bytes ++ codes "\""

-- the key, and what stands there
unfoldable pub range_text : List ℕ → List ℕ
range_text key = codes "{\"key\":" ++ quoted key ++ codes "}"

-- it is to have this value
unfoldable pub put_text : List ℕ → List ℕ → List ℕ
put_text key bytes = codes "{\"request_put\":{\"key\":" ++ quoted key ++ codes ",\"value\":" ++ quoted bytes ++ codes "}}"

-- keys from one up to another are to go
unfoldable pub delete_text : List ℕ → List ℕ → List ℕ
delete_text from to =
    codes "{\"request_delete_range\":{\"key\":" ++ quoted from ++ codes ",\"range_end\":" ++ quoted to ++ codes "}}"

-- there is to be no such key; it is to have this value
unfoldable pub absent_text : List ℕ → List ℕ
absent_text key =
    codes "{\"key\":" ++ quoted key ++ codes ",\"target\":\"CREATE\",\"result\":\"EQUAL\",\"create_revision\":\"0\"}"

unfoldable pub equal_text : List ℕ → List ℕ → List ℕ
equal_text key bytes =
    codes "{\"key\":" ++ quoted key ++ codes ",\"target\":\"VALUE\",\"result\":\"EQUAL\",\"value\":" ++ quoted bytes
    ++ codes "}"

-- what a transaction compares the tail's key with: that there is none; this tail
abbrev pub compare_text : List ℕ → Option Tail → List ℕ
compare_text name None = absent_text (tail_key name)
compare_text name (Some tail) = equal_text (tail_key name) (spelled tail)

-- where a transaction begins: what it compares; and where it ends: it tells the tail where that is another one
unfoldable pub compared_text : List ℕ → Option Tail → List ℕ
compared_text name seen = codes "{\"compare\":[" ++ compare_text name seen ++ codes "],\"success\":["

unfoldable pub failure_text : List ℕ → List ℕ
failure_text name = codes "],\"failure\":[{\"request_range\":" ++ range_text (tail_key name) ++ codes "}]}"

-- the tail is to be another one
unfoldable pub moving_text : List ℕ → Option Tail → Tail → List ℕ
moving_text name seen next =
    compared_text name seen ++ put_text (tail_key name) (spelled next) ++ failure_text name

-- a piece is to have these bytes
unfoldable pub fresh_text : List ℕ → Tail → ℕ → ℕ → List ℕ → List ℕ
fresh_text name tail generation number bytes =
    compared_text name (Some tail) ++ put_text (piece_key name generation number) bytes ++ failure_text name

-- so is the next one, and the tail is to have it
unfoldable pub both_text : List ℕ → Tail → List ℕ → List ℕ
both_text name tail bytes =
    put_text (piece_key name tail.generation tail.count) bytes ++ codes ","
    ++ put_text (tail_key name) (spelled (longer tail))

unfoldable pub next_text : List ℕ → Tail → List ℕ → List ℕ
next_text name tail bytes = compared_text name (Some tail) ++ both_text name tail bytes ++ failure_text name

-- the generations below the tail's are to go
unfoldable pub older_text : List ℕ → Tail → List ℕ
older_text name tail =
    compared_text name (Some tail) ++ delete_text (first_key name) (generation_key name tail.generation)
    ++ failure_text name

-- ---- requests

abbrev pub text_of : List ℕ → Request → List ℕ
text_of name (Take seen owner) = moving_text name seen (taken seen owner)
text_of name (Put tail bytes) = next_text name tail bytes
text_of name (Fresh tail generation number bytes) = fresh_text name tail generation number bytes
text_of name (Place tail generation count) = moving_text name (Some tail) (placed tail generation count)
text_of name (Drop tail) = older_text name tail
text_of name Ask = range_text (tail_key name)
text_of name (Read generation number) = range_text (piece_key name generation number)

-- a question asks for a range, and all others are transactions
abbrev pub is_range : Request → Bool
is_range Ask = true
is_range (Read generation number) = true
is_range _ = false

-- where it is sent to
abbrev pub path_of : Request → List ℕ
path_of request = if is_range request then codes "/v3/kv/range" else codes "/v3/kv/txn"

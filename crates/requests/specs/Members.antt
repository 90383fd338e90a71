-- What stands at the keys of a JSON object.
use Rattle.std.specs.Prelude.{ℕ, suc, ◌&&◌, ◌==◌, List, length, Bool, Option, is_some, option_and_then}
use Rattle.std.specs.Option.{option_map_or}
use Rattle.std.specs.List.{list_all}
use Rattle.serde_json.specs.Data.{Data, Members, no_members, member}
use Rattle.serde_json.specs.Find.{get, as_str, as_number, as_u64, as_object}

-- how many members an object has: no two of them have one key
abbrev pub member_count : Members → ℕ
member_count no_members = 0
member_count (member key json members) = suc (member_count members)

-- how many keys it has: none where it is no object
abbrev pub key_count : Data → ℕ
key_count json = option_map_or member_count (as_object json) 0

-- exactly these keys, in any order: as many as these, and each of these
abbrev pub has_keys : List (List ℕ) → Data → Bool
has_keys keys json = (key_count json == length keys) && list_all (λ key. is_some (get key json)) keys

-- the text at a key
abbrev pub text_at : List ℕ → Data → Option (List ℕ)
text_at key json = option_and_then as_str (get key json)

-- the whole number at a key, below 2^64 and written without sign, fraction or exponent: what has a sign is read as a
-- negative number or a float, and any other as a float
abbrev pub whole_at : List ℕ → Data → Option ℕ
whole_at key json = option_and_then as_u64 (option_and_then as_number (get key json))

-- What a hello says.
use Rattle.std.specs.Prelude.{ℕ, ◌==◌, List, Option, None, codes, option_and_then, if◌then◌else◌}
use Rattle.std.specs.Str.{bytes_eq, is_utf8}
use Rattle.serde_json.specs.Data.{Data, Members, member, no_members, object, string}
use Rattle.serde_json.specs.Read.{read}
use Rattle.serde_json.specs.Written.{compact_text}
use Rattle.requests.specs.Members.{key_count, text_at}

-- the secret that a JSON value says: an object of two keys, the text hello at one and the secret at the other
unfoldable pub said_in : Data → Option (List ℕ)
said_in json =
    if key_count json == 2
    then option_and_then (λ op. if bytes_eq op (codes "hello") then text_at (codes "secret") json else None)
    (text_at (codes "op") json)
    else None

-- the one that a text says
abbrev pub said_in_text : List ℕ → Option (List ℕ)
said_in_text text = option_and_then said_in (read text)

-- the one that a line says; one that is no text says none
unfoldable pub said : List ℕ → Option (List ℕ)
said line = if is_utf8 line then said_in_text line else None

-- the object that says a secret, and the line with it
abbrev pub hello_members : List ℕ → Members
hello_members secret = member (codes "op") (string (codes "hello")) (member (codes "secret") (string secret) no_members)

abbrev pub hello : List ℕ → List ℕ
hello secret = compact_text (object (hello_members secret))

-- What is said by a hello.
use Rattle.std.proofs.Common.{◌≡◌, ◌∙◌, ◌∷◌, ◌++◌, [], true, ℕ, List, Some, refl, ap, IsUtf8, arith}
use Rattle.std.specs.Prelude.{codes, option_and_then}
use Rattle.std.proofs.lemmas.Str.{IsUtf8-append}
use Rattle.json.proofs.Printed.Utf8.{IsUtf8-quoted, IsUtf8-are_ascii, are_ascii}
use Rattle.json.specs.Print.{quoted}
use Rattle.serde_json.specs.Data.{object}
use Rattle.requests.proofs.Facts.{read-compact_text}
use Rattle.door.specs.Hello.{hello, hello_members, said, said_in}
use Rattle.door.proofs.Texts.{text_said}

-- a text that a string of the line writes, and what comes behind it
behind : (text rest : List ℕ) → IsUtf8 text → IsUtf8 rest → IsUtf8 (quoted text ++ rest)
behind text rest utf8 more = IsUtf8-append (quoted text) rest (IsUtf8-quoted text utf8) more

-- a sign of it
sign : (byte : ℕ) (rest : List ℕ) → are_ascii (byte ∷ []) ≡ true → IsUtf8 rest → IsUtf8 (byte ∷ rest)
sign byte rest ascii more = IsUtf8-append (byte ∷ []) rest (IsUtf8-are_ascii (byte ∷ []) ascii) more

hello_text : (secret : List ℕ) → IsUtf8 secret → IsUtf8 (hello secret)
hello_text secret utf8 =
    sign 123 _ refl (behind (codes "op") _ (IsUtf8-are_ascii _ refl) (sign 58 _ refl
    (behind (codes "hello") _ (IsUtf8-are_ascii _ refl) (sign 44 _ refl
    (behind (codes "secret") _ (IsUtf8-are_ascii _ refl) (sign 58 _ refl
    (behind secret (125 ∷ []) utf8 (IsUtf8-are_ascii (125 ∷ []) refl))))))))

said_of_object : (secret : List ℕ) → said_in (object (hello_members secret)) ≡ Some secret
unfolding said_in
said_of_object secret = refl

pub said_again : (secret : List ℕ) → IsUtf8 secret → said (hello secret) ≡ Some secret
said_again secret utf8 =
    text_said (hello secret) (hello_text secret utf8)
    ∙ ap (λ found. option_and_then said_in found)
    (read-compact_text (object (hello_members secret))
    ((IsUtf8-are_ascii _ refl, IsUtf8-are_ascii _ refl, (IsUtf8-are_ascii _ refl, utf8, tt)), refl) (omega arith))
    ∙ said_of_object secret

-- What a line says that is a text, and one that is none.
use Rattle.std.proofs.Common.{◌≡◌, ℕ, Bool, true, false, List, None, refl}
use Rattle.std.specs.Str.{IsUtf8, is_utf8}
use Rattle.std.proofs.lemmas.Str.{IsUtf8-from_is_utf8, is_utf8-from_IsUtf8}
use Rattle.door.specs.Hello.{said, said_in_text}

is_false : (b : Bool) → (b ≡ true → ⊥) → b ≡ false
is_false true never = absurd (never refl)
is_false false never = refl

pub text_said : (line : List ℕ) → IsUtf8 line → said line ≡ said_in_text line
unfolding said
text_said line text = rw (is_utf8-from_IsUtf8 line text) refl

pub no_text_said : (line : List ℕ) → (IsUtf8 line → ⊥) → said line ≡ None
unfolding said
no_text_said line none = rw (is_false (is_utf8 line) (λ e. none (IsUtf8-from_is_utf8 line e))) refl

-- What a line means that is a text, and one that is none.
use Rattle.std.proofs.Common.{◌≡◌, ℕ, Bool, true, false, List, Err, refl}
use Rattle.std.specs.Str.{IsUtf8, is_utf8}
use Rattle.std.proofs.lemmas.Str.{IsUtf8-from_is_utf8, is_utf8-from_IsUtf8}
use Rattle.words.specs.declared.refusal.Refusal.TheVariants.{BadJson}
use Rattle.requests.specs.Line.{text_meaning, meaning}

is_false : (b : Bool) → (b ≡ true → ⊥) → b ≡ false
is_false true never = absurd (never refl)
is_false false never = refl

pub text_meant : (line : List ℕ) → IsUtf8 line → meaning line ≡ text_meaning line
unfolding meaning
text_meant line text = rw (is_utf8-from_IsUtf8 line text) refl

pub no_text_meant : (line : List ℕ) → (IsUtf8 line → ⊥) → meaning line ≡ Err BadJson
unfolding meaning
no_text_meant line none = rw (is_false (is_utf8 line) (λ e. none (IsUtf8-from_is_utf8 line e))) refl

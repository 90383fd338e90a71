-- What a body says that is a text, and one that is none.
use Rattle.std.proofs.Common.{◌≡◌, ℕ, Bool, true, false, List, None, refl}
use Rattle.std.specs.Str.{IsUtf8, is_utf8}
use Rattle.std.proofs.lemmas.Bool.{false_from_ne_true}
use Rattle.std.proofs.lemmas.Str.{IsUtf8-from_is_utf8, is_utf8-from_IsUtf8}
use Rattle.etcd_text.specs.Answers.{meaning, text_meaning}

pub text_meant : (is_range : Bool) (body : List ℕ) → IsUtf8 body → meaning is_range body ≡ text_meaning is_range body
unfolding meaning
text_meant is_range body text = rw (is_utf8-from_IsUtf8 body text) refl

pub no_text_meant : (is_range : Bool) (body : List ℕ) → (IsUtf8 body → ⊥) → meaning is_range body ≡ None
unfolding meaning
no_text_meant is_range body none = rw (false_from_ne_true (is_utf8 body) (λ e. none (IsUtf8-from_is_utf8 body e))) refl

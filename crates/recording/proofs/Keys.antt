-- The keys of a list of JSON values.
use Rattle.std.proofs.Common.{ℕ, zero, suc, ◌≡◌, ◌<◌, List, [], ◌∷◌, Option, Some, None, length, get_or, drop, refl, ap}
use Rattle.std.proofs.Common.{◌∙◌, arith}
use Rattle.std.specs.Prelude.{map, option_map, option_and_then, String, string_bytes}
use Rattle.std.specs.declared.alloc.Global.{Global}
use Rattle.serde_json.specs.View.{view, items_view}
use Rattle.serde_json.specs.declared.value.Value.{Value}
use Rattle.recording.specs.Members.{key_in, keys_in}

-- the keys of the first value and of the others
abbrev with_first : Option (List ℕ) → Option (List (List ℕ)) → Option (List (List ℕ))
with_first first others = option_and_then (λ key. option_map (λ keys. key ∷ keys) others) first

pub all_keys : (values : List Value) (texts : List (String Global))
    → map (λ member. key_in (view member)) values ≡ map (λ text. Some (string_bytes text)) texts
    → keys_in (items_view values) ≡ Some (map string_bytes texts)
all_keys [] [] same = refl
all_keys [] (text ∷ texts) same = cc (same)
all_keys (value ∷ values) [] same = cc (same)
all_keys (value ∷ values) (text ∷ texts) same =
    let first : key_in (view value) ≡ Some (string_bytes text) =
    ap (λ (os : List (Option (List ℕ))). get_or os 0 None) same in
    let others = all_keys values texts (ap (λ (os : List (Option (List ℕ))). drop 1 os) same) in
    ap (λ (o : Option (List ℕ)). with_first o (keys_in (items_view values))) first
    ∙ ap (with_first (Some (string_bytes text))) others

no_others : (first : Option (List ℕ)) → with_first first None ≡ None
no_others (Some key) = refl
no_others None = refl

pub no_keys : (values : List Value) (i : ℕ) (d : Value) → i < length values
    → key_in (view (get_or values i d)) ≡ None → keys_in (items_view values) ≡ None
no_keys [] i d lt none = absurd (omega arith)
no_keys (value ∷ values) zero d lt none =
    ap (λ (o : Option (List ℕ)). with_first o (keys_in (items_view values))) none
no_keys (value ∷ values) (suc i) d lt none =
    ap (with_first (key_in (view value))) (no_keys values i d (omega arith) none) ∙ no_others (key_in (view value))

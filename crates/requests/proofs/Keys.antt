-- The members of an object, and keys that are all there.
use Rattle.std.proofs.Common.{◌≡◌, ◌∙◌, ℕ, suc, ◌&&◌, List, [], ◌∷◌, map, length, refl, sym, ap, eq-eqb, is_some}
use Rattle.std.proofs.lemmas.List.{length-map}
use Rattle.std.proofs.lemmas.List.Folds.{list_all-map}
use Rattle.std.specs.Prelude.{String}
use Rattle.std.specs.List.{list_all}
use Rattle.std.specs.declared.alloc.Global.{Global}
use Rattle.serde_json.specs.declared.value.Value.{Value}
use Rattle.serde_json.specs.View.{members_view}
use Rattle.serde_json.specs.Data.{Data}
use Rattle.serde_json.specs.Find.{get}
use Rattle.requests.specs.Members.{member_count, key_count, has_keys}

-- an object has as many members as entries
pub members_counted : (entries : List (String Global × Value)) → member_count (members_view entries) ≡ length entries
members_counted [] = refl
members_counted (entry ∷ entries) = ap suc (members_counted entries)

-- as many keys as these are these keys, where each of these is there
pub keys_mapped : {A : Type 0} (key_of : A → List ℕ) (keys : List A) (json : Data) → key_count json ≡ length keys
    → has_keys (map key_of keys) json ≡ list_all (λ key. is_some (get (key_of key) json)) keys
keys_mapped key_of keys json e =
    ap (λ as_many. as_many && list_all (λ key. is_some (get key json)) (map key_of keys))
    (eq-eqb (key_count json) (length (map key_of keys)) (e ∙ sym (length-map keys key_of)))
    ∙ list_all-map (λ key. is_some (get key json)) key_of keys

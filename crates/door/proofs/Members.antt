-- The members of an object.
use Rattle.std.proofs.Common.{◌≡◌, suc, List, [], ◌∷◌, length, refl, ap}
use Rattle.std.specs.Prelude.{String}
use Rattle.std.specs.declared.alloc.Global.{Global}
use Rattle.serde_json.specs.declared.value.Value.{Value}
use Rattle.serde_json.specs.View.{members_view}
use Rattle.requests.specs.Members.{member_count}

-- an object has as many members as entries
pub members_counted : (entries : List (String Global × Value)) → member_count (members_view entries) ≡ length entries
members_counted [] = refl
members_counted (entry ∷ entries) = ap suc (members_counted entries)

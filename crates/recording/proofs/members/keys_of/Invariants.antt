use Rattle.std.proofs.Common.{◌≡◌, map, take, Some}
use Rattle.std.specs.Prelude.{string_bytes}
use Rattle.serde_json.specs.View.{view}
use Rattle.recording.specs.Members.{key_in}
use Rattle.recording.proofs.members.keys_of.Given as goal

abbrev pub invariant-loop-member : goal.invariant-loop-member
invariant-loop-member l =
    map (λ member. key_in (view member)) (take l.member-index l.members)
    ≡ map (λ text. Some (string_bytes text)) l.keys.items

use Rattle.std.proofs.Common.{◌≤◌, map, length, ap, sym, ◌∙◌}
use Rattle.std.specs.Prelude.{option_map, string_bytes}
use Rattle.std.proofs.lemmas.List.{take_all}
use Rattle.serde_json.specs.View.{view}
use Rattle.serde_json.specs.declared.value.Value.{Value}
use Rattle.recording.specs.Members.{key_in}
use Rattle.recording.proofs.Keys.{all_keys, no_keys}
use Rattle.recording.proofs.members.keys_of.Goals as goal

pub returns-in-None : goal.returns-in-None
returns-in-None c =
    let members = c.args.members.now in
    let here = c.member-item.result in
    let none =
    ap (λ (member : Value). key_in (view member)) (sym c.member-item.is)
    ∙ sym c.in_ok-text.ensures
    ∙ ap (option_map string_bytes) c.in-None.is in
    sym (no_keys members c.loop-member.member-index here c.loop-member-test.true none)

pub returns : goal.returns
returns c =
    let members = c.args.members.now in
    let keys = c.loop-member.keys.items in
    let past : length members ≤ c.loop-member.member-index = c.loop-member-test.false in
    sym (all_keys members keys
    (ap (map (λ member. key_in (view member))) (sym (take_all c.loop-member.member-index members past))
    ∙ c.loop-member.invariant))

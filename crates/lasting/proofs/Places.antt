-- The policy of whoever is at a place.
use Rattle.std.proofs.Common.{◌≡◌, Some, sym, ap, ◌∙◌}
use Rattle.std.specs.Prelude.{Option}
use Rattle.std.specs.Option.{option_map_or}

pub there_by : {T P : Type 0} (policy : T → P) (asked : P) (next : T) → policy next ≡ asked
    → (x : T) → (let now : Option T = Some next in now ≡ Some x) → policy x ≡ asked
there_by {T} {P} policy asked next by x is = ap (λ (o : Option T). option_map_or policy o asked) (sym is) ∙ by

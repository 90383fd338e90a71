use Rattle.std.proofs.Common.{None, sym, ap, ◌∙◌}
use Rattle.std.specs.Option.{option_copied}
use Rattle.std.specs.Prelude.{unwrap_or}
use Rattle.std.proofs.lemmas.Option.{unwrap_or-slice_get}
use Rattle.interleave.proofs.calls.Calls.under_way.Goals as goal

pub returns-in-None : goal.returns-in-None
returns-in-None c =
    ap (λ o. unwrap_or o None) (sym (ap option_copied c.in-None.is) ∙ c.place.ensures) ∙ unwrap_or-slice_get c.args.self.now c.args.client None

pub returns-in-Some : goal.returns-in-Some
returns-in-Some c =
    c.as_ref.ensures.value ∙ ap (λ o. unwrap_or o None) (sym (ap option_copied c.in-Some.is) ∙ c.place.ensures) ∙ unwrap_or-slice_get c.args.self.now c.args.client None

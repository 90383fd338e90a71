use Rattle.std.proofs.Common.{sym, ap, subst, ◌∙◌}
use Rattle.arena.specs.Place.{IsPlace}
use Rattle.interleave.specs.Core.{CoreState}
use Rattle.interleave.proofs.machine.Effects.{place_of_word}
use Rattle.interleave.proofs.lent.Core.note_change.Goals as goal

pub notice-requires-clause-place : goal.notice-requires-clause-place
notice-requires-clause-place g c =
    subst (λ s. IsPlace s c.in-Some-what_is.place) (ap (λ (k : CoreState). k.shape) c.self.view_is)
    (place_of_word _ _ _ (sym c.what_is.ensures ∙ c.in-Some-what_is.is)).0

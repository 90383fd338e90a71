use Rattle.std.proofs.Common.{◌≡◌, ◌≤◌, ℕ, Option, Some, sym, ap, subst}
use Rattle.std.specs.Prelude.{MatchOption}
use Rattle.arena.specs.Layout.{laid_out, place_at, size_of, word_at}
use Rattle.arena.specs.Place.{IsPlace}
use Rattle.arena.specs.Shape.{Shape}
use Rattle.arena.specs.declared.place.Place.{Place}
use Rattle.renewal.specs.Renewal.{Renewal}
use Rattle.renewal.proofs.fresh.word_at.Goals as goal

place_of : (s : Shape) (word : ℕ) (p : Place) → place_at s word ≡ Some p → IsPlace s p
place_of s word p at =
    (subst (λ (o : Option Place). MatchOption o (size_of s ≤ word) (λ q. IsPlace s q × (word_at s q ≡ word))) at ((laid_out s).named word)).0

pub word_of-requires-clause-place : goal.word_of-requires-clause-place
word_of-requires-clause-place c =
    subst (λ (s : Shape). IsPlace s c.in-Some.place) (ap (λ (r : Renewal). r.shape) c.renewal.view_is)
    (place_of c.renewal.inside.layout.now c.args.word c.in-Some.place (sym c.in-Some.ensures))

use Rattle.std.proofs.Common.{◌≡◌, ◌≤◌, ℕ, Option, Some, sym, subst, ◌∙◌}
use Rattle.std.specs.Prelude.{MatchOption}
use Rattle.arena.specs.Layout.{laid_out_in, place_in, size_in, word_in}
use Rattle.arena.specs.Place.{IsPlace, IsPlaceIn}
use Rattle.arena.specs.Shape.{Shape}
use Rattle.arena.specs.declared.form.Form.TheVariants.{OfItems}
use Rattle.arena.specs.declared.place.Place.{Place}
use Rattle.migration.proofs.block.word_at.Goals as goal

place_of : (s : Shape) (word : ℕ) (p : Place) → place_in OfItems s word ≡ Some p → IsPlace s p
place_of s word p at =
    (subst (λ (o : Option Place). MatchOption o (size_in OfItems s ≤ word) (λ q. IsPlaceIn OfItems s q × (word_in OfItems s q ≡ word)))
    at ((laid_out_in OfItems s).named word)).0

pub word_of-requires-clause-place : goal.word_of-requires-clause-place
word_of-requires-clause-place g c =
    subst (λ (s : Shape). IsPlace s c.in-Some.place) (sym c.requires.shape)
    (place_of _ c.args.word c.in-Some.place (sym c.what_is.ensures ∙ c.in-Some.is))

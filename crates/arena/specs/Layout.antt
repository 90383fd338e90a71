-- Which word is whose in a queue of this shape, and the one law of it.
use Rattle.std.specs.Prelude.{◌≡◌, ℕ, ◌<◌, ◌≤◌, Option, Some, MatchOption, refl}
use Rattle.words.specs.declared.call.Kind.{Kind}
use Rattle.words.specs.declared.call.Kind.TheVariants.{Durable, Log}
use Rattle.arena.specs.Shape.{Shape}
use Rattle.arena.specs.Form.{running}
use Rattle.arena.specs.declared.form.Form.{Form}
use Rattle.arena.specs.declared.form.Form.TheVariants.{OfValues, OfItems}
use Rattle.arena.specs.Place.{IsPlaceIn}
use Rattle.arena.specs.Durable.{durable_word, durable_place, durable_size, durable_below, durable_own, durable_named}
use Rattle.arena.specs.DurableValues.{durable_values_word, durable_values_place, durable_values_size, durable_values_below, durable_values_own, durable_values_named}
use Rattle.arena.specs.Log.{log_word, log_place, log_size, log_below, log_own, log_named}
use Rattle.arena.specs.LogValues.{log_values_word, log_values_place, log_values_size, log_values_below, log_values_own, log_values_named}
use Rattle.arena.specs.declared.place.Place.{Place}

abbrev pub word_by : Form → Kind → Shape → Place → ℕ
word_by OfValues Durable = durable_values_word
word_by OfValues Log = log_values_word
word_by OfItems Durable = durable_word
word_by OfItems Log = log_word

abbrev pub place_by : Form → Kind → Shape → ℕ → Option Place
place_by OfValues Durable = durable_values_place
place_by OfValues Log = log_values_place
place_by OfItems Durable = durable_place
place_by OfItems Log = log_place

abbrev pub size_by : Form → Kind → Shape → ℕ
size_by OfValues Durable = durable_values_size
size_by OfValues Log = log_values_size
size_by OfItems Durable = durable_size
size_by OfItems Log = log_size

-- the word of a place
unfoldable pub word_in : Form → Shape → Place → ℕ
word_in form s p = word_by form s.kind s p

-- the place of a word below the size
unfoldable pub place_in : Form → Shape → ℕ → Option Place
place_in form s w = place_by form s.kind s w

-- how many words there are
unfoldable pub size_in : Form → Shape → ℕ
size_in form s = size_by form s.kind s

-- each place has a word of its own below the size, and each word below it is some place's
pub record IsLaidOutIn (form : Form) (s : Shape) : Type 0 where
  pub below : (p : Place) → IsPlaceIn form s p → word_in form s p < size_in form s
  pub own : (p : Place) → IsPlaceIn form s p → place_in form s (word_in form s p) ≡ Some p
  pub named : (w : ℕ) → MatchOption (place_in form s w) (size_in form s ≤ w)
      (λ p. IsPlaceIn form s p × (word_in form s p ≡ w))

below_by : (form : Form) (kind : Kind) (s : Shape) → s.kind ≡ kind → (p : Place) → IsPlaceIn form s p
    → word_by form kind s p < size_by form kind s
below_by OfValues Durable s is p at = durable_values_below s p is at
below_by OfValues Log s is p at = log_values_below s p is at
below_by OfItems Durable s is p at = durable_below s p is at
below_by OfItems Log s is p at = log_below s p is at

own_by : (form : Form) (kind : Kind) (s : Shape) → s.kind ≡ kind → (p : Place) → IsPlaceIn form s p
    → place_by form kind s (word_by form kind s p) ≡ Some p
own_by OfValues Durable s is p at = durable_values_own s p is at
own_by OfValues Log s is p at = log_values_own s p is at
own_by OfItems Durable s is p at = durable_own s p is at
own_by OfItems Log s is p at = log_own s p is at

named_by : (form : Form) (kind : Kind) (s : Shape) → s.kind ≡ kind → (w : ℕ)
    → MatchOption (place_by form kind s w) (size_by form kind s ≤ w)
    (λ p. IsPlaceIn form s p × (word_by form kind s p ≡ w))
named_by OfValues Durable s is w = durable_values_named s w is
named_by OfValues Log s is w = log_values_named s w is
named_by OfItems Durable s is w = durable_named s w is
named_by OfItems Log s is w = log_named s w is

-- every shape of queue is laid out so, in either form
pub laid_out_in : (form : Form) (s : Shape) → IsLaidOutIn form s
unfolding word_in place_in size_in
laid_out_in form s = record {
  below = below_by form s.kind s refl;
  own = own_by form s.kind s refl;
  named = named_by form s.kind s refl;
}

-- in the form that queues run in
abbrev pub word_at : Shape → Place → ℕ
word_at = word_in running

abbrev pub place_at : Shape → ℕ → Option Place
place_at = place_in running

abbrev pub size_of : Shape → ℕ
size_of = size_in running

pub laid_out : (s : Shape) → IsLaidOutIn running s
laid_out = laid_out_in running

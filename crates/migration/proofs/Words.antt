-- The words that a queue's block becomes: sound where the old ones are, with the same messages, telling the same.
use Rattle.std.proofs.Common.{◌≡◌, ℕ, ◌<◌, ◌≤◌, inr, List, length, slice_index, Option, Some, None, refl, ◌∙◌, ap, arith}
use Rattle.std.specs.Prelude.{MatchOption}
use Rattle.std.proofs.lemmas.List.FromFn.{get_or-map-range_with_len, length-map-range_with_len}
use Rattle.words.specs.declared.call.Kind.{Kind}
use Rattle.words.specs.declared.call.Kind.TheVariants.{Durable, Log}
use Rattle.arena.specs.Broker.{block_size_of}
use Rattle.arena.specs.Content.{content_in, kept_content}
use Rattle.arena.specs.Layout.{laid_out, place_at, size_in, size_of, word_at}
use Rattle.arena.specs.Place.{IsPlace}
use Rattle.arena.specs.Shape.{Counts, Shape, shape_of}
use Rattle.arena.specs.declared.form.Form.TheVariants.{OfItems, OfValues}
use Rattle.arena.specs.declared.place.Place.{Place}
use Rattle.sound_words.specs.Kept.{kept_by, kept_in}
use Rattle.sound_words.specs.Sound.{AreSoundWords, IsSoundIn}
use Rattle.sound_words.specs.Told.{tells_by, tells_in}
use Rattle.sound_words.proofs.Facts.{content_like as kept_content_like, sound_like, tells_like as kept_tells_like}
use Rattle.migration.specs.Migrated.{migrated}
use Rattle.migration.specs.Words.{HaveQueueOf, block_migrated, migrated_or_zero, word_migrated}
use Rattle.migration.proofs.Alike.{content_like, tells_like}
use Rattle.migration.proofs.Sound.{migrated_sound}

-- a block has room for a queue of either kind
pub room : (kind : Kind) (c : Counts) → size_in OfItems (shape_of kind c) ≤ block_size_of c.clients c.records
unfolding size_in
room Durable c = omega arith
room Log c = omega arith

-- past the layout there is no place, so the word is 0
word_past : (s : Shape) (k : Place → ℕ) (w : ℕ) (o : Option Place)
    → MatchOption o (size_of s ≤ w) (λ p. IsPlace s p × (word_at s p ≡ w)) → size_of s ≤ w → migrated_or_zero s k o ≡ 0
word_past s k w None named past = refl
word_past s k w (Some p) named past =
    let below : word_at s p < size_of s = (laid_out s).below p named.0 in
    absurd (omega (arith, below, named.1, past))

module _ (kind : Kind) (c : Counts) (old : List ℕ) where
  abbrev s : Shape
  s = shape_of kind c

  abbrev k : Place → ℕ
  k = kept_by OfValues s old

  abbrev new : List ℕ
  new = block_migrated kind c old

  pub block_length : length new ≡ block_size_of c.clients c.records
  unfolding block_migrated
  block_length = length-map-range_with_len (word_migrated s k) 0 (block_size_of c.clients c.records)

  pub block_word : (w : ℕ) → w < block_size_of c.clients c.records → slice_index new w ≡ word_migrated s k w
  unfolding block_migrated
  block_word w below = get_or-map-range_with_len (word_migrated s k) 0 (block_size_of c.clients c.records) w w 0 below (omega arith)

  -- each place of the layout has what it becomes
  pub kept_like : (p : Place) → IsPlace s p → kept_in s new p ≡ migrated s k p
  kept_like p at =
      let below : word_at s p < size_of s = (laid_out s).below p at in
      block_word (word_at s p) (omega (arith, below, room kind c)) ∙ ap (migrated_or_zero s k) ((laid_out s).own p at)

  rest_zero : (w : ℕ) → size_of s ≤ w → w < length new → slice_index new w ≡ 0
  rest_zero w past below =
      block_word w (omega (arith, below, block_length)) ∙ word_past s k w (place_at s w) ((laid_out s).named w) past

  pub block_sound : IsSoundIn OfValues s k → AreSoundWords s new
  block_sound h = record {
    count = inr (record { count = block_length; room = omega (arith, block_length, room kind c); rest = rest_zero });
    sound = sound_like s (migrated s k) (kept_in s new) kept_like (migrated_sound s k h);
  }

  pub block_content : IsSoundIn OfValues s k → kept_content s (kept_in s new) ≡ content_in OfValues s k
  block_content h = kept_content_like s (migrated s k) (kept_in s new) kept_like (migrated_sound s k h) ∙ content_like s k

  pub block_tells : IsSoundIn OfValues s k → tells_by s (kept_in s new) ≡ tells_in OfValues s k
  block_tells h = kept_tells_like s (migrated s k) (kept_in s new) kept_like (migrated_sound s k h) ∙ tells_like s k

  pub block_same : IsSoundIn OfValues s k → HaveQueueOf s old new
  block_same h = record {
    sound = block_sound h;
    content = block_content h;
    told = block_tells h;
  }

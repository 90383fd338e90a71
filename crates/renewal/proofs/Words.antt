-- The words that a queue's block becomes: sound, with the same items, telling the same.
use Rattle.std.proofs.Common.{◌≡◌, ℕ, ◌<◌, ◌≤◌, inr, List, length, map, slice_index, Option, Some, None, refl, sym, ◌∙◌, ap, arith}
use Rattle.std.specs.Prelude.{MatchOption}
use Rattle.std.specs.List.{range_with_len}
use Rattle.std.proofs.lemmas.Bool.{cases_lt}
use Rattle.std.proofs.Common.{inl}
use Rattle.std.proofs.lemmas.List.FromFn.{get_or-map-range_with_len, length-map-range_with_len}
use mathlib.Core.Path.{fun_ext}
use Rattle.words.specs.declared.call.Kind.{Kind}
use Rattle.words.specs.declared.told.Told.{Told}
use Rattle.arena.specs.Broker.{block_size_of}
use Rattle.arena.specs.Content.{kept_content}
use Rattle.arena.specs.Layout.{laid_out, place_at, size_of, word_at}
use Rattle.arena.specs.Place.{IsPlace}
use Rattle.arena.specs.Shape.{Shape}
use Rattle.arena.specs.declared.place.Place.{Place}
use Rattle.arena.specs.declared.place.Place.TheVariants.{Bump}
use Rattle.arena.proofs.Facts.{queue_fits}
use Rattle.sound_words.specs.Kept.{kept_in}
use Rattle.sound_words.specs.Sound.{AreSoundWords}
use Rattle.words.specs.Told.{no_call}
use Rattle.sound_words.specs.Told.{told_by}
use Rattle.sound_words.proofs.Facts.{content_like, sound_like, told_like, told_nobody}
use Rattle.renewal.specs.Renewal.{Renewal, told_in}
use Rattle.renewal.specs.Renewed.{renewed}
use Rattle.renewal.specs.Words.{IsRenewalOf, MayBeRenewed, MayBecome, block_renewed, renewal_of, renewed_or_zero}
use Rattle.renewal.specs.Words.{told_anew, word_renewed}
use Rattle.renewal.proofs.Kept.{kept_may, told_listed, told_none_past, told_same}
use Rattle.renewal.proofs.Sound.{renewed_sound}
use Rattle.renewal.proofs.Tellings.{renewed_holds, renewed_tells}

-- past the layout there is no place, so the word is 0
pub word_past : (r : Renewal) (w : ℕ) (o : Option Place)
    → MatchOption o (size_of r.shape ≤ w) (λ p. IsPlace r.shape p × (word_at r.shape p ≡ w)) → size_of r.shape ≤ w → renewed_or_zero r o ≡ 0
word_past r w None named past = refl
word_past r w (Some p) named past =
    let below : word_at r.shape p < size_of r.shape = (laid_out r.shape).below p named.0 in
    absurd (omega (arith, below, named.1, past))

module _ (r : Renewal) where
  abbrev s : Shape
  s = r.shape

  abbrev new : List ℕ
  new = block_renewed r

  abbrev size : ℕ
  size = block_size_of s.clients s.records

  pub block_length : length new ≡ size
  unfolding block_renewed
  block_length = length-map-range_with_len (word_renewed r) 0 size

  pub block_word : (w : ℕ) → w < size → slice_index new w ≡ word_renewed r w
  unfolding block_renewed
  block_word w below = get_or-map-range_with_len (word_renewed r) 0 size w w 0 below (omega arith)

  room : size_of s ≤ size
  room = queue_fits s.kind (record { clients = s.clients; records = s.records })

  -- each place of the layout has its word
  pub kept_like : (p : Place) → IsPlace s p → kept_in s new p ≡ renewed r p
  kept_like p at =
      let below : word_at s p < size_of s = (laid_out s).below p at in
      block_word (word_at s p) (omega (arith, below, room)) ∙ ap (renewed_or_zero r) ((laid_out s).own p at)

  rest_zero : (w : ℕ) → size_of s ≤ w → w < length new → slice_index new w ≡ 0
  rest_zero w past below =
      block_word w (omega (arith, below, block_length)) ∙ word_past r w (place_at s w) ((laid_out s).named w) past

  pub block_sound : MayBeRenewed r → AreSoundWords s new
  block_sound h = record {
    count = inr (record { count = block_length; room = omega (arith, block_length, room); rest = rest_zero });
    sound = sound_like s (renewed r) (kept_in s new) kept_like (renewed_sound r h);
  }

  pub block_content : MayBeRenewed r → kept_content s (kept_in s new) ≡ r.content
  block_content h = content_like s (renewed r) (kept_in s new) kept_like (renewed_sound r h) ∙ renewed_holds r h

  pub block_told : MayBeRenewed r → (t : ℕ) → t < s.clients → told_by s (kept_in s new) t ≡ told_anew s.kind (told_in r t)
  block_told h t client = told_like s (renewed r) (kept_in s new) kept_like (renewed_sound r h) t ∙ renewed_tells r h t client

-- of kept words
module _ (s : Shape) (old : List ℕ) (to : Shape) (h : MayBecome s old to) where
  abbrev k : Place → ℕ
  k = kept_in s old

  abbrev r : Renewal
  r = renewal_of to s k

  may : MayBeRenewed r
  may = kept_may s k to h.sound.sound h.kind h.new_counts h.room

  told : (t : ℕ) → t < s.clients → told_by to (kept_in to (block_renewed r)) t ≡ told_by s k t
  told t client =
      let most : s.clients ≤ 16 = h.counts.few_clients in
      block_told r may t (omega (arith, client, h.clients))
      ∙ ap (told_anew to.kind) (told_listed s k t (omega (arith, client, most)))
      ∙ ap (λ (kind : Kind). told_anew kind (told_by s k t)) h.kind
      ∙ told_same s k t client

  others : (t : ℕ) → s.clients ≤ t → t < to.clients → told_by to (kept_in to (block_renewed r)) t ≡ no_call to.kind
  others t past client = block_told r may t client ∙ ap (told_anew to.kind) (told_none_past s k t past)

  told_each : s.clients ≡ to.clients → (t : ℕ) → told_by to (kept_in to (block_renewed r)) t ≡ told_by s k t
  told_each same t = elim (cases_lt t s.clients) [
    | inl client ↦ told t client
    | inr past ↦ told_nobody to (kept_in to (block_renewed r)) t (omega (arith, past, same)) ∙ sym (told_nobody s k t past)
  ]

  pub block_same : IsRenewalOf s old to (block_renewed r)
  block_same = record {
    sound = block_sound r may;
    content = block_content r may;
    told = told;
    others = others;
    tells = λ same. ap (λ (f : ℕ → Told). map f (range_with_len 0 16)) (fun_ext (told_each same));
    used = λ t client. kept_like r (Bump (record { 0 = t })) client;
  }

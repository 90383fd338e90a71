-- The first word of a text is a text of one word.
use Rattle.std.proofs.Common.{◌≡◌, ℕ, ◌+◌, ◌==◌, Bool, true, false, List, [], ◌∷◌, length, take, drop, ap, sym, subst, ◌∙◌, arith, refl}
use Rattle.std.proofs.lemmas.List.Splits.{length-slice_split, slice_split-cons_no, slice_split-cons_yes}
use Rattle.std.specs.List.{onto_first, slice_split}
use Rattle.std.specs.Prelude.{Option, Some, None, MatchOption, position}
use Rattle.grammar.proofs.Facts.{cut_at_first, some_word}
use Rattle.grammar.specs.Lines.{words_of}

-- a text of one word is that word
whole : (at : Option ℕ) (text word : List ℕ)
    → MatchOption at (words_of text ≡ text ∷ []) (λ k. words_of text ≡ take k text ∷ words_of (drop (k + 1) text))
    → words_of text ≡ word ∷ [] → text ≡ word
whole None text word cut is = cc
whole (Some k) text word cut is = absurd (some_word (drop (k + 1) text) (cc))

pub one_word : (text word : List ℕ) → words_of text ≡ word ∷ [] → text ≡ word
one_word text word is = whole (position (λ byte. byte == 32) text) text word (cut_at_first (λ byte. byte == 32) text) is

-- the first part of a text has no cut in it
module _ (p : ℕ → Bool) (byte : ℕ) (bytes first : List ℕ) (rest : List (List ℕ)) (is : slice_split p (byte ∷ bytes) ≡ first ∷ rest) where
  cut_first : p byte ≡ true → slice_split p first ≡ first ∷ []
  cut_first cuts =
      let both : first ∷ rest ≡ [] ∷ slice_split p bytes = sym is ∙ slice_split-cons_yes p byte bytes cuts in
      let none : [] ≡ first = cc (both) in
      subst (λ (w : List ℕ). slice_split p w ≡ w ∷ []) none refl

  cut_later : p byte ≡ false → (parts : List (List ℕ)) → slice_split p bytes ≡ parts
      → ((part : List ℕ) (more : List (List ℕ)) → slice_split p bytes ≡ part ∷ more → slice_split p part ≡ part ∷ [])
      → slice_split p first ≡ first ∷ []
  cut_later cuts [] none before =
      let long : length (slice_split p bytes) ≡ 0 = ap length none in
      absurd (omega (arith, long, length-slice_split p bytes))
  cut_later cuts (part ∷ parts) some before =
      let both : first ∷ rest ≡ onto_first byte (part ∷ parts) =
      sym is ∙ slice_split-cons_no p byte bytes cuts ∙ ap (onto_first byte) some in
      let whole : byte ∷ part ≡ first = cc (both) in
      subst (λ (w : List ℕ). slice_split p w ≡ w ∷ []) whole
      (slice_split-cons_no p byte part cuts ∙ ap (onto_first byte) (before part parts some))

  by_test : (b : Bool) → p byte ≡ b
      → ((part : List ℕ) (more : List (List ℕ)) → slice_split p bytes ≡ part ∷ more → slice_split p part ≡ part ∷ [])
      → slice_split p first ≡ first ∷ []
  by_test true cuts before = cut_first cuts
  by_test false cuts before = cut_later cuts (slice_split p bytes) refl before

parted : (p : ℕ → Bool) (text first : List ℕ) (rest : List (List ℕ)) → slice_split p text ≡ first ∷ rest
    → slice_split p first ≡ first ∷ []
parted p [] first rest is =
    let none : [] ≡ first = cc (is) in subst (λ (w : List ℕ). slice_split p w ≡ w ∷ []) none refl
parted p (byte ∷ bytes) first rest is =
    by_test p byte bytes first rest is (p byte) refl (λ part more some. parted p bytes part more some)

pub first_alone : (text first : List ℕ) (rest : List (List ℕ)) → words_of text ≡ first ∷ rest → words_of first ≡ first ∷ []
first_alone text first rest is = parted (λ byte. byte == 32) text first rest is

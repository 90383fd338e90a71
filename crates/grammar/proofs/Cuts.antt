-- A text's words are its first word and then those of what follows the space after it.
use Rattle.std.proofs.Common.{◌≡◌, ◌≢◌, ℕ, ◌≤◌, ◌+◌, Bool, true, false, cond, ltb, eqb, List, [], ◌∷◌, length, take, drop, ap, arith, refl}
use Rattle.std.proofs.lemmas.List.Elements.{All-from_get_or}
use Rattle.std.proofs.lemmas.List.Splits.{slice_split_none, slice_split_first, length-slice_split}
use Rattle.std.proofs.lemmas.List.Sums.{fails_before_first}
use Rattle.std.proofs.lemmas.Bool.{false≢true}
use Rattle.std.specs.Prelude.{Option, Some, None, MatchOption, is_some, position}
use Rattle.grammar.specs.Lines.{words_of}
use denote.Ref.{Bor}
use Rattle.std.specs.List.{slice_split, position_or_len}
use borrow.Author.Tests.{ltb-true, ltb-false}

cut_by : (p : ℕ → Bool) (xs : List ℕ) (b : Bool) → ltb (position_or_len p xs) (length xs) ≡ b → MatchOption (cond b (Some (position_or_len p xs)) None) (slice_split p xs ≡ xs ∷ []) (λ k. slice_split p xs ≡ take k xs ∷ slice_split p (drop (k + 1) xs))
cut_by p xs true e = slice_split_first p xs 0 (ltb-true _ _ e)
cut_by p xs false e = slice_split_none p xs (All-from_get_or (λ x. p x ≡ false) xs 0 (λ i h. fails_before_first p xs i 0 (let far : length xs ≤ position_or_len p xs = ltb-false _ _ e in omega arith)))

-- the parts of a text: the first, and those of what follows
pub cut_at_first : (p : ℕ → Bool) (xs : List ℕ) → MatchOption (position p xs) (slice_split p xs ≡ xs ∷ []) (λ k. slice_split p xs ≡ take k xs ∷ slice_split p (drop (k + 1) xs))
cut_at_first p xs = cut_by p xs (ltb (position_or_len p xs) (length xs)) refl

-- a text has a word
pub some_word : (text : List ℕ) → words_of text ≢ []
some_word text e = let long : length (words_of text) ≡ 0 = ap length e in omega (arith, long, length-slice_split (λ byte. eqb byte 32) text)

-- where something follows the first word, there is a second one
pub second_word : (r : Option (Bor (List ℕ))) (text first : List ℕ) → MatchOption r (words_of text ≡ first ∷ []) (λ rest. words_of text ≡ first ∷ words_of rest.now) → is_some r ≡ true → (word : List ℕ) → words_of text ≢ word ∷ []
second_word None text first h e word is = absurd (false≢true e)
second_word (Some rest) text first h e word is = some_word rest.now (cc)

-- Pieces of a text, put one behind another.
use Rattle.std.proofs.Common.{◌≡◌, ℕ, List, ◌++◌, append_assoc, ap, ◌∙◌}

pub two_fields : (old a q b r c one two : List ℕ) → one ≡ old ++ (a ++ q) → two ≡ one ++ (b ++ r) → two ++ c ≡ old ++ (a ++ q ++ b ++ r ++ c)
two_fields old a q b r c one two first second =
    ap (λ (xs : List ℕ). xs ++ c) second ∙ ap (λ (xs : List ℕ). xs ++ (b ++ r) ++ c) first ∙ simp append_assoc

pub one_between : (old a q c one two : List ℕ) → one ≡ old ++ (a ++ q) → two ≡ one ++ c → two ≡ old ++ (a ++ q ++ c)
one_between old a q c one two first second = second ∙ ap (λ (xs : List ℕ). xs ++ c) first ∙ append_assoc old (a ++ q) c

pub three : (old a b c one two last : List ℕ) → one ≡ old ++ a → two ≡ one ++ b → last ≡ two ++ c → last ≡ old ++ (a ++ b ++ c)
three old a b c one two last first second third =
    third ∙ ap (λ (xs : List ℕ). xs ++ c) second ∙ ap (λ (xs : List ℕ). xs ++ b ++ c) first ∙ simp append_assoc

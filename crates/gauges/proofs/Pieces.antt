-- Pieces that were put one behind the other are put together.
use Rattle.std.proofs.Common.{◌≡◌, ◌++◌, ◌∙◌, ℕ, List, ap, append_assoc}

regrouped : (text a b c d : List ℕ) → (((text ++ a) ++ b) ++ c) ++ d ≡ text ++ (((a ++ b) ++ c) ++ d)
regrouped text a b c d = simp append_assoc

pub four : (t t₁ t₂ t₃ t₄ a b c d : List ℕ) → t₁ ≡ t ++ a → t₂ ≡ t₁ ++ b → t₃ ≡ t₂ ++ c → t₄ ≡ t₃ ++ d
    → t₄ ≡ t ++ (((a ++ b) ++ c) ++ d)
four t t₁ t₂ t₃ t₄ a b c d e₁ e₂ e₃ e₄ =
    e₄ ∙ ap (λ x. x ++ d) (e₃ ∙ ap (λ x. x ++ c) (e₂ ∙ ap (λ x. x ++ b) e₁)) ∙ regrouped t a b c d

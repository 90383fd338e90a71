-- The words that draws keep are the first draw's, and then the rest.
use Rattle.std.proofs.Common.{◌≡◌, ◌+◌, ◌%◌, ◌==◌, ℕ, suc, sym, ap, eq-eqb, ne_eqb, ◌∙◌, List, [], ◌∷◌, ◌++◌, append_assoc, true, false}
use Rattle.std.specs.Prelude.{Bool, if◌then◌else◌}
use Rattle.rand_pcg.specs.Lcg.{Lcg}
use Rattle.rand_pcg.specs.Pcg.{pcg32}
use Rattle.explore.specs.Points.{drawn_words}

draw_on : (words word : ℕ) (draws : Lcg) (b : Bool) → ((pcg32 draws).0 % 2 == 1) ≡ b
    → drawn_words (suc words) word draws
    ≡ (if b then word ∷ drawn_words words (word + 1) (pcg32 draws).1 else drawn_words words (word + 1) (pcg32 draws).1)
draw_on words word draws b is =
    ap (λ (v : Bool). if v then word ∷ drawn_words words (word + 1) (pcg32 draws).1 else drawn_words words (word + 1) (pcg32 draws).1) is

-- a word whose draw has lowest bit 1
pub draw_taken : (words word bits : ℕ) (draws next : Lcg) (so_far now all : List ℕ)
    → bits ≡ (pcg32 draws).0 → next ≡ (pcg32 draws).1 → bits % 2 ≡ 1 → now ≡ so_far ++ word ∷ []
    → so_far ++ drawn_words (suc words) word draws ≡ all → now ++ drawn_words words (word + 1) next ≡ all
draw_taken words word bits draws next so_far now all drew left one grown is =
    ap (λ l. l ++ drawn_words words (word + 1) next) grown
    ∙ append_assoc so_far (word ∷ []) (drawn_words words (word + 1) next)
    ∙ ap (λ d. so_far ++ word ∷ drawn_words words (word + 1) d) left
    ∙ ap (λ l. so_far ++ l) (sym (draw_on words word draws true (eq-eqb ((pcg32 draws).0 % 2) 1 (ap (λ n. n % 2) (sym drew) ∙ one))))
    ∙ is

-- and one whose draw has not
pub draw_passed : (words word bits : ℕ) (draws next : Lcg) (so_far now all : List ℕ)
    → bits ≡ (pcg32 draws).0 → next ≡ (pcg32 draws).1 → (bits % 2 ≡ 1 → ⊥) → now ≡ so_far
    → so_far ++ drawn_words (suc words) word draws ≡ all → now ++ drawn_words words (word + 1) next ≡ all
draw_passed words word bits draws next so_far now all drew left none same is =
    ap (λ l. l ++ drawn_words words (word + 1) next) same
    ∙ ap (λ d. so_far ++ drawn_words words (word + 1) d) left
    ∙ ap (λ l. so_far ++ l) (sym (draw_on words word draws false (ne_eqb ((pcg32 draws).0 % 2) 1 (λ one. none (ap (λ n. n % 2) drew ∙ one)))))
    ∙ is

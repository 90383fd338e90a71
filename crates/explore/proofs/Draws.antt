-- What draws evict is what the first draw does and then the rest.
use Rattle.std.proofs.Common.{◌≡◌, ◌+◌, ◌%◌, ◌==◌, ℕ, suc, map, refl, sym, ap, eq-eqb, ne_eqb, ◌∙◌, List, ◌∷◌, true, false}
use Rattle.std.specs.Prelude.{Bool, if◌then◌else◌}
use Rattle.protocol.specs.declared.acts.Act.TheVariants.{Evict}
use Rattle.interleave.specs.State.{State, after_acts, after_evict}
use Rattle.rand_pcg.specs.Lcg.{Lcg}
use Rattle.rand_pcg.specs.Pcg.{pcg32}
use Rattle.explore.specs.Points.{drawn_words}

-- the world after a draw, by its lowest bit
pub after_draw : Bool → State → ℕ → State
after_draw true w word = after_evict w word
after_draw false w word = w

by_bit : (b : Bool) (w : State) (word : ℕ) (rest : List ℕ)
    → after_acts w (map Evict (if b then word ∷ rest else rest)) ≡ after_acts (after_draw b w word) (map Evict rest)
unfolding after_draw
by_bit true w word rest = refl
by_bit false w word rest = refl

draw_on : (w : State) (words word : ℕ) (draws : Lcg) (b : Bool) → ((pcg32 draws).0 % 2 == 1) ≡ b
    → after_acts w (map Evict (drawn_words (suc words) word draws))
    ≡ after_acts (after_draw b w word) (map Evict (drawn_words words (word + 1) (pcg32 draws).1))
draw_on w words word draws b is =
    by_bit ((pcg32 draws).0 % 2 == 1) w word (drawn_words words (word + 1) (pcg32 draws).1)
    ∙ ap (λ v. after_acts (after_draw v w word) (map Evict (drawn_words words (word + 1) (pcg32 draws).1))) is

-- a word whose draw has lowest bit 1
pub draw_taken : (w v : State) (words word bits : ℕ) (draws next : Lcg)
    → bits ≡ (pcg32 draws).0 → next ≡ (pcg32 draws).1 → bits % 2 ≡ 1 → v ≡ after_evict w word
    → after_acts v (map Evict (drawn_words words (word + 1) next))
    ≡ after_acts w (map Evict (drawn_words (suc words) word draws))
unfolding after_draw
draw_taken w v words word bits draws next drew left one evicted =
    ap (λ u. after_acts u (map Evict (drawn_words words (word + 1) next))) evicted
    ∙ ap (λ d. after_acts (after_evict w word) (map Evict (drawn_words words (word + 1) d))) left
    ∙ sym (draw_on w words word draws true (eq-eqb ((pcg32 draws).0 % 2) 1 (ap (λ n. n % 2) (sym drew) ∙ one)))

-- and one whose draw has not
pub draw_passed : (w v : State) (words word bits : ℕ) (draws next : Lcg)
    → bits ≡ (pcg32 draws).0 → next ≡ (pcg32 draws).1 → (bits % 2 ≡ 1 → ⊥) → v ≡ w
    → after_acts v (map Evict (drawn_words words (word + 1) next))
    ≡ after_acts w (map Evict (drawn_words (suc words) word draws))
unfolding after_draw
draw_passed w v words word bits draws next drew left none same =
    ap (λ u. after_acts u (map Evict (drawn_words words (word + 1) next))) same
    ∙ ap (λ d. after_acts w (map Evict (drawn_words words (word + 1) d))) left
    ∙ sym (draw_on w words word draws false (ne_eqb ((pcg32 draws).0 % 2) 1 (λ one. none (ap (λ n. n % 2) drew ∙ one))))

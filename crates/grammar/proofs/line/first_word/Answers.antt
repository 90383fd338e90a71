use Rattle.std.proofs.Common.{◌≡◌, ℕ, ◌+◌, ◌==◌, length, take, drop, subst, sym, arith, ◌∷◌, []}
use Rattle.std.proofs.lemmas.Slice.{between_to_end}
use Rattle.std.specs.Prelude.{Option, MatchOption}
use Rattle.grammar.specs.Lines.{words_of}
use Rattle.grammar.proofs.Cuts.{cut_at_first}
use Rattle.grammar.proofs.line.first_word.Goals as goal

pub returns-in-None : goal.returns-in-None
returns-in-None c =
    let text = c.args.text.now in
    subst (λ (r : Option ℕ). MatchOption r (words_of text ≡ text ∷ []) (λ k. words_of text ≡ take k text ∷ words_of (drop (k + 1) text))) (sym c.in-None.ensures) (cut_at_first (λ b. b == 32) text)

pub returns-in-Some : goal.returns-in-Some
returns-in-Some c =
    let text = c.args.text.now in
    let parts : words_of text ≡ take c.in-Some.at text ∷ words_of (drop (c.in-Some.at + 1) text) = subst (λ (r : Option ℕ). MatchOption r (words_of text ≡ text ∷ []) (λ k. words_of text ≡ take k text ∷ words_of (drop (k + 1) text))) (sym c.in-Some.ensures) (cut_at_first (λ b. b == 32) text) in
    rw (between_to_end text (c.in-Some.at + 1) (length text) (omega arith)) parts

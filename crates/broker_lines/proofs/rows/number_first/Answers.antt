use Rattle.std.proofs.Common.{◌≡◌, ◌∷◌, [], List, ℕ, ap, decimal, ◌∙◌}
use Rattle.std.specs.Prelude.{Option, Some, None, MatchOption}
use Rattle.grammar.specs.Lines.{words_of}
use Rattle.broker_lines.proofs.Cuts.{first_alone, one_word}
use Rattle.broker_lines.proofs.rows.number_first.Goals as goal
use denote.Ref.{Bor}

-- the words of a text, where something follows the first
parts : (r : Option (Bor (List ℕ))) (text first : List ℕ) (rest : Bor (List ℕ))
    → MatchOption r (words_of text ≡ first ∷ []) (λ after. words_of text ≡ first ∷ words_of after.now) → r ≡ Some rest
    → words_of text ≡ first ∷ words_of rest.now
parts (Some after) text first rest is some = let same : after ≡ rest = cc (some) in is ∙ ap (λ (b : Bor (List ℕ)). first ∷ words_of b.now) same
parts None text first rest is some = absurd (cc (some))

pub returns-in-None : goal.returns-in-None
returns-in-None c n rest within is =
    let first = parts c.first_word.result.1 c.args.text.now c.first_word.result.0.now c.in_ok-rest.rest c.first_word.ensures c.in_ok-rest.was in
    let same : c.first_word.result.0.now ≡ decimal n = cc (first, is) in
    absurd (c.in-None.ensures n within
    (first_alone c.args.text.now c.first_word.result.0.now (words_of c.in_ok-rest.rest.now) first ∙ ap (λ (w : List ℕ). w ∷ []) same))

pub returns-in-Some : goal.returns-in-Some
returns-in-Some c =
    let first = parts c.first_word.result.1 c.args.text.now c.first_word.result.0.now c.in_ok-rest.rest c.first_word.ensures c.in_ok-rest.was in
    let word : c.first_word.result.0.now ≡ decimal c.in-Some.n = one_word c.first_word.result.0.now (decimal c.in-Some.n) c.in-Some.ensures.0 in
    (first ∙ ap (λ (w : List ℕ). w ∷ words_of c.in_ok-rest.rest.now) word, c.in-Some.ensures.1)

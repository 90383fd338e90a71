-- Replies that fit their lines.
use Rattle.std.proofs.Common.{◌≡◌, ℕ, ◌<◌, Bool, true, false, List, [], ◌∷◌, ◌++◌, length, Err, refl, sym, ap, ◌∙◌, arith, inl, inr}
use Rattle.std.specs.Prelude.{MatchBool}
use Rattle.std.proofs.lemmas.Bool.{lt-ltb}
use Rattle.words.specs.declared.refusal.Refusal.TheVariants.{TooLong}
use Rattle.engine.specs.declared.reply.Reply.{Reply}
use Rattle.engine.specs.declared.reply.Reply.TheVariants.{Made, Fault}
use Rattle.engine.specs.Replies.{Meaning, Served, Fits, meant, is_stop, made_of}
use Rattle.engine.specs.Handled.{Matches}
use Rattle.engine.specs.Serving.{Answers}

either : (b : Bool) (A B C D : Type 0) → (A → C) → (B → D) → MatchBool b A B → MatchBool b C D
either true A B C D f g h = f h
either false A B C D f g h = g h

ends : (b : Bool) → MatchBool b ((◌≡◌ {A = List (List ℕ)} [] []) × (◌≡◌ {A = List Reply} [] []) × (b ≡ true)) (b ≡ false)
ends true = (refl, refl, refl)
ends false = refl

-- one line and its reply
pub Matches-one : (m : Meaning) (line : List ℕ) (reply : Reply) → Fits m line reply → Matches m (is_stop reply) (line ∷ []) (reply ∷ [])
Matches-one m line reply fits = (fits, ends (is_stop reply))

pub Matches-append : (m : Meaning) (stopped : Bool) (xs ys : List (List ℕ)) (rs ss : List Reply)
    → Matches m false xs rs → Matches m stopped ys ss → Matches m stopped (xs ++ ys) (rs ++ ss)
Matches-append m stopped [] ys [] ss p q = q
Matches-append m stopped [] ys (r ∷ rs) ss p q = absurd p
Matches-append m stopped (x ∷ xs) ys [] ss p q = absurd p
Matches-append m stopped (x ∷ xs) ys (r ∷ rs) ss p q =
    (p.0, either (is_stop r) _ _ _ _ (λ h. let e = h.2 in absurd cc) (λ h. Matches-append m stopped xs ys rs ss h q) p.1)

-- replies with no stop, and then more
pub Answers-append : (m : Meaning) (whole : Bool) (xs ys : List (List ℕ)) (rs ss : List Reply)
    → Matches m false xs rs → Answers m whole ys ss → Answers m whole (xs ++ ys) (rs ++ ss)
Answers-append m whole [] ys [] ss p q = q
Answers-append m whole [] ys (r ∷ rs) ss p q = absurd p
Answers-append m whole (x ∷ xs) ys [] ss p q = absurd p
Answers-append m whole (x ∷ xs) ys (r ∷ rs) ss p q =
    (p.0, either (is_stop r) _ _ _ _ (λ h. let e = h.2 in absurd cc) (λ h. Answers-append m whole xs ys rs ss h q) p.1)

-- replies up to a stop
pub Answers-stopped : (m : Meaning) (xs ys : List (List ℕ)) (rs : List Reply) → Matches m true xs rs → Answers m true (xs ++ ys) rs
Answers-stopped m [] ys [] p = let e = p in absurd cc
Answers-stopped m [] ys (r ∷ rs) p = absurd p
Answers-stopped m (x ∷ xs) ys [] p = absurd p
Answers-stopped m (x ∷ xs) ys (r ∷ rs) p = (p.0, either (is_stop r) _ _ _ _ (λ h. h.1) (λ h. Answers-stopped m xs ys rs h) p.1)

none_yet : (m : Meaning) (lines : List (List ℕ)) → Answers m false lines []
none_yet m [] = tt
none_yet m (line ∷ lines) = refl

-- some of the replies
pub Answers-some : (m : Meaning) (stopped : Bool) (xs ys : List (List ℕ)) (rs : List Reply) → Matches m stopped xs rs → Answers m false (xs ++ ys) rs
Answers-some m stopped [] ys [] p = none_yet m ys
Answers-some m stopped [] ys (r ∷ rs) p = absurd p
Answers-some m stopped (x ∷ xs) ys [] p = absurd p
Answers-some m stopped (x ∷ xs) ys (r ∷ rs) p =
    (p.0, either (is_stop r) _ _ _ _ (λ h. h.1) (λ h. Answers-some m stopped xs ys rs h) p.1)

pub made_of-append : (rs ss : List Reply) → made_of (rs ++ ss) ≡ made_of rs ++ made_of ss
made_of-append [] ss = refl
made_of-append (Made request answer ∷ rs) ss = ap (λ (xs : Served). (request, answer) ∷ xs) (made_of-append rs ss)
made_of-append (Fault fault ∷ rs) ss = made_of-append rs ss

too_long : (m : Meaning) (line : List ℕ) → 512 < length line → meant m line ≡ Err TooLong
too_long m line long = rw (lt-ltb 512 (length line) long) refl

-- what fits a long line fits each
pub Fits-long : (m : Meaning) (line other : List ℕ) (reply : Reply) → 512 < length line → 512 < length other → Fits m line reply → Fits m other reply
Fits-long m line other (Made request answer) long also fits = too_long m other also ∙ sym (too_long m line long) ∙ fits
Fits-long m line other (Fault fault) long also fits =
    elim fits [
      | inl e ↦ inl (too_long m other also ∙ sym (too_long m line long) ∙ e)
      | inr h ↦ let le = h.1 in absurd (omega arith)
    ]

-- What may be left out of a run.
use Rattle.std.proofs.Common.{ℕ, ◌≡◌, ◌⊎◌, Bool, true, false, List, [], ◌∷◌, ◌++◌, inl, inr, refl, sym, subst, ap, ◌∙◌}
use Rattle.std.proofs.lemmas.Bool.{cases_Bool, cond-true, cond-false}
use Rattle.windows.specs.Runs.{Step, put, got, nothing, Runs, kept_of, LeavesOut, end, keeps_put, keeps_got, keeps_nothing}
use Rattle.windows.specs.Runs.{drops_put, drops_got, drops_nothing, puts_of}

kept_first : (keep : ℕ → Bool) (v : ℕ) (rest : List ℕ) → keep v ≡ true
    → kept_of keep (v ∷ rest) ≡ v ∷ kept_of keep rest
kept_first keep v rest pass = cond-true (keep v) (v ∷ kept_of keep rest) (kept_of keep rest) pass

dropped_first : (keep : ℕ → Bool) (v : ℕ) (rest : List ℕ) → keep v ≡ false
    → kept_of keep (v ∷ rest) ≡ kept_of keep rest
dropped_first keep v rest fail = cond-false (keep v) (v ∷ kept_of keep rest) (kept_of keep rest) fail

-- one more value at the end
kept_last : (keep : ℕ → Bool) (queue : List ℕ) (v : ℕ)
    → kept_of keep (queue ++ v ∷ []) ≡ kept_of keep queue ++ kept_of keep (v ∷ [])
kept_last keep [] v = refl
kept_last keep (x ∷ queue) v = go (cases_Bool (keep x)) (kept_last keep queue v)
  where
    go : (keep x ≡ true) ⊎ (keep x ≡ false)
        → kept_of keep (queue ++ v ∷ []) ≡ kept_of keep queue ++ kept_of keep (v ∷ [])
        → kept_of keep (x ∷ queue ++ v ∷ []) ≡ kept_of keep (x ∷ queue) ++ kept_of keep (v ∷ [])
    go (inl pass) again =
        kept_first keep x (queue ++ v ∷ []) pass
        ∙ ap (λ (xs : List ℕ). x ∷ xs) again
        ∙ ap (λ (xs : List ℕ). xs ++ kept_of keep (v ∷ [])) (sym (kept_first keep x queue pass))
    go (inr fail) again =
        dropped_first keep x (queue ++ v ∷ []) fail
        ∙ again
        ∙ ap (λ (xs : List ℕ). xs ++ kept_of keep (v ∷ [])) (sym (dropped_first keep x queue fail))

append_none : (xs : List ℕ) → xs ++ [] ≡ xs
append_none [] = refl
append_none (x ∷ xs) = ap (λ (ys : List ℕ). x ∷ ys) (append_none xs)

runs_same : (queue other : List ℕ) (steps : List Step) → queue ≡ other → Runs queue steps → Runs other steps
runs_same queue other steps same runs = subst (λ (q : List ℕ). Runs q steps) same runs

pub dropped : (keep : ℕ → Bool) (queue : List ℕ) (steps fewer : List Step) → LeavesOut keep steps fewer
    → Runs queue steps → Runs (kept_of keep queue) fewer
dropped keep queue [] fewer end runs = tt
dropped keep queue (put v ∷ steps) (put _ ∷ more) (keeps_put pass rest) runs =
    runs_same (kept_of keep (queue ++ v ∷ [])) (kept_of keep queue ++ v ∷ []) more
    (kept_last keep queue v ∙ ap (λ (xs : List ℕ). kept_of keep queue ++ xs) (kept_first keep v [] pass))
    (dropped keep (queue ++ v ∷ []) steps more rest runs)
dropped keep queue (put v ∷ steps) fewer (drops_put fail rest) runs =
    runs_same (kept_of keep (queue ++ v ∷ [])) (kept_of keep queue) fewer
    (kept_last keep queue v ∙ ap (λ (xs : List ℕ). kept_of keep queue ++ xs) (dropped_first keep v [] fail)
    ∙ append_none (kept_of keep queue))
    (dropped keep (queue ++ v ∷ []) steps fewer rest runs)
dropped keep [] (got t v ∷ steps) fewer (keeps_got pass rest) runs = absurd runs
dropped keep [] (got t v ∷ steps) fewer (drops_got fail rest) runs = absurd runs
dropped keep (first ∷ queue) (got t v ∷ steps) (got _ _ ∷ more) (keeps_got pass rest) runs =
    runs_same (first ∷ kept_of keep queue) (kept_of keep (first ∷ queue)) (got t v ∷ more)
    (sym (kept_first keep first queue (ap keep runs.0 ∙ pass)))
    (runs.0, dropped keep queue steps more rest runs.1)
dropped keep (first ∷ queue) (got t v ∷ steps) fewer (drops_got fail rest) runs =
    runs_same (kept_of keep queue) (kept_of keep (first ∷ queue)) fewer
    (sym (dropped_first keep first queue (ap keep runs.0 ∙ fail)))
    (dropped keep queue steps fewer rest runs.1)
dropped keep queue (nothing t ∷ steps) (nothing _ ∷ more) (keeps_nothing rest) runs =
    (ap (kept_of keep) runs.0, dropped keep queue steps more rest runs.1)
dropped keep queue (nothing t ∷ steps) fewer (drops_nothing rest) runs = dropped keep queue steps fewer rest runs.1

puts_run : (queue : List ℕ) (steps : List Step) → Runs queue (puts_of steps)
puts_run queue [] = tt
puts_run queue (put v ∷ rest) = puts_run (queue ++ v ∷ []) rest
puts_run queue (got t v ∷ rest) = puts_run queue rest
puts_run queue (nothing t ∷ rest) = puts_run queue rest

pub last_dropped : (queue : List ℕ) (steps rest : List Step) → Runs queue (steps ++ rest)
    → Runs queue (steps ++ puts_of rest)
last_dropped queue [] rest runs = puts_run queue rest
last_dropped queue (put v ∷ steps) rest runs = last_dropped (queue ++ v ∷ []) steps rest runs
last_dropped [] (got t v ∷ steps) rest runs = absurd runs
last_dropped (first ∷ queue) (got t v ∷ steps) rest runs = (runs.0, last_dropped queue steps rest runs.1)
last_dropped queue (nothing t ∷ steps) rest runs = (runs.0, last_dropped queue steps rest runs.1)

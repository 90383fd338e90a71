-- The events that facts are, by their places.
use Rattle.std.proofs.Common.{ℕ, zero, suc, ◌≡◌, ◌<◌, ◌+◌, ◌++◌, List, [], ◌∷◌, map, Some, slice_get, get_or, length, refl, ap, arith}
use Rattle.std.proofs.Common.{◌∙◌}
use Rattle.std.proofs.lemmas.List.{get_or-map, length-map, map-append}
use Rattle.events.specs.declared.event.Event.{Event}
use Rattle.findings.specs.Facts.{event_at, events_from}
use Rattle.findings.specs.declared.fact.Fact.{Fact}

length_from : (p : ℕ) (facts : List Fact) → length (events_from p facts) ≡ length facts
length_from p [] = refl
length_from p (fact ∷ facts) = ap suc (length_from (p + 1) facts)

at_from : (p k : ℕ) (facts : List Fact) (d : Fact) → k < length facts
    → slice_get (events_from p facts) k ≡ Some (event_at (p + k) (get_or facts k d))
at_from p k [] d lt = absurd (omega arith)
at_from p zero (fact ∷ facts) d lt =
    let same : p ≡ p + 0 = omega arith in ap (λ (n : ℕ). Some (event_at n fact)) same
at_from p (suc k) (fact ∷ facts) d lt =
    let same : p + 1 + k ≡ p + suc k = omega arith in
    at_from (p + 1) k facts d (omega arith) ∙ ap (λ (n : ℕ). Some (event_at n (get_or facts k d))) same

push_from : (p : ℕ) (facts : List Fact) (fact : Fact)
    → events_from p (facts ++ fact ∷ []) ≡ events_from p facts ++ event_at (p + length facts) fact ∷ []
push_from p [] fact =
    let same : p ≡ p + 0 = omega arith in ap (λ (n : ℕ). event_at n fact ∷ []) same
push_from p (other ∷ facts) fact =
    let same : p + 1 + length facts ≡ p + suc (length facts) = omega arith in
    ap (λ (es : List Event). event_at p other ∷ es)
    (push_from (p + 1) facts fact
    ∙ ap (λ (n : ℕ). events_from (p + 1) facts ++ event_at n fact ∷ []) same)

-- so it is of facts that are parts of what is kept
pub length_kept : {X : Type 0} (f : X → Fact) (xs : List X) → length (events_from 0 (map f xs)) ≡ length xs
length_kept f xs = length_from 0 (map f xs) ∙ length-map xs f

pub at_kept : {X : Type 0} (f : X → Fact) (xs : List X) (k : ℕ) (d : X) → k < length xs
    → slice_get (events_from 0 (map f xs)) k ≡ Some (event_at k (f (get_or xs k d)))
at_kept f xs k d lt =
    let within : k < length (map f xs) = omega (arith, length-map xs f) in
    let place : 0 + k ≡ k = omega arith in
    at_from 0 k (map f xs) (f d) within
    ∙ ap (λ (n : ℕ). Some (event_at n (get_or (map f xs) k (f d)))) place
    ∙ ap (λ (fact : Fact). Some (event_at k fact)) (get_or-map f xs k d (f d) lt)

pub push_kept : {X : Type 0} (f : X → Fact) (xs : List X) (x : X)
    → events_from 0 (map f (xs ++ x ∷ []))
    ≡ events_from 0 (map f xs) ++ event_at (length (events_from 0 (map f xs))) (f x) ∷ []
push_kept f xs x =
    let place : 0 + length (map f xs) ≡ length (events_from 0 (map f xs)) = omega (arith, length_from 0 (map f xs)) in
    ap (events_from 0) (map-append f xs (x ∷ []))
    ∙ push_from 0 (map f xs) (f x)
    ∙ ap (λ (n : ℕ). events_from 0 (map f xs) ++ event_at n (f x) ∷ []) place

-- Parts of a report that follow each other.
use Rattle.std.proofs.Common.{◌≡◌, refl, sym, ap, ◌∙◌, arith, ℕ, zero, suc, ◌+◌, List, [], ◌∷◌, ◌++◌, take, drop, append_assoc}
use Rattle.explore.specs.Points.{Found}
use Rattle.script_reports.specs.Reports.{numbered_text, point_text}

take_none : (n : ℕ) → take n (let none : List Found = [] in none) ≡ []
take_none zero = refl
take_none (suc n) = refl

-- the first points, and the next ones
pub next_lines : (clients number first second : ℕ) (xs : List Found)
    → numbered_text clients number (take first xs) ++ numbered_text clients (number + first) (take second (drop first xs))
    ≡ numbered_text clients number (take (first + second) xs)
next_lines clients number zero second xs =
    let here : number + 0 ≡ number = omega arith in
    let same : second ≡ 0 + second = omega arith in
    ap (λ n. numbered_text clients n (take second xs)) here ∙ ap (λ n. numbered_text clients number (take n xs)) same
next_lines clients number (suc first) second [] =
    ap (numbered_text clients (number + suc first)) (take_none second)
    ∙ sym (ap (numbered_text clients number) (take_none (suc first + second)))
next_lines clients number (suc first) second (x ∷ xs) =
    let here : number + suc first ≡ number + 1 + first = omega arith in
    let more : suc (first + second) ≡ suc first + second = omega arith in
    append_assoc (point_text clients number x) (numbered_text clients (number + 1) (take first xs))
    (numbered_text clients (number + suc first) (take second (drop first xs)))
    ∙ ap (λ n. point_text clients number x
    ++ (numbered_text clients (number + 1) (take first xs) ++ numbered_text clients n (take second (drop first xs)))) here
    ∙ ap (λ l. point_text clients number x ++ l) (next_lines clients (number + 1) first second xs)
    ∙ ap (λ n. numbered_text clients number (take n (x ∷ xs))) more

-- the first points, and all others
pub last_lines : (clients number first : ℕ) (xs : List Found)
    → numbered_text clients number (take first xs) ++ numbered_text clients (number + first) (drop first xs)
    ≡ numbered_text clients number xs
last_lines clients number zero xs =
    let here : number + 0 ≡ number = omega arith in ap (λ n. numbered_text clients n xs) here
last_lines clients number (suc first) [] = refl
last_lines clients number (suc first) (x ∷ xs) =
    let here : number + suc first ≡ number + 1 + first = omega arith in
    append_assoc (point_text clients number x) (numbered_text clients (number + 1) (take first xs))
    (numbered_text clients (number + suc first) (drop first xs))
    ∙ ap (λ n. point_text clients number x
    ++ (numbered_text clients (number + 1) (take first xs) ++ numbered_text clients n (drop first xs))) here
    ∙ ap (λ l. point_text clients number x ++ l) (last_lines clients (number + 1) first xs)

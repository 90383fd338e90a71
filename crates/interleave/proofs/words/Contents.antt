-- How the content goes on from a node.
use Rattle.std.proofs.Common.{◌≡◌, ◌≢◌, ℕ, zero, suc, ◌-◌, ◌+◌, ◌<◌, List, [], ◌∷◌, ◌++◌, map, Bool, true, false, ◌==◌, if◌then◌else◌, refl, arith}
use Rattle.std.specs.List.{filter}
use Rattle.std.proofs.lemmas.Bool.{eq-eqb, ne_eqb}
use Rattle.words.specs.PlainQueue.{Value}
use Rattle.arena.specs.Words.{links, marks, values}
use Rattle.arena.specs.Chain.{walk}
use Rattle.arena.specs.declared.place.Place.{Place}
use Rattle.interleave.specs.Content.{unclaimed_from}

-- what so many links from a node on reach
abbrev pub content_from : (Place → ℕ) → ℕ → ℕ → List Value
content_from word fuel n = map (values word) (filter (λ m. marks word m == 0) (walk fuel (links word) n))

-- nothing follows the last node
pub content_end : (word : Place → ℕ) (fuel n : ℕ) → links word n ≡ 0 → content_from word fuel n ≡ []
content_end word zero n h = refl
content_end word (suc fuel) n h = rw (eq-eqb (links word n) 0 h) refl

-- the first of these nodes has its part first
first_part : (word : Place → ℕ) (m : ℕ) (ns : List ℕ) → map (values word) (filter (λ n. marks word n == 0) (m ∷ ns)) ≡ unclaimed_from word m ++ map (values word) (filter (λ n. marks word n == 0) ns)
first_part word m ns = go (marks word m == 0) refl
  where
    go : (t : Bool) → (marks word m == 0) ≡ t → map (values word) (if t then m ∷ filter (λ n. marks word n == 0) ns else filter (λ n. marks word n == 0) ns) ≡ (if t then values word m ∷ [] else []) ++ map (values word) (filter (λ n. marks word n == 0) ns)
    go true e = refl
    go false e = refl

-- another goes on with the node that it links
pub content_next : (word : Place → ℕ) (fuel taken n m : ℕ) → taken < fuel → links word n ≡ m → m ≢ 0 → content_from word (fuel - taken) n ≡ unclaimed_from word m ++ content_from word (fuel - (taken + 1)) m
content_next word fuel taken n m some e next = go (fuel - taken) refl
  where
    go : (left : ℕ) → fuel - taken ≡ left → content_from word left n ≡ unclaimed_from word m ++ content_from word (fuel - (taken + 1)) m
    go zero h = absurd (omega arith)
    go (suc left) h =
        let one : fuel - (taken + 1) ≡ left = omega arith in
        rw (one, e, ne_eqb m 0 next) (first_part word m (walk left (links word) m))

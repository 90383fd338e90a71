-- Ranges that are too wide, or begin behind all takes, are not overfull.
use Rattle.std.proofs.Common.{ℕ, ◌≡◌, ◌<◌, ◌≤◌, ◌+◌, true, arith, leb}
use Rattle.std.specs.Prelude.{◌&&◌}
use Rattle.std.proofs.lemmas.Bool.{and_parts, leb-true}
use Rattle.windows.specs.Calls.{Calls, AreCalls}
use Rattle.windows.specs.Counting.{how_many}
use Rattle.windows.specs.Takes.{IsOverfull, lies_within}
use Rattle.windows.proofs.Facts.{low, high, missing, open_count, low_few, no_more_than, Search, found_least, found_none}
use Rattle.windows.proofs.Facts.{search_least, none_counts}

low_of : (calls : Calls) (from to v : ℕ) → lies_within (missing calls) (low calls) (high calls) from to v ≡ true
    → from ≤ low calls v
low_of calls from to v pass =
    leb-true from (low calls v) (and_parts (leb from (low calls v)) (leb (high calls v) to)
    (and_parts (missing calls v) (leb from (low calls v) && leb (high calls v) to) pass).1).0

-- some value lies within it
begins_soon : (calls : Calls) → AreCalls calls → (from to : ℕ)
    → IsOverfull calls.places (missing calls) (low calls) (high calls) from to → from ≤ open_count calls
begins_soon calls are from to full =
    go (search_least calls.places (lies_within (missing calls) (low calls) (high calls) from to) (λ v. v))
  where
    go : Search calls.places (lies_within (missing calls) (low calls) (high calls) from to) (λ v. v)
        → from ≤ open_count calls
    go (found_least v first) =
        let le : from ≤ low calls v = low_of calls from to v first.passes in
        let few : low calls v ≤ open_count calls = low_few calls are v in omega (arith, le, few)
    go (found_none fail) =
        absurd (let none : how_many (lies_within (missing calls) (low calls) (high calls) from to) calls.places ≡ 0 =
        none_counts calls.places (lies_within (missing calls) (low calls) (high calls) from to) fail in
        omega (arith, none, full))

pub not_wide : (calls : Calls) → AreCalls calls → (from to all : ℕ) → all ≡ open_count calls + calls.places → all ≤ to
    → IsOverfull calls.places (missing calls) (low calls) (high calls) from to → ⊥
not_wide calls are from to all is wide full =
    let soon : from ≤ open_count calls = begins_soon calls are from to full in
    let most : how_many (lies_within (missing calls) (low calls) (high calls) from to) calls.places ≤ calls.places =
    no_more_than (lies_within (missing calls) (low calls) (high calls) from to) calls.places in
    omega (arith, is, wide, full, soon, most)

pub not_far : (calls : Calls) → AreCalls calls → (from to : ℕ) → open_count calls < from
    → IsOverfull calls.places (missing calls) (low calls) (high calls) from to → ⊥
not_far calls are from to far full =
    let soon : from ≤ open_count calls = begins_soon calls are from to full in omega (arith, far, soon)

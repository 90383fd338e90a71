-- A place is clear if no value covers it and none is crowded.
use Rattle.std.proofs.Common.{ℕ, ◌≡◌, ◌<◌, ◌≤◌, ◌+◌, arith, leb}
use Rattle.std.specs.Prelude.{◌&&◌}
use Rattle.std.proofs.lemmas.Bool.{and_parts, leb-true}
use Rattle.windows.specs.Calls.{Calls, AreCalls}
use Rattle.windows.specs.Counting.{how_many}
use Rattle.windows.specs.Moments.{IsCrowded, crowds}
use Rattle.windows.proofs.Facts.{IsClear, out_if_below, begun_by, low, missing, open_count, low_few, take_of}
use Rattle.windows.proofs.Facts.{Search, found_least, found_none, search_least, none_counts}
use Rattle.deciding.specs.Covered.{IsCovered}

crowded_soon : (calls : Calls) → AreCalls calls → (from place : ℕ)
    → IsCrowded calls.places (missing calls) (low calls) calls.end (begun_by calls) from place
    → from ≤ open_count calls
crowded_soon calls are from place full =
    go (search_least calls.places (crowds (missing calls) (low calls) calls.end from place) (λ v. v))
  where
    go : Search calls.places (crowds (missing calls) (low calls) calls.end from place) (λ v. v)
        → from ≤ open_count calls
    go (found_least v first) =
        let both = and_parts (missing calls v) (leb from (low calls v) && leb (calls.end v) place) first.passes in
        let le : from ≤ low calls v =
        leb-true from (low calls v) (and_parts (leb from (low calls v)) (leb (calls.end v) place) both.1).0 in
        let few : low calls v ≤ open_count calls = low_few calls are v in omega (arith, le, few)
    go (found_none fail) =
        absurd (let none : how_many (crowds (missing calls) (low calls) calls.end from place) calls.places ≡ 0 =
        none_counts calls.places (crowds (missing calls) (low calls) calls.end from place) fail in
        omega (arith, none, full))

pub clear_is : (calls : Calls) → AreCalls calls → (place many : ℕ) → many ≡ open_count calls
    → ((u : ℕ) → u < calls.places → IsCovered calls u place → ⊥)
    → ((from : ℕ) → from < many + 1
    → IsCrowded calls.places (missing calls) (low calls) calls.end (begun_by calls) from place → ⊥)
    → IsClear calls place
clear_is calls are place many is uncovered uncrowded = record {
  not_covered = λ u out ended later.
      uncovered u (are.sources (take_of calls u) u out.within out.got).0 (out.within, (ended, later));
  not_crowded = λ from full. let soon : from ≤ open_count calls = crowded_soon calls are from place full in
      uncrowded from (omega (arith, is, soon)) full;
}

pub covered_not : (calls : Calls) (u place : ℕ) → IsCovered calls u place → IsClear calls place → ⊥
covered_not calls u place covered clear =
    clear.not_covered u (out_if_below calls u covered.0) covered.1.0 covered.1.1

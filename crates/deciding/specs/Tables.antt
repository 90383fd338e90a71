-- Tables over the places of calls: what each has at a place.
use Rattle.std.specs.Prelude.{ℕ, ◌≡◌, ◌<◌, List, length, slice_index}
use Rattle.windows.specs.Calls.{Calls}
use Rattle.windows.proofs.Facts.{take_of, release, limit, open_count, begin_of, low, high}

-- a number for each place
pub record HasEach (f : ℕ → ℕ) (n : ℕ) (numbers : List ℕ) : Type 0 where
  pub long : length numbers ≡ n
  pub each : (v : ℕ) → v < n → slice_index numbers v ≡ f v

abbrev pub AreTakes : Calls → List ℕ → Type 0
AreTakes calls takes = HasEach (take_of calls) calls.places takes

abbrev pub AreReleases : Calls → List ℕ → Type 0
AreReleases calls releases = HasEach (release calls) calls.places releases

abbrev pub AreLimits : Calls → List ℕ → Type 0
AreLimits calls limits = HasEach (limit calls) calls.places limits

abbrev pub AreOpens : Calls → List ℕ → Type 0
AreOpens calls opens = HasEach (begin_of calls) (open_count calls) opens

abbrev pub AreLows : Calls → List ℕ → Type 0
AreLows calls lows = HasEach (low calls) calls.places lows

abbrev pub AreHighs : Calls → List ℕ → Type 0
AreHighs calls highs = HasEach (high calls) calls.places highs

-- The first take that got a value is the one.
use Rattle.std.proofs.Common.{ℕ, ◌≡◌, ◌<◌, ◌≤◌, ◌⊎◌, inl, inr, arith, sym}
use Rattle.std.proofs.lemmas.Bool.{cases_lt}
use Rattle.windows.specs.Calls.{Calls, took}
use Rattle.windows.proofs.Facts.{taker, take_of, IsTakenBy, IsUntaken}

pub first_is : (calls : Calls) (put t : ℕ) → ((s : ℕ) → s < t → calls.known s ≡ took put → ⊥)
    → t < calls.places → calls.known t ≡ took put → t ≡ take_of calls put
first_is calls put t before lt got = go (taker calls put).is (cases_lt (take_of calls put) t)
  where
    go : IsTakenBy calls put (take_of calls put) ⊎ ((take_of calls put ≡ calls.places) × IsUntaken calls put)
        → (take_of calls put < t) ⊎ (t ≤ take_of calls put) → t ≡ take_of calls put
    go (inr fail) side = absurd (fail.1.none t lt got)
    go (inl is) (inl less) = absurd (before (take_of calls put) less is.got)
    go (inl is) (inr more) = by (cases_lt t (take_of calls put))
      where
        by : (t < take_of calls put) ⊎ (take_of calls put ≤ t) → t ≡ take_of calls put
        by (inl less) = absurd ((taker calls put).first t less got)
        by (inr le) = omega (arith, le, more)

pub none_is : (calls : Calls) (put : ℕ) → ((s : ℕ) → s < calls.places → calls.known s ≡ took put → ⊥)
    → calls.places ≡ take_of calls put
none_is calls put before = go (taker calls put).is
  where
    go : IsTakenBy calls put (take_of calls put) ⊎ ((take_of calls put ≡ calls.places) × IsUntaken calls put)
        → calls.places ≡ take_of calls put
    go (inr fail) = sym fail.0
    go (inl is) = absurd (before (take_of calls put) is.within is.got)

-- A table that says what is known of each place.
use Rattle.std.specs.Prelude.{ℕ, ◌≡◌, ◌<◌, List, Option, length, slice_index_or}
use Rattle.words.specs.declared.told.Outcome.{Outcome}
use Rattle.events.specs.declared.event.Event.{Event}
use Rattle.findings.proofs.Offered.{Means}
use Rattle.deciding.specs.declared.known.Knows.{Knows}
use Rattle.deciding.specs.declared.known.Knows.TheVariants.{NoCall}
use Rattle.deciding.specs.Table.{known_of}

pub record AllMean (events : List Event) (learnt : List (Option Outcome)) (knows : List Knows) : Type 0 where
  pub long : length knows ≡ length events
  pub each : (p : ℕ) → p < length events → Means events learnt p (known_of (slice_index_or knows p NoCall))

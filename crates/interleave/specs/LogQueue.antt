-- What a log queue keeps for its clients: what they are told, verdicts among it, and the floor of each one's numbers.
use Rattle.std.specs.Prelude.{ℕ, ◌-◌, Bool, ◌||◌, ◌==◌, nat_lt, nat_le, List, map, replicate, Option, Some, None}
use Rattle.words.specs.declared.limits.TheConstants.{MAX_CALL_NUMBER, MAX_CLIENTS}
use Rattle.words.specs.declared.told.Outcome.{Outcome}
use Rattle.words.specs.declared.told.Outcome.TheVariants.{NotTaken, Taken}
use Rattle.words.specs.declared.told.Verdict.{Verdict}
use Rattle.words.specs.declared.told.Told.{Told}
use Rattle.words.specs.declared.told.Told.TheVariants.{None as told_none, Verdict as told_verdict, Row as told_row}

pub record LogClients : Type 0 where
  pub told : List Told
  pub floors : List ℕ

-- the verdict that a client is told
abbrev pub verdict_of : Option Told → Option Verdict
verdict_of (Some (told_verdict verdict)) = Some verdict
verdict_of (Some (told_row row)) = None
verdict_of (Some told_none) = None
verdict_of None = None

abbrev pub floor_from : ℕ → Outcome → ℕ
floor_from number (Taken reply) = number
floor_from number NotTaken = number - 1

-- the floor after a client was told this: the number of a call that took effect, one less of one that did not, else 0
abbrev pub floor_of : Told → ℕ
floor_of (told_verdict verdict) = floor_from verdict.number verdict.outcome
floor_of (told_row row) = 0
floor_of told_none = 0

-- whether a number may not begin a call: it is 0, above the greatest, or not above the floor
abbrev pub is_stale : ℕ → ℕ → Bool
is_stale floor number = (number == 0) || nat_lt MAX_CALL_NUMBER number || nat_le number floor

abbrev pub told_queue : List Told → LogClients
told_queue told = record { told = told; floors = map floor_of told }

abbrev pub new_queue : LogClients
new_queue = record { told = replicate MAX_CLIENTS told_none; floors = replicate MAX_CLIENTS 0 }

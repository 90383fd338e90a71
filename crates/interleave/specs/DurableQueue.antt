-- What the clients of a durable queue are told.
use Rattle.std.specs.Prelude.{ℕ, ◌-◌, List, ◌++◌, replicate, Option, Some, None}
use Rattle.words.specs.declared.limits.TheConstants.{MAX_CLIENTS}
use Rattle.words.specs.declared.told.Row.{Row}
use Rattle.words.specs.declared.told.Row.TheVariants.{NoCall}
use Rattle.words.specs.declared.told.Told.{Told}
use Rattle.words.specs.declared.told.Told.TheVariants.{None as told_none, Verdict as told_verdict, Row as told_row}

-- each client that there is has called nothing yet
abbrev pub no_calls : ℕ → List Told
no_calls clients = replicate clients (told_row NoCall) ++ replicate (MAX_CLIENTS - clients) told_none

-- the row that a client is told
abbrev pub row_of : Option Told → Row
row_of (Some (told_row row)) = row
row_of (Some (told_verdict verdict)) = NoCall
row_of (Some told_none) = NoCall
row_of None = NoCall

-- What a client's number comes to, by the last verdict that is kept for it: a refusal, its reply (nothing runs), or,
-- with none, a run.
use Rattle.std.specs.Prelude.{ℕ, ◌+◌, ◌==◌, Option, Some, None, Result, Ok, Err, nat_lt, if◌then◌else◌}
use Rattle.words.specs.declared.call.Reply.{Reply}
use Rattle.words.specs.declared.refusal.Refusal.{Refusal}
use Rattle.words.specs.declared.refusal.Refusal.TheVariants.{Gap, Old}
use Rattle.words.specs.declared.told.Outcome.{Outcome}
use Rattle.words.specs.declared.told.Outcome.TheVariants.{NotTaken, Taken}
use Rattle.words.specs.declared.told.Verdict.{Verdict}

-- below the last number: it is Old; above: it leaves a Gap
abbrev pub missed : ℕ → ℕ → Result (Option Reply) Refusal
missed last number = if nat_lt number last then Err Old else Err Gap

-- the last number took effect: it has its reply, and the next one runs
abbrev pub by_reply : Reply → ℕ → ℕ → Result (Option Reply) Refusal
by_reply reply last number =
    if number == last then Ok (Some reply) else (if number == last + 1 then Ok None else missed last number)

-- it took none and never will: it runs, as a new call
abbrev pub by_outcome : Outcome → ℕ → ℕ → Result (Option Reply) Refusal
by_outcome (Taken reply) last number = by_reply reply last number
by_outcome NotTaken last number = if number == last then Ok None else missed last number

-- a client's first number is 1
abbrev pub by_last : Option Verdict → ℕ → Result (Option Reply) Refusal
by_last (Some verdict) number = by_outcome verdict.outcome verdict.number number
by_last None number = if number == 1 then Ok None else Err Gap

-- and 0 is below every number
abbrev pub by_number : Option Verdict → ℕ → Result (Option Reply) Refusal
by_number last number = if number == 0 then Err Old else by_last last number

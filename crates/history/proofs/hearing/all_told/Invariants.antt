use Rattle.std.proofs.Common.{◌<◌, ℕ}
use Rattle.std.specs.Prelude.{EachIndex}
use Rattle.history.specs.Hearing.{IsToldOfAll, TellsSixteen}
use Rattle.history.proofs.hearing.all_told.Given as goal

abbrev pub invariant-loop-t : goal.invariant-loop-t
invariant-loop-t l = record {
  told : (k : ℕ) → k < l.t → IsToldOfAll l.kind l.base l.events.items l.entries (record { 0 = k });
  sixteen : 0 < l.t → EachIndex l.events.items (λ q. TellsSixteen l.events.items q);
}

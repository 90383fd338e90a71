use Rattle.std.proofs.Common.{ℕ, ◌≡◌, ◌<◌, length}
use Rattle.events.specs.Orders.{IsNew}
use Rattle.findings.specs.Agreeing.{IsTableOf}
use Rattle.findings.proofs.agreeing.numbers_by_place.Given as goal

abbrev pub invariant-loop-i : goal.invariant-loop-i
invariant-loop-i l = record {
  numbers : IsTableOf l.entries l.i l.table.items;
  new : (k : ℕ) → k < l.i → IsNew l.entries k;
  places : length l.table.items ≡ l.places;
}

use Rattle.std.proofs.Common.{◌≡◌}
use Rattle.history.specs.Hearing.{IsProgressTo}
use Rattle.history.proofs.hearing.before_ready.Given as goal

abbrev pub invariant-loop-i : goal.invariant-loop-i
invariant-loop-i l = record {
  so_far : IsProgressTo l.who.kind l.who.events.now.items l.who.entries.now l.who.client l.q l.now.from l.now.last l.i;
  calls : l.now.calls ≡ l.fn.progress.calls;
}

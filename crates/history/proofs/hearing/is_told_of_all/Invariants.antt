use Rattle.std.proofs.Common.{◌<◌, ◌≤◌, ℕ, length}
use Rattle.history.specs.Hearing.{IsProgressTo, HasNoCall, IsToldAt, TellsSixteen}
use Rattle.history.proofs.hearing.is_told_of_all.Given as goal

abbrev pub invariant-loop-q : goal.invariant-loop-q
invariant-loop-q l = record {
  entries_within : l.progress.entries ≤ length l.who.entries.now;
  so_far : IsProgressTo l.who.kind l.who.events.now.items l.who.entries.now l.who.client l.q l.progress.from
      l.progress.last l.progress.entries;
  few : l.progress.calls ≤ l.q;
  later : HasNoCall l.who.kind l.who.events.now.items l.who.client l.progress.calls l.q;
  told : (k : ℕ) → k < l.q → IsToldAt l.who.kind l.base l.who.events.now.items l.who.entries.now l.who.client k;
  sixteen : (k : ℕ) → k < l.q → TellsSixteen l.who.events.now.items k;
}

use Rattle.std.proofs.Common.{◌≡◌, ◌<◌, ℕ, None, slice_index_or, length}
use Rattle.named.specs.Promises.{KeepsPromises}
use Rattle.session.specs.Keeping.{told_when_asked}
use Rattle.session.proofs.kept.row_told.Given as goal

pub record IsToldSoFar (l : goal.Live-loop-client) : Type 0 where
  pub len : length l.row ≡ 16
  pub promises : 0 < l.client → KeepsPromises l.broker
  pub so_far : (k : ℕ) → k < l.client → slice_index_or l.row k None ≡ told_when_asked l.broker l.slot.0 k

abbrev pub invariant-loop-client : goal.invariant-loop-client
invariant-loop-client l = IsToldSoFar l

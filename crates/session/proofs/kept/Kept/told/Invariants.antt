use Rattle.std.proofs.Common.{◌≡◌, ◌<◌, ℕ, List, [], Option, None, slice_index_or, length}
use Rattle.words.specs.declared.limits.TheConstants.{MAX_CLIENTS}
use Rattle.words.specs.declared.told.Verdict.{Verdict}
use Rattle.named.specs.Brokers.{Brokered}
use Rattle.named.specs.Promises.{KeepsPromises}
use Rattle.session.specs.Keeping.{told_when_asked}
use Rattle.session.proofs.kept.Kept.told.Given as goal

-- a row has what each client is told in its slot
pub record IsRowOf (b : Brokered) (slot : ℕ) (row : List (Option Verdict)) : Type 0 where
  pub len : length row ≡ MAX_CLIENTS
  pub told : (client : ℕ) → client < MAX_CLIENTS → slice_index_or row client None ≡ told_when_asked b slot client

pub record AreToldSoFar (l : goal.Live-loop-slot) : Type 0 where
  pub len : length l.rows ≡ 8
  pub promises : 0 < l.slot → KeepsPromises l.broker
  pub so_far : (k : ℕ) → k < l.slot → IsRowOf l.broker k (slice_index_or l.rows k [])

abbrev pub invariant-loop-slot : goal.invariant-loop-slot
invariant-loop-slot l = AreToldSoFar l

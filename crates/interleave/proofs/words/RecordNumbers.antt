-- The number of a record is one of the layout's.
use Rattle.std.proofs.Common.{ℕ, ◌+◌, ◌*◌, ◌<◌, ◌≤◌, suc, arith}
use Rattle.std.proofs.Math.Nat.{mul-le-mul_right}

pub record_in_range : (clients records client used : ℕ) → client < clients → used < records → 1 + client * records + used ≤ clients * records
record_in_range clients records client used c u = omega (arith, mul-le-mul_right records (let h : suc client ≤ clients = c in h))

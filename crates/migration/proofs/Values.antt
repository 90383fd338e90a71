-- The item of a value's four bytes.
use Rattle.std.proofs.Common.{ℕ, zero, suc, ◌<◌, slice_index, arith}
use Rattle.std.specs.Int.{w32, to_le_bytes}
use Rattle.words.specs.PlainQueue.{FitsValue}

bytes_below : (v k : ℕ) → slice_index (to_le_bytes w32 v) k < 256
bytes_below v zero = omega arith
bytes_below v (suc zero) = omega arith
bytes_below v (suc (suc zero)) = omega arith
bytes_below v (suc (suc (suc zero))) = omega arith
bytes_below v (suc (suc (suc (suc k)))) = omega arith

-- it is one
pub value_fits : (v : ℕ) → FitsValue (to_le_bytes w32 v)
value_fits v = record { short = omega arith; bytes = bytes_below v }

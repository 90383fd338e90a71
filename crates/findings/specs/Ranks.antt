-- The messages by which the values of a recording are known: their numbers.
use Rattle.std.specs.Prelude.{ℕ, nat_le, if◌then◌else◌, length, take}
use Rattle.std.specs.Int.{w32, from_le_bytes, to_le_bytes}
use Rattle.words.specs.PlainQueue.{Value}

-- the four bytes of a number, little-endian
abbrev pub ranked : ℕ → Value
ranked rank = to_le_bytes w32 rank

-- the number of the first four bytes, and 0 where there are not so many
abbrev pub rank_of : Value → ℕ
rank_of value = if nat_le 4 (length value) then from_le_bytes w32 (take 4 value) else 0

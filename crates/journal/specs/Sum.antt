-- The sum that stands behind the head of a journal and behind each frame.
use Rattle.std.specs.Prelude.{ℕ, List, max}
use Rattle.std.specs.Int.{w64, to_le_bytes}
use Rattle.std.specs.Hash.DefaultHasher as sip

-- SipHash-1-3 of the key and then the bytes, but never 0
unfoldable pub digest : List ℕ → List ℕ → ℕ
digest key bytes = max 1 (sip.finish (sip.write (sip.write sip.initial key) bytes))

-- the same in eight bytes, the low one first
unfoldable pub sum_of : List ℕ → List ℕ → List ℕ
sum_of key bytes = to_le_bytes w64 (digest key bytes)

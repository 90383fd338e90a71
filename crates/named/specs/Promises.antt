-- What is promised of each queue of a broker, at every moment.
use Rattle.std.specs.Prelude.{◌≡◌, ℕ, Some}
use Rattle.interleave.specs.Holds.{IsExplained}
use Rattle.interleave.specs.State.{State}
use Rattle.named.specs.Booting.{AreBootWords}
use Rattle.named.specs.Brokers.{Brokered, IsWell, world_at}

-- each open slot's history may arise, its order explains it, and its kept words hold what the replay of the order
-- leaves
abbrev pub AreExplained : Brokered → Type 0
AreExplained b = (slot : ℕ) (w : State) → world_at b slot ≡ Some w → IsExplained w

-- so it is, and another broker may begin on the words that are kept. Laws on brokers ask that all be well with them
pub record KeepsPromises (b : Brokered) : Type 0 where
  pub explained : AreExplained b
  pub boots : AreBootWords b.words.kept
  pub well : IsWell b

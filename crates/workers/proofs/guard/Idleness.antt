-- Where no client has a call under way: past the slots.
use Rattle.std.proofs.Common.{ℕ, ◌<◌, Ok, Some}
use Rattle.words.specs.declared.call.Client.{Client}
use Rattle.arena.specs.declared.broker.TheConstants.{SLOTS}
use Rattle.interleave.specs.Verdicts.{number_under_way}
use Rattle.named.specs.Brokers.{Brokered, IsWell}
use Rattle.session.proofs.Facts.{accepted_within}
use Rattle.workers.specs.Opening.{IsCalling}

-- the queue of a call under way is in one of the slots
pub calls_within : (b : Brokered) (slot : ℕ) (client : Client) (number : ℕ) → IsWell b
    → IsCalling b slot client number → slot < SLOTS
calls_within b slot client number well calling =
    accepted_within (λ w. Ok (number_under_way w client)) b slot client (Some number) well calling

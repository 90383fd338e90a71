use Rattle.std.proofs.Common.{◌≡◌, ◌<◌, ℕ}
use Rattle.words.specs.declared.call.Client.{Client}
use Rattle.workers.specs.Opening.{IsCalling}
use Rattle.workers.proofs.opening.has_call.Given as goal

abbrev pub invariant-loop-client : goal.invariant-loop-client
invariant-loop-client l =
    let b = l.session.broker in
    (l.client-end ≡ b.counts.clients)
    × ((client : Client) (number : ℕ) → client.0 < l.client → IsCalling b l.queue.0 client number → ⊥)

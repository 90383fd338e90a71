-- What the kept words of a session's broker tell of what is settled.
use Rattle.std.specs.Prelude.{◌≡◌, ◌<◌, ℕ, Ok, Some}
use Rattle.words.specs.declared.call.Client.{Client}
use Rattle.words.specs.declared.call.Kind.TheVariants.{Log as log_kind}
use Rattle.words.specs.declared.call.Reply.{Reply}
use Rattle.interleave.specs.State.{State}
use Rattle.interleave.specs.Verdicts.{kept_told}
use Rattle.named.specs.Brokers.{world_at}
use Rattle.session.specs.Keeping.{IsSettled, verdict_heard}
use Rattle.session.specs.Sessions.{Sessioned, kept_at}

-- each number of a client of a log queue that is settled is so by the verdict that the kept words tell: a broker that
-- begins on them tells the client just that
abbrev pub IsSettledTold : Sessioned → Type 0
IsSettledTold s =
    (slot : ℕ) (w : State) (client : Client) (number : ℕ) (reply : Reply) → world_at s.broker slot ≡ Some w
    → w.shape.kind ≡ log_kind → client.0 < w.shape.clients → IsSettled (kept_at s slot client) number reply
    → IsSettled (verdict_heard (Ok (kept_told w client))) number reply

-- What a session has settled the kept words tell.
use Rattle.std.proofs.Common.{◌≡◌, ◌≤◌, inl, inr, ℕ, ◌<◌, Option, Some, None, Ok, refl, sym, ap, subst, ◌∙◌, arith}
use Rattle.words.specs.declared.call.Client.{Client}
use Rattle.words.specs.declared.call.Kind.TheVariants.{Log as log_kind}
use Rattle.words.specs.declared.call.Reply.{Reply}
use Rattle.words.specs.declared.told.Told.{Told}
use Rattle.words.specs.declared.told.Told.TheVariants.{None as told_none, Verdict as told_verdict, Row as told_row}
use Rattle.words.specs.declared.told.Verdict.{Verdict}
use Rattle.interleave.specs.State.{State}
use Rattle.interleave.specs.Verdicts.{IsRecalled, IsToldAbove, floor_by, kept_told, told_as}
use Rattle.named.specs.Brokers.{world_at}
use Rattle.session.specs.Keeping.{IsSettled, verdict_heard}
use Rattle.session.specs.Sessions.{IsRight, IsSlotRight, Sessioned, is_up, kept_at, kept_in}
use Rattle.session.proofs.answers.NextNumbers.{answered_by_floor}

heard_as : (last : Option Verdict) → verdict_heard (Ok (told_as last)) ≡ last
heard_as None = refl
heard_as (Some verdict) = refl

settled_above : (floor number : ℕ) (reply : Reply) (told : Told) → IsToldAbove floor told → number ≤ floor → IsSettled (verdict_heard (Ok told)) number reply
settled_above floor number reply told_none above most = absurd above
settled_above floor number reply (told_row row) above most = absurd above
settled_above floor number reply (told_verdict verdict) above most = inr (omega (arith, above, most))

recalled_settles : (w : State) (client : Client) (last : Option Verdict) (number : ℕ) (reply : Reply) → IsRecalled w client last
    → IsSettled last number reply → IsSettled (verdict_heard (Ok (kept_told w client))) number reply
recalled_settles w client last number reply is settled = elim is.told [
  | inl same ↦
      subst (λ (v : Option Verdict). IsSettled v number reply) (sym (ap (λ (t : Told). verdict_heard (Ok t)) same ∙ heard_as last)) settled
  | inr above ↦ settled_above (floor_by last) number reply (kept_told w client) above (answered_by_floor last number reply settled)
]

pub settled_told : (s : Sessioned) (slot : ℕ) (w : State) (client : Client) (number : ℕ) (reply : Reply) → IsRight s → world_at s.broker slot ≡ Some w
    → w.shape.kind ≡ log_kind → client.0 < w.shape.clients → IsSettled (kept_at s slot client) number reply
    → IsSettled (verdict_heard (Ok (kept_told w client))) number reply
settled_told s slot w client number reply right here log few settled =
    let there : IsSlotRight (is_up s.broker) (Some w) (kept_in s.kept slot) =
    subst (λ (o : Option State). IsSlotRight (is_up s.broker) o (kept_in s.kept slot)) here (right.slots slot) in
    recalled_settles w client (kept_at s slot client) number reply ((there log).recalled client few) settled

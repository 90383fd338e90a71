-- What follows of a session's invariant: what is promised of the numbers of its clients.
use Rattle.std.proofs.Common.{◌≡◌, ℕ, ◌<◌, ◌⊎◌, inl, inr, Bool, true, Option, Some, None, refl, sym}
use Rattle.std.proofs.Common.{subst, arith}
use Rattle.words.specs.declared.call.Client.{Client}
use Rattle.words.specs.declared.call.Kind.TheVariants.{Log as log_kind}
use Rattle.words.specs.declared.call.Reply.{Reply}
use Rattle.words.specs.declared.limits.TheConstants.{MAX_CLIENTS}
use Rattle.words.specs.declared.told.Verdict.{Verdict}
use Rattle.interleave.specs.State.{State}
use Rattle.interleave.specs.Verdicts.{IsIdle, IsToldAbove, taken_as, told_as}
use Rattle.interleave.proofs.Facts.{base_below, none_above, settled}
use Rattle.named.specs.Brokers.{world_at}
use Rattle.named.proofs.Facts.{promises_well}
use Rattle.session.specs.Keeping.{IsSettled}
use Rattle.session.specs.Promises.{IsKeptRight, IsReplyAt, IsReplyIn, KeepsNumbers}
use Rattle.session.specs.Sessions.{AreVerdictsRight, IsLogClient, IsRight, IsSlotRight, Sessioned, is_up, kept_at}
use Rattle.session.specs.Sessions.{kept_in}
use Rattle.session.proofs.calls.SlotCalls.{up_is}
use Rattle.session.proofs.brokers.Worlds.{few_there, holds_there}

-- a number that the last verdict says, or that is below it, is settled
settled_by : (last : Option Verdict) (number : ℕ) (reply : Reply)
    → (last ≡ Some (taken_as number reply)) ⊎ IsToldAbove number (told_as last) → IsSettled last number reply
settled_by None number reply (inl same) = absurd (cc (same))
settled_by None number reply (inr above) = absurd above
settled_by (Some verdict) number reply (inl same) = inl (cc (same))
settled_by (Some verdict) number reply (inr above) = inr above

module _ (s : Sessioned) (right : IsRight s) where
  -- what is kept for the clients of a log queue, once the broker is ready
  pub right_at : (slot : ℕ) (w : State) → s.broker.recovery ≡ None → world_at s.broker slot ≡ Some w
      → w.shape.kind ≡ log_kind → AreVerdictsRight true w (kept_in s.kept slot)
  right_at slot w up here log = there log
    where
      there : IsSlotRight true (Some w) (kept_in s.kept slot)
      there =
          subst (λ (o : Option State). IsSlotRight true o (kept_in s.kept slot)) here
          (subst (λ (u : Bool). IsSlotRight u (world_at s.broker slot) (kept_in s.kept slot)) (up_is s.broker up)
          (right.slots slot))

  kept_right : (slot : ℕ) (w : State) (client : Client) → s.broker.recovery ≡ None → world_at s.broker slot ≡ Some w
      → w.shape.kind ≡ log_kind → client.0 < w.shape.clients → IsIdle w client
      → IsKeptRight w client (kept_at s slot client)
  kept_right slot w client up here log lt idle =
      let r = right_at slot w up here log in
      let few : client.0 < MAX_CLIENTS = omega (arith, lt, few_there s.broker right.well slot w here) in
      record {
        none_later =
            none_above w (holds_there s.broker right.well slot w here) log client few (kept_at s slot client) idle
            (r.last refl client lt);
        none_told_later =
            base_below w (holds_there s.broker right.well slot w here) log client few (kept_at s slot client) idle
            (r.last refl client lt);
        settled = λ number reply taken.
            settled_by (kept_at s slot client) number reply
            (settled w (holds_there s.broker right.well slot w here) log client few (kept_at s slot client) idle
            (r.last refl client lt) number reply taken);
        floor = (r.last refl client lt).floor;
      }

  -- a reply that is kept is that of its number
  reply_kept : (slot : ℕ) (client : Client) (number : ℕ) (reply : Reply) → IsLogClient s.broker slot client
      → kept_at s slot client ≡ Some (taken_as number reply) → IsReplyAt s slot client number reply
  reply_kept slot client number reply is kept =
      let there : IsSlotRight (is_up s.broker) (Some is.world) (kept_in s.kept slot) =
      subst (λ (o : Option State). IsSlotRight (is_up s.broker) o (kept_in s.kept slot)) is.here (right.slots slot) in
      subst (λ (o : Option State). IsReplyIn o client number reply) (sym is.here)
      (((there is.log).recalled client is.few).reply number reply kept)

  pub numbers_kept : KeepsNumbers s
  numbers_kept =
      let promises = promises_well s.broker right.well in
      record {
        broker = promises;
        replies = reply_kept;
        once = λ slot w here. (promises.explained slot w here).numbers;
        kept = kept_right;
      }

-- by the fields that the session is shown by
pub numbers_shown : (s shown : Sessioned) → IsRight s → s ≡ shown → KeepsNumbers shown
numbers_shown s shown right same = subst KeepsNumbers same (numbers_kept s right)

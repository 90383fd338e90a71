-- What is known of a call, and where it ends.
use Rattle.std.proofs.Common.{ℕ, ◌≡◌, ◌<◌, ◌⊎◌, List, Option, Some, None, length, inl, inr, refl, sym}
use Rattle.words.specs.declared.call.Call.{Call}
use Rattle.words.specs.declared.call.Client.{Client}
use Rattle.words.specs.declared.call.Reply.{Reply}
use Rattle.words.specs.declared.told.Outcome.{Outcome}
use Rattle.words.specs.declared.told.Outcome.TheVariants.{NotTaken, Taken}
use Rattle.events.specs.declared.event.Event.{Event}
use Rattle.events.specs.History.{BeginsAt, EndsAt, IsEnd}
use Rattle.events.specs.Replay.{call_at}
use Rattle.findings.specs.Facts.{HasEnd, HasNone}
use Rattle.findings.specs.Findings.{IsKnown, IsLearnt, IsReturned}
use Rattle.findings.proofs.Offered.{NothingKnown, end_at, end_is, place_end, begins_call}

pub nothing_known : (events : List Event) (learnt : List (Option Outcome)) (p : ℕ)
    → ((outcome : Outcome) → IsLearnt learnt p outcome → ⊥)
    → ((reply : Reply) → IsReturned events p reply → ⊥) → NothingKnown events learnt p
nothing_known events learnt p none_learnt none_returned = record {
  no_reply = no_reply;
  not_refused = none_learnt NotTaken;
}
  where
    no_reply : (reply : Reply) → IsKnown events learnt p reply → ⊥
    no_reply reply (inl returned) = none_returned reply returned
    no_reply reply (inr heard) = none_learnt (Taken reply) heard

pub end_found : (events : List Event) (p e : ℕ) → HasEnd events p e → e ≡ end_at events p
end_found events p e has = sym (end_is events has.client p e has.begins has.ends)

pub end_missing : (events : List Event) (p : ℕ) → HasNone events p → length events ≡ end_at events p
end_missing events p has = go (call_at events p) refl
  where
    by : (client : Client) (begins : BeginsAt events client p) → IsEnd events client p (end_at events p)
        ⊎ ((end_at events p ≡ length events) × ((k : ℕ) → p < k → EndsAt events client k → ⊥))
        → length events ≡ end_at events p
    by client begins (inl ends) =
        absurd (has.none (end_at events p) (record { client = client; begins = begins; ends = ends }))
    by client begins (inr fail) = sym fail.0

    go : (call : Option Call) → call_at events p ≡ call → length events ≡ end_at events p
    go None is = sym ((place_end events p).none is)
    go (Some call) is =
        let begins : (client : Client) × BeginsAt events client p = begins_call events p call is in
        by begins.0 begins.1 ((place_end events p).how begins.0 begins.1)

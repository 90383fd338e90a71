-- What stays over a client's act: how the queues are laid out, and so who their clients are, and what was answered.
use Rattle.std.proofs.Common.{◌≡◌, ◌≢◌, ◌⊎◌, inl, inr, ℕ, ◌<◌, false, is_ok, if◌then◌else◌, Option, Some, Result, Ok, Err, refl, sym, ap, subst, ◌∙◌}
use Rattle.std.proofs.lemmas.Bool.{cases_eq}
use Rattle.words.specs.declared.call.Call.{Call}
use Rattle.words.specs.declared.call.Client.{Client}
use Rattle.words.specs.declared.call.Reply.{Reply}
use Rattle.words.specs.declared.refusal.Refusal.{Refusal}
use Rattle.arena.specs.declared.broker.TheConstants.{SLOTS}
use Rattle.interleave.specs.State.{State, after_alone, after_start}
use Rattle.named.specs.Acting.{IsSameBeside}
use Rattle.named.specs.Brokers.{Brokered, IsWell, admission, answer_at, quiet, world_after, world_at}
use Rattle.named.specs.Slots.{acted}
use Rattle.named.proofs.Facts.{alone_alike, open_below, start_alike}
use Rattle.session.specs.Keeping.{IsSettled, IsKeptNow, SessionGoesOn}
use Rattle.session.specs.Requests.{IsRun}
use Rattle.session.specs.Sessions.{Sessioned, kept_at}
use Rattle.session.proofs.calls.SlotCalls.{answered_at}
use Rattle.session.proofs.calls.Numbers.{answers_go_on}
use Rattle.session.proofs.brokers.Worlds.{IsLaidOutAs, client_stays, laid_out_quiet}

-- a slot's queue is laid out as it was where nothing changed
pub laid_out_same : (w : State) (was now : Option State) → was ≡ Some w → now ≡ was → IsLaidOutAs w now
laid_out_same w was now here is = record { world = w; is = is ∙ here; shape = refl }

-- so it is after an act of a client, accepted or refused
pub laid_out_after : (f : State → State) → ((w : State) → (f w).shape ≡ w.shape) → (old : Brokered) (slot : ℕ) (client : Client)
    (w : State) (now : Option State) → world_at old slot ≡ Some w → now ≡ world_after f old slot client → IsLaidOutAs w now
laid_out_after f keeps old slot client w now here is = go (admission old client) is
  where
    go : (r : Result Unit Refusal) → now ≡ (if is_ok r then acted f (world_at old slot) else world_at old slot) → IsLaidOutAs w now
    go (Ok u) e = record { world = f w; is = e ∙ ap (acted f) here; shape = keeps w }
    go (Err refusal) e = laid_out_same w (world_at old slot) now here e

pub laid_out_run : (old new : Brokered) (slot : ℕ) (client : Client) (number : ℕ) (call : Call) (result : Result Reply Refusal)
    → IsRun old new slot client number call result → (w : State) → world_at old slot ≡ Some w → IsLaidOutAs w (world_at new slot)
laid_out_run old new slot client number call (Ok reply) ran w here =
    let same : ran.world ≡ w = cc (ran.was, here) in
    record {
      world = after_alone ran.steps (after_start false ran.world client number call) client;
      is = ran.is;
      shape = (alone_alike ran.steps (after_start false ran.world client number call) client).0
          ∙ (start_alike false ran.world client number call).0 ∙ ap (λ v. v.shape) same;
    }
laid_out_run old new slot client number call (Err refusal) (inl none, room, others) w here =
    laid_out_same w (world_at old slot) (world_at new slot) here (none.2 slot)
laid_out_run old new slot client number call (Err refusal) (inr refused, room, others) w here =
    laid_out_after (λ v. after_start false v client number call) (λ v. (start_alike false v client number call).0)
    old slot client w (world_at new slot) here refused.1

pub others_run : (old new : Brokered) (slot : ℕ) (client : Client) (number : ℕ) (call : Call) (result : Result Reply Refusal)
    → IsRun old new slot client number call result → IsSameBeside slot old new
others_run old new slot client number call (Ok reply) ran = ran.beside
others_run old new slot client number call (Err refusal) ran = ran.2

-- every queue is laid out as it was where the queue of one slot alone acted, and its layout stays
pub laid_out_each : (old new : Brokered) (slot : ℕ) → ((other : ℕ) → other ≢ slot → quiet (world_at new other) ≡ quiet (world_at old other))
    → ((w : State) → world_at old slot ≡ Some w → IsLaidOutAs w (world_at new slot))
    → (at : ℕ) (w : State) → world_at old at ≡ Some w → IsLaidOutAs w (world_at new at)
laid_out_each old new slot others own at w here = go (cases_eq at slot)
  where
    go : (at ≡ slot) ⊎ (at ≡ slot → ⊥) → IsLaidOutAs w (world_at new at)
    go (inl same) = subst (λ (n : ℕ). IsLaidOutAs w (world_at new n)) (sym same) (own w (ap (world_at old) (sym same) ∙ here))
    go (inr ne) = laid_out_quiet w (world_at new at) (others at ne ∙ ap quiet here)

-- what is kept stays, and so does what was answered
pub goes_on_kept : (old new : Sessioned) → new.kept ≡ old.kept
    → ((at : ℕ) (w : State) → world_at old.broker at ≡ Some w → IsLaidOutAs w (world_at new.broker at)) → SessionGoesOn old new
goes_on_kept old new same laid = record {
  clients = client_stays old.broker new.broker laid;
  answers = λ slot client number reply its answered.
      subst (λ kept. IsSettled (kept_at (record { broker = new.broker; kept = kept }) slot client) number reply) (sym same) answered;
}

-- one client's last verdict is another now, which answers all that was answered
pub goes_on_kept_now : (old new : Sessioned) (slot : ℕ) (client : Client) (last : Option _)
    → IsKeptNow old.kept new.kept slot client.0 last
    → ((at : ℕ) (w : State) → world_at old.broker at ≡ Some w → IsLaidOutAs w (world_at new.broker at))
    → ((number : ℕ) (reply : Reply) → IsSettled (kept_at old slot client) number reply → IsSettled last number reply)
    → SessionGoesOn old new
goes_on_kept_now old new slot client last now laid still = record {
  clients = client_stays old.broker new.broker laid;
  answers = answers_go_on old.broker new.broker old.kept new.kept slot client now.others (λ number reply its was.
      subst (λ v. IsSettled v number reply) (sym now.here) (still number reply was));
}

-- an accepted act is in one of the broker's slots
pub accepted_within : {T : Type 0} (f : State → Result T Refusal) (b : Brokered) (slot : ℕ) (client : Client) (answer : T) → IsWell b
    → answer_at f b slot client ≡ Ok answer → slot < SLOTS
accepted_within f b slot client answer well is =
    let at = answered_at f b slot client answer is in
    open_below b well slot at.world at.here

-- an accepted start or step leaves the queues of all slots laid out as they were
pub laid_out_act : (f : State → State) → ((w : State) → (f w).shape ≡ w.shape) → (old new : Brokered) (slot : ℕ) (client : Client)
    → world_at new slot ≡ world_after f old slot client
    → ((other : ℕ) → other ≢ slot → quiet (world_at new other) ≡ quiet (world_at old other))
    → (at : ℕ) (w : State) → world_at old at ≡ Some w → IsLaidOutAs w (world_at new at)
laid_out_act f keeps old new slot client world others =
    laid_out_each old new slot others (λ w here. laid_out_after f keeps old slot client w (world_at new slot) here world)

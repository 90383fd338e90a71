-- What is kept for the clients of a slot's queue stays right over their calls.
use Rattle.std.proofs.Common.{◌≡◌, ◌≢◌, ◌⊎◌, inl, inr, ℕ, ◌<◌, Bool, true, false, not, is_ok, is_some, if◌then◌else◌, Option, Some, None, Result, Ok, Err, refl, sym, ap, subst, ◌∙◌, arith}
use Rattle.std.proofs.lemmas.Bool.{cases_eq}
use Rattle.words.specs.declared.call.Call.{Call}
use Rattle.words.specs.declared.call.Client.{Client}
use Rattle.words.specs.declared.call.Kind.TheVariants.{Log as log_kind}
use Rattle.words.specs.declared.call.Reply.{Reply}
use Rattle.words.specs.declared.limits.TheConstants.{MAX_CLIENTS}
use Rattle.words.specs.declared.refusal.Refusal.{Refusal}
use Rattle.words.specs.declared.refusal.Refusal.TheVariants.{NoClient, NotReady}
use Rattle.words.specs.declared.told.Verdict.{Verdict}
use Rattle.arena.specs.Shape.{Shape}
use Rattle.protocol.specs.declared.acts.Act.{Act}
use Rattle.protocol.specs.declared.acts.Act.TheVariants.{Start, Step}
use Rattle.interleave.specs.Holds.{Holds}
use Rattle.interleave.specs.State.{State, IsAnsweredAlone, after_alone, after_start, after_step, start_result}
use Rattle.interleave.specs.State.{step_result}
use Rattle.interleave.specs.Verdicts.{IsIdle, IsLast, IsRecalled, number_under_way, taken_as}
use Rattle.interleave.proofs.Facts.{IsGiven, answered, answered_alone, last_after, last_alone, recalled_after}
use Rattle.interleave.proofs.Facts.{recalled_alone, recalled_last}
use Rattle.named.specs.Brokers.{Brokered, admission, answer_at, answer_if, has_client, world_after, world_at}
use Rattle.named.specs.Slots.{acted, answered as answer_in}
use Rattle.named.specs.declared.recovery.BrokerRecovery.{BrokerRecovery}
use Rattle.named.proofs.Facts.{alone_alike, start_alike, step_alike}
use Rattle.session.specs.Sessions.{IsSlotRight, is_up}
use Rattle.session.proofs.calls.Slots.{right_unanswered}

-- a client was let in, and this was answered by the world of the slot
pub record IsAnsweredAt {T : Type 0} (g : State → Result T Refusal) (b : Brokered) (slot : ℕ) (client : Client) (x : T)
    : Type 0 where
  pub admitted : admission b client ≡ Ok tt
  pub up : b.recovery ≡ None
  pub world : State
  pub here : world_at b slot ≡ Some world
  pub says : g world ≡ Ok x

abbrev let_in : Bool → Option BrokerRecovery → Result Unit Refusal
let_in has recovery = if has then (if is_some recovery then Err NotReady else Ok tt) else Err NoClient

pub admitted_up : (b : Brokered) (client : Client) → admission b client ≡ Ok tt → b.recovery ≡ None
admitted_up b client is = go (has_client b client) b.recovery is
  where
    go : (has : Bool) (recovery : Option BrokerRecovery) → let_in has recovery ≡ Ok tt → recovery ≡ None
    go false recovery e = cc
    go true None e = refl
    go true (Some recovery) e = cc

pub admitted_has : (b : Brokered) (client : Client) → admission b client ≡ Ok tt → has_client b client ≡ true
admitted_has b client is = go (has_client b client) b.recovery is
  where
    go : (has : Bool) (recovery : Option BrokerRecovery) → let_in has recovery ≡ Ok tt → has ≡ true
    go false recovery e = cc
    go true recovery e = refl

pub answered_at : {T : Type 0} (g : State → Result T Refusal) (b : Brokered) (slot : ℕ) (client : Client) (x : T)
    → answer_at g b slot client ≡ Ok x → IsAnsweredAt g b slot client x
answered_at g b slot client x is = go (admission b client) refl (world_at b slot) refl is
  where
    go : (r : Result Unit Refusal) → admission b client ≡ r → (o : Option State) → world_at b slot ≡ o
        → answer_if r (answer_in g o) ≡ Ok x → IsAnsweredAt g b slot client x
    go (Err refusal) e o there answer = absurd (cc (answer))
    go (Ok u) e None there answer = absurd (cc (answer))
    go (Ok u) e (Some w) there answer = record {
      admitted = e;
      up = admitted_up b client e;
      world = w;
      here = there;
      says = answer;
    }

pub up_is : (b : Brokered) → b.recovery ≡ None → is_up b ≡ true
up_is b e = ap (λ (o : Option BrokerRecovery). not (is_some o)) e

-- what a client's act makes of its slot, where it leaves what is kept right in each world
pub right_by_client : (f : State → State) (old new : Brokered) (slot : ℕ) (client : Client) (kept : ℕ → Option Verdict)
    → world_at new slot ≡ world_after f old slot client
    → ((w : State) → world_at old slot ≡ Some w → admission old client ≡ Ok tt → IsSlotRight true (Some w) kept
    → IsSlotRight true (Some (f w)) kept)
    → IsSlotRight (is_up old) (world_at old slot) kept → IsSlotRight (is_up old) (world_at new slot) kept
right_by_client f old new slot client kept world each is =
    subst (λ (o : Option State). IsSlotRight (is_up old) o kept) (sym world) (go (admission old client) refl)
  where
    at_slot : admission old client ≡ Ok tt → (o : Option State) → world_at old slot ≡ o
        → IsSlotRight (is_up old) (acted f o) kept
    at_slot admitted None there = subst (λ (o : Option State). IsSlotRight (is_up old) o kept) there is
    at_slot admitted (Some w) there =
        subst (λ (b : Bool). IsSlotRight b (Some (f w)) kept) (sym (up_is old (admitted_up old client admitted)))
        (each w there admitted
        (subst (λ (b : Bool). IsSlotRight b (Some w) kept) (up_is old (admitted_up old client admitted))
        (subst (λ (o : Option State). IsSlotRight (is_up old) o kept) there is)))

    go : (r : Result Unit Refusal) → admission old client ≡ r
        → IsSlotRight (is_up old) (if is_ok r then acted f (world_at old slot) else world_at old slot) kept
    go (Err refusal) e = is
    go (Ok u) e = at_slot e (world_at old slot) refl

-- a start
pub right_started : (full : Bool) (w : State) (client : Client) (number : ℕ) (call : Call) → Holds w
    → w.recovery ≡ None → (kept : ℕ → Option Verdict) → IsSlotRight true (Some w) kept
    → IsSlotRight true (Some (after_start full w client number call)) kept
right_started full w client number call holds up kept is =
    let alike = start_alike full w client number call in
    right_unanswered full w (Start client number call) holds kept alike.0 up (alike.1 ∙ up)
    (λ c reply same. absurd (cc (same))) is

-- a step that answers nothing
pub right_stepped : (full : Bool) (w : State) (client : Client) → Holds w → w.recovery ≡ None
    → ((reply : Reply) → step_result full w client ≡ Ok (Some reply) → ⊥) → (kept : ℕ → Option Verdict)
    → IsSlotRight true (Some w) kept → IsSlotRight true (Some (after_step full w client)) kept
right_stepped full w client holds up unanswered kept is =
    let alike = step_alike full w client in
    right_unanswered full w (Step client) holds kept alike.0 up (alike.1 ∙ up)
    (λ c reply same answers.
    let who : client ≡ c = cc (same) in
    unanswered reply (subst (λ (x : Client). step_result full w x ≡ Ok (Some reply)) (sym who) answers)) is

-- of no durable queue is anything said
pub right_if_durable : (up : Bool) (w : State) (kept : ℕ → Option Verdict) → (w.shape.kind ≡ log_kind → ⊥)
    → IsSlotRight up (Some w) kept
right_if_durable up w kept durable = λ log. absurd (durable log)

-- this client's verdict is new, and the others' are as they were
pub record IsKeptNew (was is : ℕ → Option Verdict) (client : Client) (last : Option Verdict) : Type 0 where
  pub here : is client.0 ≡ last
  pub others : (other : ℕ) → other ≢ client.0 → is other ≡ was other

-- an answer is kept
module _ (w v new : State) (client : Client) (number : ℕ) (reply : Reply) (given : IsGiven v client number reply new)
    (shape : new.shape ≡ w.shape) (was is : ℕ → Option Verdict)
    (kept : IsKeptNew was is client (Some (taken_as number reply))) where
  pub right_if_given : Holds w → Holds new → new.recovery ≡ None
      → (w.shape.kind ≡ log_kind → (other : Client) → other.0 ≢ client.0 → other.0 < w.shape.clients
      → IsRecalled w other (was other.0) → IsRecalled new other (was other.0))
      → (w.shape.kind ≡ log_kind → (other : Client) → other.0 ≢ client.0 → other.0 < w.shape.clients
      → IsLast w other (was other.0) → IsLast new other (was other.0))
      → IsSlotRight true (Some w) was → IsSlotRight true (Some new) is
  right_if_given holds still up recalled last right = λ log. record {
    recalled = λ c lt. recall log c lt (cases_eq c.0 client.0);
    last = λ is_up c lt. latest log c lt (cases_eq c.0 client.0);
    rested = λ down. absurd (cc (down));
  }
    where
      log_was : new.shape.kind ≡ log_kind → w.shape.kind ≡ log_kind
      log_was log = ap (λ (s : Shape). s.kind) (sym shape) ∙ log

      few_was : (c : Client) → c.0 < new.shape.clients → c.0 < w.shape.clients
      few_was c lt = subst (λ (s : Shape). c.0 < s.clients) shape lt

      few_of : (c : Client) → c.0 < new.shape.clients → c.0 < MAX_CLIENTS
      few_of c lt = let below = few_was c lt in omega (arith, below, holds.safe.few)

      latest : new.shape.kind ≡ log_kind → (c : Client) → c.0 < new.shape.clients → (c.0 ≡ client.0) ⊎ (c.0 ≢ client.0)
          → IsLast new c (is c.0)
      latest log c lt (inl same) =
          subst (λ (n : ℕ). let x : Client = record { 0 = n } in IsLast new x (is n)) (sym same)
          (subst (λ (v : Option Verdict). IsLast new client v) (sym kept.here) given.last)
      latest log c lt (inr apart) =
          subst (λ (v : Option Verdict). IsLast new c v) (sym (kept.others c.0 apart))
          (last (log_was log) c apart (few_was c lt) ((right (log_was log)).last refl c (few_was c lt)))

      recall : new.shape.kind ≡ log_kind → (c : Client) → c.0 < new.shape.clients → (c.0 ≡ client.0) ⊎ (c.0 ≢ client.0)
          → IsRecalled new c (is c.0)
      recall log c lt (inl same) =
          let who : c ≡ client = ap (λ (n : ℕ). let x : Client = record { 0 = n } in x) same in
          recalled_last new still log c (few_of c lt) (is c.0) up
          (subst (λ (x : Client). IsIdle new x) (sym who) given.idle) (latest log c lt (inl same))
      recall log c lt (inr apart) =
          subst (λ (v : Option Verdict). IsRecalled new c v) (sym (kept.others c.0 apart))
          (recalled (log_was log) c apart (few_was c lt) ((right (log_was log)).recalled c (few_was c lt)))

-- a step that answers
pub right_answered : (full : Bool) (w : State) (client : Client) (number : ℕ) (reply : Reply) → Holds w
    → Holds (after_step full w client) → w.recovery ≡ None → w.shape.kind ≡ log_kind → client.0 < MAX_CLIENTS
    → step_result full w client ≡ Ok (Some reply) → number_under_way w client ≡ Some number
    → (was is : ℕ → Option Verdict) → IsKeptNew was is client (Some (taken_as number reply))
    → IsSlotRight true (Some w) was → IsSlotRight true (Some (after_step full w client)) is
right_answered full w client number reply holds still up log few answers calls was is kept right =
    right_if_given w w new client number reply (answered full w holds log client few number reply answers calls) alike.0
    was is kept holds still (alike.1 ∙ up)
    (λ log_was other apart lt.
    recalled_after full w (Step client) holds log_was other (omega (arith, lt, holds.safe.few)) (was other.0))
    (λ log_was other apart lt.
    last_after full w (Step client) holds log_was other (omega (arith, lt, holds.safe.few)) (was other.0) up
    (alike.1 ∙ up) (λ r same. absurd (not_its other apart same)))
    right
  where
    new : State
    new = after_step full w client

    alike : (new.shape ≡ w.shape) × (new.recovery ≡ w.recovery)
    alike = step_alike full w client

    not_its : (other : Client) → other.0 ≢ client.0 → (let a : Act ℕ = Step client in a) ≡ Step other → ⊥
    not_its other apart same =
        let who : client ≡ other = cc (same) in apart (ap (λ (c : Client). c.0) (sym who))

-- a call that was started and went on alone until it answered
module _ (w : State) (client : Client) (number : ℕ) (call : Call) (steps : ℕ) (reply : Reply) where
  abbrev begun : State
  begun = after_start false w client number call

  abbrev done : State
  done = after_alone steps begun client

  pub right_served : Holds w → Holds begun → Holds done → w.recovery ≡ None → w.shape.kind ≡ log_kind
      → client.0 < MAX_CLIENTS → start_result false w client number call ≡ Ok tt → IsAnsweredAlone begun client steps reply
      → (was is : ℕ → Option Verdict) → IsKeptNew was is client (Some (taken_as number reply))
      → IsSlotRight true (Some w) was → IsSlotRight true (Some done) is
  right_served holds started still up log few starts answers was is kept right =
      right_if_given w begun done client number reply
      (answered_alone false w client number call holds log few started starts steps reply answers) (alone.0 ∙ first.0)
      was is kept holds still (alone.1 ∙ first.1 ∙ up)
      (λ log_was other apart lt r.
      let small : other.0 < MAX_CLIENTS = omega (arith, lt, holds.safe.few) in
      recalled_alone begun started (log_begun log_was) other small client (was other.0)
      (recalled_after false w (Start client number call) holds log_was other small (was other.0) r) steps)
      (λ log_was other apart lt l.
      let small : other.0 < MAX_CLIENTS = omega (arith, lt, holds.safe.few) in
      last_alone begun started (log_begun log_was) other small client apart (was other.0) (first.1 ∙ up)
      (last_after false w (Start client number call) holds log_was other small (was other.0) up (first.1 ∙ up)
      (λ r same. absurd (cc (same))) l) steps)
      right
    where
      first : (begun.shape ≡ w.shape) × (begun.recovery ≡ w.recovery)
      first = start_alike false w client number call

      alone : (done.shape ≡ begun.shape) × (done.recovery ≡ begun.recovery)
      alone = alone_alike steps begun client

      log_begun : w.shape.kind ≡ log_kind → begun.shape.kind ≡ log_kind
      log_begun is_log = ap (λ (s : Shape). s.kind) first.0 ∙ is_log

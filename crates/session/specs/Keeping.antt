-- What becomes of the verdicts that a session keeps.
use Rattle.std.specs.Prelude.{◌≡◌, ◌≢◌, ◌<◌, ◌≤◌, ◌⊎◌, ℕ, Bool, true, false, List, Option, Some, None, Result, Ok, Err}
use Rattle.std.specs.Prelude.{slice_index_or}
use Rattle.words.specs.declared.call.Client.{Client}
use Rattle.words.specs.declared.call.Reply.{Reply}
use Rattle.words.specs.declared.refusal.Refusal.{Refusal}
use Rattle.words.specs.declared.limits.TheConstants.{MAX_CLIENTS}
use Rattle.words.specs.declared.told.Told.{Told}
use Rattle.words.specs.declared.told.Told.TheVariants.{None as told_none, Verdict as told_verdict, Row as told_row}
use Rattle.words.specs.declared.told.Verdict.{Verdict}
use Rattle.arena.specs.declared.broker.TheConstants.{SLOTS}
use Rattle.interleave.specs.Queue.{told_in, told_to}
use Rattle.interleave.specs.Verdicts.{taken_as}
use Rattle.named.specs.Brokers.{Brokered, answer_at}
use Rattle.session.specs.Sessions.{Sessioned, IsLogClient, kept_at, kept_in}

-- in one place this is kept now, and elsewhere what was
pub record IsKeptNow (old new : List (List (Option Verdict))) (slot client : ℕ) (last : Option Verdict) : Type 0 where
  pub here : kept_in new slot client ≡ last
  pub others : (at other : ℕ) → (at ≢ slot) ⊎ (other ≢ client) → kept_in new at other ≡ kept_in old at other

-- by what is kept of a client, a number that will run no more: it is the last one, with this reply, or there is a later
-- one
abbrev pub IsSettled : Option Verdict → ℕ → Reply → Type 0
IsSettled None number reply = ⊥
IsSettled (Some verdict) number reply = (verdict ≡ taken_as number reply) ⊎ (number < verdict.number)

-- the verdict, if that is what a client was told
abbrev pub verdict_heard : Result Told Refusal → Option Verdict
verdict_heard (Ok (told_verdict verdict)) = Some verdict
verdict_heard (Ok (told_row row)) = None
verdict_heard (Ok told_none) = None
verdict_heard (Err refusal) = None

-- each place has what its client is told when asked: while the broker recovers, nothing
abbrev pub told_when_asked : Brokered → ℕ → ℕ → Option Verdict
told_when_asked b slot client =
    verdict_heard
    (answer_at (λ w. Ok (told_to (told_in w.queue) (record { 0 = client }))) b slot (record { 0 = client }))

-- a row has what each client is told in the queue of a slot
abbrev pub IsRowHeard : Brokered → ℕ → List (Option Verdict) → Type 0
IsRowHeard b slot row =
    (client : ℕ) → client < MAX_CLIENTS → slice_index_or row client None ≡ told_when_asked b slot client

-- what a broker tells is kept in each place
pub record AreKeptAsHeard (b : Brokered) (kept : List (List (Option Verdict))) : Type 0 where
  pub each : (slot client : ℕ) → slot < SLOTS → client < MAX_CLIENTS
      → kept_in kept slot client ≡ told_when_asked b slot client
  pub no_slot : (slot client : ℕ) → SLOTS ≤ slot → kept_in kept slot client ≡ None
  pub no_client : (slot client : ℕ) → MAX_CLIENTS ≤ client → kept_in kept slot client ≡ None

-- a step of recovery leaves what is kept, unless the broker is ready by it: then it is what each client is told
abbrev pub AreKeptAfter : Sessioned → Sessioned → Result Bool Refusal → Type 0
AreKeptAfter old new (Ok true) = AreKeptAsHeard new.broker new.kept
AreKeptAfter old new (Ok false) = new.kept ≡ old.kept
AreKeptAfter old new (Err refusal) = new.kept ≡ old.kept

-- what is settled stays so, and clients of log queues stay
pub record SessionGoesOn (old new : Sessioned) : Type 0 where
  pub clients : (slot : ℕ) (client : Client) → IsLogClient old.broker slot client → IsLogClient new.broker slot client
  pub answers : (slot : ℕ) (client : Client) (number : ℕ) (reply : Reply) → IsLogClient old.broker slot client
      → IsSettled (kept_at old slot client) number reply → IsSettled (kept_at new slot client) number reply

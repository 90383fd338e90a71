-- What a start finds, by what it answers. A refusal that is new is one more case here, and of no other proof.
use Rattle.std.proofs.Common.{◌≡◌, ◌≤◌, ◌<◌, ℕ, Bool, true, false, if◌then◌else◌, List, Option, Some, None, Result, Ok}
use Rattle.std.proofs.Common.{Err, slice_get, slice_index, refl, ap, ◌∙◌, subst, arith}
use Rattle.std.specs.Prelude.{◌==◌, IfErr, nat_lt}
use Rattle.std.proofs.lemmas.Bool.Decides.{nat_tests}
use Rattle.std.proofs.lemmas.Option.{slice_get_within}
use Rattle.words.specs.declared.call.Call.{Call}
use Rattle.words.specs.declared.call.Client.{Client}
use Rattle.words.specs.declared.refusal.Refusal.{Refusal}
use Rattle.words.specs.declared.refusal.Refusal.TheVariants.{Busy, NoClient, NoMemory, NoRoom, StaleNumber}
use Rattle.interleave.specs.LogQueue.{is_stale}
use Rattle.persist.specs.Memory.{Words}
use Rattle.arena.specs.Layout.{word_at}
use Rattle.arena.specs.Shape.{Shape}
use Rattle.arena.specs.declared.place.Place.TheVariants.{Bump}
use Rattle.protocol.specs.declared.UnderWay.{UnderWay}
use Rattle.interleave.specs.Calls.{idle_result}
use Rattle.interleave.specs.Holds.{Holds}
use Rattle.interleave.specs.Queue.{number_check}
use Rattle.interleave.specs.State.{IsStartable, State, is_down, is_start_refusal, number_of_idle, number_to_start}
use Rattle.interleave.specs.State.{start_result, start_result_with, used_by}
use Rattle.interleave.specs.Trace.{Traced, state_with}
use Rattle.interleave.specs.declared.queue.Queue.{Queue}
use Rattle.interleave.specs.declared.queue.Queue.TheVariants.{Durable, Log}

-- the number that a queue gives a call: a durable queue 0, a log queue the client's own, which is not stale
abbrev pub IsTaken : Queue → Client → ℕ → ℕ → Type 0
IsTaken (Durable told) client number n = n ≡ 0
IsTaken (Log clients) client number n =
    (is_stale (slice_index clients.floors client.0) number ≡ false) × (n ≡ number)

pub taken : (queue : Queue) (client : Client) (number n : ℕ) → number_check queue client number ≡ Ok n
    → IsTaken queue client number n
taken (Durable told) client number n e = cc
taken (Log clients) client number n e = go (is_stale (slice_index clients.floors client.0) number) refl e
  where
    go : (b : Bool) → is_stale (slice_index clients.floors client.0) number ≡ b
        → (let r : Result ℕ Refusal = if b then Err StaleNumber else Ok number in r) ≡ Ok n
        → IsTaken (Log clients) client number n
    go true stale is = cc
    go false fresh is = (fresh, cc)

-- a start that is not refused
found : (queue : Queue) (client : Client) (number n : ℕ) (call : Call) (down : Bool) (o : Option (Option UnderWay))
    → number_of_idle queue client number call (idle_result down o) ≡ Ok n
    → (down ≡ false) × (o ≡ Some None) × (number_check queue client number ≡ Ok n)
found queue client number n call down None e = cc
found queue client number n call true (Some calling) e = cc
found queue client number n call false (Some None) e = (refl, refl, e)
found queue client number n call false (Some (Some u)) e = cc

pub startable : (w : State) (client : Client) (number n : ℕ) (call : Call)
    → number_to_start w client number call ≡ Ok n → IsStartable w client number n
startable w client number n call e =
    let its = found w.queue client number n call (is_down w) (slice_get w.calls client.0) e in
    record { up = its.0; idle = its.1; taken = its.2 }

-- what one that is refused found of its queue, and of the client's call
abbrev IsWhy : Queue → Option (Option UnderWay) → Client → ℕ → Refusal → Type 0
IsWhy queue calling client number NoClient = calling ≡ None
IsWhy queue calling client number Busy = (u : UnderWay) × (calling ≡ Some (Some u))
IsWhy queue calling client number StaleNumber = number_check queue client number ≡ Err StaleNumber
IsWhy queue calling client number refusal = is_start_refusal refusal ≡ true

abbrev pub IsWhyUnstarted : State → Client → ℕ → Refusal → Type 0
IsWhyUnstarted w client number refusal = IsWhy w.queue (slice_get w.calls client.0) client number refusal

untaken : (queue : Queue) (client : Client) (number : ℕ) (calling : Option (Option UnderWay))
    → IfErr (number_check queue client number) (IsWhy queue calling client number)
untaken (Durable told) client number calling = tt
untaken (Log clients) client number calling = go (is_stale (slice_index clients.floors client.0) number) refl
  where
    go : (b : Bool) → is_stale (slice_index clients.floors client.0) number ≡ b
        → IfErr (let r : Result ℕ Refusal = if b then Err StaleNumber else Ok number in r)
        (IsWhy (Log clients) calling client number)
    go true stale = ap (λ (b : Bool). let r : Result ℕ Refusal = if b then Err StaleNumber else Ok number in r) stale
    go false fresh = tt

refused : (queue : Queue) (client : Client) (number : ℕ) (call : Call) (down : Bool) (o : Option (Option UnderWay))
    → IfErr (number_of_idle queue client number call (idle_result down o)) (IsWhy queue o client number)
refused queue client number call down None = refl
refused queue client number call true (Some calling) = refl
refused queue client number call false (Some None) = untaken queue client number (Some None)
refused queue client number call false (Some (Some u)) = (u, refl)

pub why_unstarted : (full : Bool) (w : State) (client : Client) (number : ℕ) (call : Call)
    → IfErr (start_result full w client number call) (IsWhyUnstarted w client number)
why_unstarted full w client number call =
    go (number_to_start w client number call)
    (refused w.queue client number call (is_down w) (slice_get w.calls client.0))
  where
    go : (r : Result ℕ Refusal) → IfErr r (IsWhyUnstarted w client number)
        → IfErr (start_result_with full w client r) (IsWhyUnstarted w client number)
    go (Err refusal) why = why
    go (Ok n) why = room (used_by w client == w.shape.records) full
      where
        room : (a b : Bool)
            → IfErr (let r : Result Unit Refusal = if a then Err NoRoom else (if b then Err NoMemory else Ok tt) in r)
            (IsWhyUnstarted w client number)
        room true b = refl
        room false true = refl
        room false false = tt

pub stale_start : (full : Bool) (w : State) (client : Client) (number : ℕ) (call : Call)
    → start_result full w client number call ≡ Err StaleNumber → number_check w.queue client number ≡ Err StaleNumber
stale_start full w client number call is =
    subst (λ (r : Result Unit Refusal). IfErr r (IsWhyUnstarted w client number)) is
    (why_unstarted full w client number call)

-- the two that come before all others: there is no such client, and recovery is under way
pub unstarted_by_nobody : (w : State) (client : Client) (number : ℕ) (call : Call)
    → slice_get w.calls client.0 ≡ None → number_to_start w client number call ≡ Err NoClient
unstarted_by_nobody w client number call none =
    ap (λ (o : Option (Option UnderWay)). number_of_idle w.queue client number call (idle_result (is_down w) o)) none

pub unstarted_while_down : (w : State) (client : Client) (number : ℕ) (call : Call) → is_down w ≡ true
    → (refusal : Refusal) × (number_to_start w client number call ≡ Err refusal)
unstarted_while_down w client number call down =
    let its = any_client (slice_get w.calls client.0) in (
      its.0,
      ap (λ (d : Bool). number_of_idle w.queue client number call (idle_result d (slice_get w.calls client.0))) down
          ∙ its.1,
    )
  where
    any_client : (o : Option (Option UnderWay))
        → (refusal : Refusal) × (number_of_idle w.queue client number call (idle_result true o) ≡ Err refusal)
    any_client None = (_, refl)
    any_client (Some calling) = (_, refl)

-- where the client has no call under way, it is one of the clients, and has begun no more calls than it has records
module _ (s : Shape) (ws : Words) (queue : Queue) (calls : List (Option UnderWay)) (t : Traced) (client : Client)
    (holds : Holds (state_with s ws queue calls t)) (idle : slice_get calls client.0 ≡ Some None) where
  pub client_in : client.0 < s.clients
  client_in = omega (arith, slice_get_within calls client.0 None idle, holds.safe.clients)

  pub used_few : slice_index ws.cached (word_at s (Bump client)) ≤ s.records
  used_few = holds.safe.words.cached (Bump client) client_in tt

  -- the bump word says how many
  pub used_is : slice_index ws.cached (word_at s (Bump client)) ≡ used_by (state_with s ws queue calls t) client
  used_is = ap (λ (there : Bool). if there then slice_index ws.cached (word_at s (Bump client)) else 0)
      (let within : true ≡ nat_lt client.0 s.clients = grind (arith, nat_tests, client_in) in within)

-- A client's act leaves a world's shape, and how far its recovery is.
use Rattle.std.proofs.Common.{◌≡◌, ℕ, zero, suc, Bool, true, false, if◌then◌else◌, Option, Some, None, Result, Ok, Err, slice_get, refl, ap, ◌∙◌, ◌==◌}
use Rattle.std.specs.Prelude.{IfErr, IfOk}
use Rattle.words.specs.declared.call.Call.{Call}
use Rattle.words.specs.declared.call.Client.{Client}
use Rattle.words.specs.declared.call.Reply.{Reply}
use Rattle.words.specs.declared.refusal.Refusal.{Refusal}
use Rattle.arena.specs.Layout.{place_at}
use Rattle.arena.specs.declared.place.Place.{Place}
use Rattle.recover.specs.declared.recovery.Recovery.{Recovery}
use Rattle.protocol.specs.declared.UnderWay.{UnderWay}
use Rattle.interleave.specs.Calls.{waiting_result}
use Rattle.interleave.specs.State.{State, after_alone, after_bump_load, after_call_began, after_evict, after_one_access}
use Rattle.interleave.specs.State.{after_recover, after_start, after_step, evict_with, recover_with, is_down}
use Rattle.interleave.specs.State.{number_to_start, start_with, step_with, used_by}

-- the same shape, and the same recovery
abbrev pub IsShapedAlike : State → State → Type 0
IsShapedAlike old new = (new.shape ≡ old.shape) × (new.recovery ≡ old.recovery)

pub start_alike : (full : Bool) (w : State) (client : Client) (number : ℕ) (call : Call) → IsShapedAlike w (after_start full w client number call)
start_alike full w client number call = from_check (number_to_start w client number call)
  where
    from_check : (r : Result ℕ Refusal) → IsShapedAlike w (start_with full w client call r)
    from_check (Err refusal) = (refl, refl)
    from_check (Ok n) = both (used_by w client == w.shape.records) full
      where
        both : (a b : Bool)
            → IsShapedAlike w (if a then after_bump_load w else (if b then after_bump_load w else after_call_began w client n call))
        both true b = (refl, refl)
        both false true = (refl, refl)
        both false false = (refl, refl)

-- and a start leaves every word
pub start_kept : (full : Bool) (w : State) (client : Client) (number : ℕ) (call : Call) → (after_start full w client number call).words.kept ≡ w.words.kept
start_kept full w client number call = from_check (number_to_start w client number call)
  where
    from_check : (r : Result ℕ Refusal) → (start_with full w client call r).words.kept ≡ w.words.kept
    from_check (Err refusal) = refl
    from_check (Ok n) = both (used_by w client == w.shape.records) full
      where
        both : (a b : Bool)
            → (if a then after_bump_load w else (if b then after_bump_load w else after_call_began w client n call)).words.kept ≡ w.words.kept
        both true b = refl
        both false true = refl
        both false false = refl

pub step_alike : (full : Bool) (w : State) (client : Client) → IsShapedAlike w (after_step full w client)
step_alike full w client = from_waiting (waiting_result (is_down w) (slice_get w.calls client.0))
  where
    from_waiting : (r : Result UnderWay Refusal) → IsShapedAlike w (step_with full w client r)
    from_waiting (Err refusal) = (refl, refl)
    from_waiting (Ok u) = both full
      where
        both : (b : Bool) → IsShapedAlike w (if b then w else after_one_access w client u)
        both true = (refl, refl)
        both false = (refl, refl)

pub alone_alike : (n : ℕ) (w : State) (client : Client) → IsShapedAlike w (after_alone n w client)
alone_alike zero w client = (refl, refl)
alone_alike (suc n) w client =
    let first = alone_alike n w client in
    let last = step_alike false (after_alone n w client) client in
    (last.0 ∙ first.0, last.1 ∙ first.1)

pub evict_alike : (w : State) (word : ℕ) → IsShapedAlike w (after_evict w word)
evict_alike w word = go (place_at w.shape word)
  where
    go : (o : Option Place) → IsShapedAlike w (evict_with w word o)
    go None = (refl, refl)
    go (Some place) = (refl, refl)

-- whether a call that goes on alone is answered or refused
pub alone_alike_by : (old new : State) (client : Client) (result : Result (Reply × ℕ) Refusal) → IfErr result (λ e. new ≡ old)
    → IfOk result (λ answer. new ≡ after_alone answer.1 old client) → IsShapedAlike old new
alone_alike_by old new client (Ok answer) refused world =
    let alike = alone_alike answer.1 old client in
    (ap (λ (x : State). x.shape) world ∙ alike.0, ap (λ (x : State). x.recovery) world ∙ alike.1)
alone_alike_by old new client (Err refusal) refused world = (ap (λ (x : State). x.shape) refused, ap (λ (x : State). x.recovery) refused)

-- a step of a queue's recovery leaves its layout
pub recovered_shape : (full : Bool) (w : State) → (after_recover full w).shape ≡ w.shape
recovered_shape full w = go w.recovery full
  where
    go : (o : Option Recovery) (f : Bool) → (recover_with f w o).shape ≡ w.shape
    go None f = refl
    go (Some r) true = refl
    go (Some r) false = refl

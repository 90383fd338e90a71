-- An act leaves where the history begins.
use Rattle.std.proofs.Common.{ℕ, zero, suc, Bool, true, false, if◌then◌else◌, Option, Some, None, Result, Ok, Err, slice_get, refl, ◌∙◌, ◌==◌}
use Rattle.words.specs.declared.call.Call.{Call}
use Rattle.words.specs.declared.call.Client.{Client}
use Rattle.words.specs.declared.refusal.Refusal.{Refusal}
use Rattle.arena.specs.Layout.{place_at}
use Rattle.arena.specs.declared.place.Place.{Place}
use Rattle.recover.specs.declared.recovery.Recovery.{Recovery}
use Rattle.protocol.specs.declared.UnderWay.{UnderWay}
use Rattle.protocol.specs.declared.acts.Act.{Act}
use Rattle.protocol.specs.declared.acts.Act.TheVariants.{Start, Step, Evict, Crash, Recover}
use Rattle.interleave.specs.Calls.{waiting_result}
use Rattle.interleave.specs.Standing.{BeginAlike}
use Rattle.interleave.specs.State.{State, after_alone, after_attempt, after_bump_load, after_call_began, after_crash}
use Rattle.interleave.specs.State.{after_evict, after_one_access, after_recover, after_start, after_step, evict_with}
use Rattle.interleave.specs.State.{is_down, number_to_start, recover_with, start_with, step_with, used_by}

pub begins_itself_alike : (w : State) → BeginAlike w w
begins_itself_alike w = record { shape = refl; base = refl; told = refl }

pub begins_on_alike : {old now new : State} → BeginAlike old now → BeginAlike now new → BeginAlike old new
begins_on_alike one other = record {
  shape = other.shape ∙ one.shape;
  base = other.base ∙ one.base;
  told = other.told ∙ one.told;
}

begins_started : (full : Bool) (w : State) (client : Client) (number : ℕ) (call : Call)
    → BeginAlike w (after_start full w client number call)
begins_started full w client number call = from_check (number_to_start w client number call)
  where
    from_check : (r : Result ℕ Refusal) → BeginAlike w (start_with full w client call r)
    from_check (Err refusal) = begins_itself_alike w
    from_check (Ok n) = both (used_by w client == w.shape.records) full
      where
        both : (a b : Bool)
            → BeginAlike w (if a then after_bump_load w else (if b then after_bump_load w else after_call_began w client n call))
        both true b = record { shape = refl; base = refl; told = refl }
        both false true = record { shape = refl; base = refl; told = refl }
        both false false = record { shape = refl; base = refl; told = refl }

begins_stepped : (full : Bool) (w : State) (client : Client) → BeginAlike w (after_step full w client)
begins_stepped full w client = from_waiting (waiting_result (is_down w) (slice_get w.calls client.0))
  where
    from_waiting : (r : Result UnderWay Refusal) → BeginAlike w (step_with full w client r)
    from_waiting (Err refusal) = begins_itself_alike w
    from_waiting (Ok u) = both full
      where
        both : (b : Bool) → BeginAlike w (if b then w else after_one_access w client u)
        both true = begins_itself_alike w
        both false = record { shape = refl; base = refl; told = refl }

begins_evicted : (w : State) (word : ℕ) → BeginAlike w (after_evict w word)
begins_evicted w word = go (place_at w.shape word)
  where
    go : (o : Option Place) → BeginAlike w (evict_with w word o)
    go None = begins_itself_alike w
    go (Some place) = record { shape = refl; base = refl; told = refl }

begins_crashed : (full : Bool) (w : State) → BeginAlike w (after_crash full w)
begins_crashed true w = begins_itself_alike w
begins_crashed false w = record { shape = refl; base = refl; told = refl }

begins_recovered : (full : Bool) (w : State) → BeginAlike w (after_recover full w)
begins_recovered full w = go full w.recovery
  where
    go : (b : Bool) (o : Option Recovery) → BeginAlike w (recover_with b w o)
    go b None = begins_itself_alike w
    go true (Some r) = begins_itself_alike w
    go false (Some r) = record { shape = refl; base = refl; told = refl }

-- an attempt at an act
pub begins_by_attempt : (full : Bool) (w : State) (act : Act ℕ) → BeginAlike w (after_attempt full w act)
begins_by_attempt full w (Start client number call) = begins_started full w client number call
begins_by_attempt full w (Step client) = begins_stepped full w client
begins_by_attempt full w (Evict word) = begins_evicted w word
begins_by_attempt full w Crash = begins_crashed full w
begins_by_attempt full w Recover = begins_recovered full w

-- and a call that goes on alone
pub begins_alone : (steps : ℕ) (w : State) (client : Client) → BeginAlike w (after_alone steps w client)
begins_alone zero w client = begins_itself_alike w
begins_alone (suc steps) w client =
    begins_on_alike (begins_alone steps w client) (begins_stepped false (after_alone steps w client) client)

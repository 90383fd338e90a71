-- How a list of acts goes.
use Rattle.std.specs.Prelude.{◌≡◌, ℕ, ◌+◌, ◌-◌, ◌≤◌, Bool, true, false, List, [], ◌∷◌, ◌++◌, Ok, if◌then◌else◌}
use Rattle.words.specs.declared.told.Told.{Told}
use Rattle.protocol.specs.Acts.{HasNoCrash, recovery_step_of}
use Rattle.protocol.specs.declared.acts.Act.{Act}
use Rattle.interleave.specs.Numbers.{AreWithinFloors}
use Rattle.interleave.specs.Queue.{told_in}
use Rattle.interleave.specs.Standing.{GoesOn, IsToldForGood}
use Rattle.interleave.specs.State.{State, after_attempt, is_accepted_with, count_of, is_down, kept_tells, kept_content, most_to_ready, after_recover, recover_result, AreToldOfAnnounced}
use Rattle.interleave.specs.Trace.{Roomy}

-- an attempt at an act, where there is room for so many accepted ones: it was made or refused by the rule, and for want
-- of memory (`full`) only where there was no room
pub record IsAttempt (room : ℕ) (old : State) (act : Act ℕ) (accepted : Bool) (new : State) : Type 0 where
  pub full : Bool
  pub short : full ≡ true → room ≡ 0
  pub leaves : new ≡ after_attempt full old act
  pub accepts : accepted ≡ is_accepted_with full old act

-- the acts were attempted one after another. So many were accepted, each of which may use up one place of the room, and
-- this is what they left
pub data Went (room : ℕ) (old : State) : List (Act ℕ) → ℕ → State → Type 0 where
  nothing : Went room old [] 0 old
  next : {acts : List (Act ℕ)} {taken : ℕ} {w v : State} (so_far : Went room old acts taken w) (act : Act ℕ)
      (accepted : Bool) (attempt : IsAttempt (room - taken) w act accepted v)
      → Went room old (acts ++ act ∷ []) (taken + count_of accepted) v

-- acts that were attempted one after another, and how that went
pub record Attempted : Type 0 where
  pub room : ℕ
  pub old : State
  pub acts : List (Act ℕ)
  pub taken : ℕ
  pub new : State
  pub went : Went room old acts taken new

-- recovery was under way before the first act, and after each
abbrev pub StaysDown : {room : ℕ} {old : State} {acts : List (Act ℕ)} {taken : ℕ} {new : State}
    → Went room old acts taken new → Type 0
StaysDown {old = old} nothing = is_down old ≡ true
StaysDown (next {v = v} so_far act accepted attempt) = StaysDown so_far × (is_down v ≡ true)

-- while recovery was under way an act changed nothing of what the kept words tell and hold; where it ended recovery,
-- each client was told what they tell, which was right of its announced call, and no number in the order was above its
-- client's floor
pub record IsToldWhenReady (old new : State) : Type 0 where
  pub words : is_down old ≡ true → (kept_tells new ≡ kept_tells old) × (kept_content new ≡ kept_content old)
  pub tells : is_down old ≡ true → is_down new ≡ false → told_in new.queue ≡ kept_tells new
  pub announced : is_down old ≡ true → is_down new ≡ false → AreToldOfAnnounced new
  pub floors : is_down old ≡ true → is_down new ≡ false → AreWithinFloors new

abbrev pub AreToldWhenReady : {room : ℕ} {old : State} {acts : List (Act ℕ)} {taken : ℕ} {new : State}
    → Went room old acts taken new → Type 0
AreToldWhenReady nothing = Unit {0}
AreToldWhenReady (next {w = w} {v = v} so_far act accepted attempt) = AreToldWhenReady so_far × IsToldWhenReady w v

-- and for good: so it is by the order of the last world, which came of the one where recovery ended, and of any other
-- that comes of that
abbrev pub AreToldForGood : {room : ℕ} {old : State} {acts : List (Act ℕ)} {taken : ℕ} {new : State}
    → State → Went room old acts taken new → Type 0
AreToldForGood last nothing = Unit {0}
AreToldForGood last (next {w = w} {v = v} so_far act accepted attempt) =
    AreToldForGood last so_far × (is_down w ≡ true → is_down v ≡ false → IsToldForGood v × GoesOn v last)

-- how many steps of recovery were asked for, memory being there
abbrev pub recovery_steps : {room : ℕ} {old : State} {acts : List (Act ℕ)} {taken : ℕ} {new : State}
    → Went room old acts taken new → ℕ
recovery_steps nothing = 0
recovery_steps (next so_far act accepted attempt) =
    recovery_steps so_far + (if attempt.full then 0 else recovery_step_of act)

-- a run of the acts, of which so many were accepted
pub record IsRun (old : Roomy) (acts : List (Act ℕ)) (taken : ℕ) (new : Roomy) : Type 0 where
  pub went : Went old.room old.now acts taken new.now
  pub room : old.room ≤ new.room + taken
  pub goes_on : GoesOn old.now new.now
  -- whenever recovery ended, each client was told rightly, and for good
  pub told : AreToldWhenReady went
  pub stands : AreToldForGood new.now went
  -- recovery that was under way all along changes nothing of what the kept words tell
  pub tells : StaysDown went → kept_tells new.now ≡ kept_tells old.now
  -- it ends in so many steps, if there was no crash
  pub ready : HasNoCrash acts → most_to_ready old.now.shape ≤ recovery_steps went → is_down new.now ≡ false

-- from here on recovery goes through some acts to its next Ready, at which it tells this
pub record TellsNext (old : State) (tells : List Told) : Type 0 where
  pub room : ℕ
  pub acts : List (Act ℕ)
  pub taken : ℕ
  pub last : State
  pub went : Went room old acts taken last
  pub down : StaysDown went
  pub ready : recover_result false last ≡ Ok true
  pub tells_is : told_in (after_recover false last).queue ≡ tells

-- two worlds of one layout keep the same words
pub record KeepTheSame (w v : State) : Type 0 where
  pub shape : w.shape ≡ v.shape
  pub kept : w.words.kept ≡ v.words.kept

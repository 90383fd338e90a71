-- What a list of acts leaves where there was room for all of it, and what it tells while recovery is under way.
use Rattle.std.proofs.Common.{◌≡◌, ℕ, ◌+◌, ◌-◌, ◌≤◌, ◌<◌, if◌then◌else◌, Bool, true, false, List, [], ◌∷◌, ◌++◌, length, refl, sym, ap, subst, ◌∙◌, arith}
use Rattle.std.proofs.lemmas.List.{length_push}
use Rattle.words.specs.declared.told.Told.{Told}
use Rattle.arena.specs.Shape.{Shape}
use Rattle.sound_words.specs.Told.{tells_by}
use Rattle.protocol.specs.Acts.{recovery_step_of, recoveries}
use Rattle.protocol.specs.declared.acts.Act.{Act}
use Rattle.protocol.specs.declared.acts.Act.TheVariants.{Start, Step, Evict, Crash, Recover}
use Rattle.interleave.specs.Holds.{Holds}
use Rattle.interleave.specs.Runs.{IsAttempt, Went, nothing, next, StaysDown, recovery_steps, TellsNext}
use Rattle.interleave.specs.State.{State, after_attempt, after_act, after_acts, is_accepted, is_accepted_with, taken_of}
use Rattle.interleave.specs.State.{count_of, is_down, kept_tells}
use Rattle.interleave.specs.Values.{value_of_place}
use Rattle.interleave.proofs.recovery.Downtime.{start_refused}
use Rattle.interleave.proofs.machine.Holding.{holds_after_step, holds_after_evict, holds_after_crash}
use Rattle.interleave.proofs.machine.Holding.{holds_after_recover}
use Rattle.interleave.proofs.words.KeptWords.{told_by_kept}
use Rattle.interleave.proofs.runs.Attempts.{down_last, tells_attempt}

-- no more acts were accepted than there were
pub taken_few : {room : ℕ} {old : State} {acts : List (Act ℕ)} {taken : ℕ} {new : State} → Went room old acts taken new → taken ≤ length acts
taken_few nothing = omega arith
taken_few (next {acts = acts} so_far act accepted attempt) =
    let before = taken_few so_far in
    let one = count_few accepted in
    let longer = length_push acts act in
    omega (arith, before, one, longer)
  where
    count_few : (b : Bool) → count_of b ≤ 1
    count_few true = omega arith
    count_few false = omega arith

after_more : (w : State) (acts : List (Act ℕ)) (act : Act ℕ) → after_acts w (acts ++ act ∷ []) ≡ after_act (after_acts w acts) act
after_more w [] act = refl
after_more w (first ∷ acts) act = after_more (after_act w first) acts act

taken_more : (w : State) (acts : List (Act ℕ)) (act : Act ℕ)
    → taken_of w (acts ++ act ∷ []) ≡ taken_of w acts + count_of (is_accepted (after_acts w acts) act)
taken_more w [] act = omega arith
taken_more w (first ∷ acts) act =
    let rest = taken_more (after_act w first) acts act in omega (arith, rest)

-- an attempt for which there is room is not refused for want of memory
paid : {room taken : ℕ} {w v : State} {act : Act ℕ} {accepted : Bool} (attempt : IsAttempt (room - taken) w act accepted v)
    → taken < room → attempt.full ≡ false
paid {room = room} {taken = taken} attempt left = go attempt.full attempt.short
  where
    go : (b : Bool) → (b ≡ true → room - taken ≡ 0) → b ≡ false
    go true short = let none = short refl in absurd (omega (arith, none, left))
    go false short = refl

-- where there was room for all acts, none was refused for want of memory
pub all_made : {room : ℕ} {old : State} {acts : List (Act ℕ)} {taken : ℕ} {new : State} → Went room old acts taken new
    → length acts ≤ room → (new ≡ after_acts old acts) × (taken ≡ taken_of old acts)
all_made nothing fits = (refl, refl)
all_made {room = room} {old = old} (next {acts = acts} {taken = taken} {w = w} {v = v} so_far act accepted attempt) fits =
    let longer = length_push acts act in
    let before = all_made so_far (omega (arith, fits, longer)) in
    let few = taken_few so_far in
    let made : attempt.full ≡ false = paid attempt (omega (arith, few, fits, longer)) in
    let leaves : v ≡ after_act (after_acts old acts) act =
    attempt.leaves ∙ ap (λ (b : Bool). after_attempt b w act) made ∙ ap (λ (x : State). after_act x act) before.0 in
    let accepts : accepted ≡ is_accepted (after_acts old acts) act =
    attempt.accepts ∙ ap (λ (b : Bool). is_accepted_with b w act) made ∙ ap (λ (x : State). is_accepted x act) before.0 in
    let counted : count_of accepted ≡ count_of (is_accepted (after_acts old acts) act) = ap count_of accepts in
    let more = taken_more old acts act in
    (leaves ∙ sym (after_more old acts act), omega (arith, before.1, counted, more))

steps_more : (acts : List (Act ℕ)) (act : Act ℕ) → recoveries (acts ++ act ∷ []) ≡ recoveries acts + recovery_step_of act
steps_more [] act = omega arith
steps_more (first ∷ acts) act = let rest = steps_more acts act in omega (arith, rest)

-- and each step of recovery was asked for with memory there
pub all_steps : {room : ℕ} {old : State} {acts : List (Act ℕ)} {taken : ℕ} {new : State}
    (went : Went room old acts taken new) → length acts ≤ room → recovery_steps went ≡ recoveries acts
all_steps nothing fits = refl
all_steps {room = room} (next {acts = acts} so_far act accepted attempt) fits =
    let longer = length_push acts act in
    let few = taken_few so_far in
    let before = all_steps so_far (omega (arith, fits, longer)) in
    let asked : (if attempt.full then 0 else recovery_step_of act) ≡ recovery_step_of act =
    ap (λ (b : Bool). if b then 0 else recovery_step_of act) (paid attempt (omega (arith, few, fits, longer))) in
    let more = steps_more acts act in
    omega (arith, before, asked, more)

-- while recovery is under way each attempt keeps what holds of a world: a start changes nothing
holds_down : (full : Bool) (w : State) (act : Act ℕ) → Holds w → is_down w ≡ true → Holds (after_attempt full w act)
holds_down full w (Start client number call) holds down = subst Holds (sym (start_refused full w client number call down)) holds
holds_down full w (Step client) holds down = holds_after_step full w client holds
holds_down full w (Evict word) holds down = holds_after_evict w word holds
holds_down full w Crash holds down = holds_after_crash full w holds
holds_down full w Recover holds down = holds_after_recover full w holds

-- so through acts all along which it is under way
pub holds_through : {room : ℕ} {old : State} {acts : List (Act ℕ)} {taken : ℕ} {new : State} (went : Went room old acts taken new)
    → StaysDown went → Holds old → Holds new × (kept_tells new ≡ kept_tells old)
holds_through nothing down holds = (holds, refl)
holds_through (next {w = w} so_far act accepted attempt) down holds =
    let before = holds_through so_far down.0 holds in
    let was = down_last so_far down.0 in
    (subst Holds (sym attempt.leaves) (holds_down attempt.full w act before.0 was), tells_attempt before.0 attempt was ∙ before.1)

-- what is told at the next Ready is what the kept words tell now
pub next_tells : (w : State) (tells : List Told) → Holds w → TellsNext w tells → tells ≡ kept_tells w
next_tells w tells holds ending =
    let through = holds_through ending.went ending.down holds in
    sym ending.tells_is ∙ told_by_kept false ending.last through.0 ending.ready ∙ through.1

-- so two worlds with equal kept words tell the same
pub same_told : (w v : State) (tells telling : List Told) → Holds w → Holds v → w.shape ≡ v.shape → w.words.kept ≡ v.words.kept
    → TellsNext w tells → TellsNext v telling → tells ≡ telling
same_told w v tells telling holds others shape words ending other =
    next_tells w tells holds ending
    ∙ ap (λ (s : Shape). tells_by s (value_of_place s w.words.kept)) shape
    ∙ ap (λ (ws : List ℕ). tells_by v.shape (value_of_place v.shape ws)) words
    ∙ sym (next_tells v telling others other)

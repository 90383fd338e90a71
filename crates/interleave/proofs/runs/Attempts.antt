-- What an attempt at an act leaves, and a list of them.
use Rattle.std.proofs.Common.{◌≡◌, ◌≢◌, ℕ, ◌+◌, ◌-◌, ◌≤◌, Bool, true, false, if◌then◌else◌, List, [], ◌∷◌, ◌++◌, Option, Some, None, Result, Ok, refl, sym, ap, subst, ◌∙◌, arith}
use Rattle.words.specs.declared.refusal.Refusal.{Refusal}
use Rattle.events.specs.declared.event.Entry.{Entry}
use Rattle.events.specs.Parts.{IsPartOf}
use Rattle.events.proofs.Facts.{part_of_part, part_same}
use Rattle.recover.specs.declared.recovery.Recovery.{Recovery}
use Rattle.protocol.specs.Acts.{HasNoCrash, recovery_step_of}
use Rattle.protocol.specs.declared.acts.Act.{Act}
use Rattle.protocol.specs.declared.acts.Act.TheVariants.{Start, Step, Evict, Crash, Recover}
use Rattle.interleave.specs.Holds.{Holds}
use Rattle.interleave.specs.Runs.{IsAttempt, IsToldWhenReady, Went, nothing, next, StaysDown, AreToldWhenReady}
use Rattle.interleave.specs.Runs.{AreToldForGood, recovery_steps}
use Rattle.interleave.specs.Standing.{BeginAlike, EndedCallsStay, GoesOn, IsBeginningOf, IsToldForGood}
use Rattle.interleave.proofs.order.Beginnings.{begins_by_attempt, begins_itself_alike, begins_on_alike}
use Rattle.interleave.proofs.order.Ends.{begins_itself, begins_on}
use Rattle.interleave.proofs.numbers.Numbers.{within_floors_ready}
use Rattle.interleave.proofs.order.Standing.{ended_by_order, ended_then, ended_after_step, ended_after_evict}
use Rattle.interleave.proofs.order.Standing.{grown_by_start, grown_by_step, grown_by_evict, grown_by_crash}
use Rattle.interleave.proofs.order.Standing.{grown_by_recover, told_stands}
use Rattle.interleave.specs.State.{State, after_attempt, after_start, after_evict, after_crash, after_recover}
use Rattle.interleave.specs.State.{recover_result, recover_with, recover_result_with, evict_with, is_down, kept_tells}
use Rattle.interleave.specs.State.{kept_content, steps_to_ready, most_to_ready, count_of, order_in}
use Rattle.interleave.proofs.recovery.Downtime.{start_refused, step_refused, start_down, step_down, became_ready}
use Rattle.interleave.proofs.recovery.Downtime.{some_left}
use Rattle.interleave.proofs.machine.Holding.{holds_after_recover, part_after_start, part_after_step, part_after_evict}
use Rattle.interleave.proofs.machine.Holding.{part_after_crash, part_after_recover}
use Rattle.interleave.proofs.words.KeptWords.{tells_on, tells_crashed, tells_evicted, told_by_kept, told_of_announced}
use Rattle.interleave.proofs.words.KeptWords.{falls_on, few_to_ready, left_evicted}
use Rattle.arena.specs.Layout.{place_at}
use Rattle.arena.specs.declared.place.Place.{Place}

part_of_same : (w : State) (o : List Entry) → o ≡ order_in w → IsPartOf (order_in w) o
part_of_same w o same = subst (IsPartOf (order_in w)) (sym same) (part_same (order_in w))

-- nothing is taken back
pub part_after_attempt : (full : Bool) (w : State) (act : Act ℕ) → Holds w → IsPartOf (order_in w) (order_in (after_attempt full w act))
part_after_attempt full w (Start client number call) holds = part_of_same w _ (part_after_start full w client number call)
part_after_attempt full w (Step client) holds = part_after_step full w client holds
part_after_attempt full w (Evict word) holds = part_after_evict w word holds
part_after_attempt full w Crash holds = part_of_same w _ (part_after_crash full w)
part_after_attempt full w Recover holds = part_of_same w _ (part_after_recover full w)

-- while recovery is under way nothing changes what the kept words tell and hold
pub tells_after_attempt : (full : Bool) (w : State) (act : Act ℕ) → Holds w → is_down w ≡ true
    → (kept_tells (after_attempt full w act) ≡ kept_tells w) × (kept_content (after_attempt full w act) ≡ kept_content w)
tells_after_attempt full w (Start client number call) holds down =
    let same = start_refused full w client number call down in (ap kept_tells same, ap kept_content same)
tells_after_attempt full w (Step client) holds down =
    let same = step_refused full w client down in (ap kept_tells same, ap kept_content same)
tells_after_attempt full w (Evict word) holds down = tells_evicted w word holds down
tells_after_attempt full w Crash holds down = tells_crashed full w
tells_after_attempt full w Recover holds down = tells_on full w holds

pub down_evicted : (w : State) (word : ℕ) → is_down (after_evict w word) ≡ is_down w
down_evicted w word = go (place_at w.shape word)
  where
    go : (o : Option Place) → is_down (evict_with w word o) ≡ is_down w
    go None = refl
    go (Some p) = refl

down_recovered : (full : Bool) (w : State) → is_down (after_recover full w) ≡ true → is_down w ≡ true
down_recovered full w down = go w.recovery refl full down
  where
    go : (o : Option Recovery) → w.recovery ≡ o → (f : Bool) → is_down (recover_with f w o) ≡ true → is_down w ≡ true
    go None e f d = d
    go (Some r) e true d = d
    go (Some r) e false d = ap (λ (x : Option Recovery). Rattle.std.specs.Prelude.is_some x) e

-- but for a crash, nothing begins a recovery
pub down_before : (full : Bool) (w : State) (act : Act ℕ) → act ≢ Crash → is_down (after_attempt full w act) ≡ true → is_down w ≡ true
down_before full w (Start client number call) other down = sym (start_down full w client number call) ∙ down
down_before full w (Step client) other down = sym (step_down full w client) ∙ down
down_before full w (Evict word) other down = sym (down_evicted w word) ∙ down
down_before full w Crash other down = absurd (other refl)
down_before full w Recover other down = down_recovered full w down

-- where it ends recovery, it is a step of recovery that says so
told_recovered : (full : Bool) (w : State) → Holds w → IsToldWhenReady w (after_recover full w)
told_recovered full w holds = record {
  words = λ down. tells_on full w holds;
  tells = λ down up.
      let is : recover_result full w ≡ Ok true = became_ready full w down up in
      told_by_kept full w holds is ∙ sym (tells_on full w holds).0;
  announced = λ down up. told_of_announced full w holds (became_ready full w down up);
  floors = λ down up. within_floors_ready full w (holds_after_recover full w holds).numbers (became_ready full w down up);
}

pub crash_down : (full : Bool) (w : State) → is_down w ≡ true → is_down (after_crash full w) ≡ true
crash_down true w down = down
crash_down false w down = refl

stays_down : (w v : State) → (is_down w ≡ true → (kept_tells v ≡ kept_tells w) × (kept_content v ≡ kept_content w))
    → (is_down w ≡ true → is_down v ≡ true) → IsToldWhenReady w v
stays_down w v same still = record {
  words = same;
  tells = λ down up. absurd (cc (still down, up));
  announced = λ down up. absurd (cc (still down, up));
  floors = λ down up. absurd (cc (still down, up));
}

pub told_after_attempt : (full : Bool) (w : State) (act : Act ℕ) → Holds w → IsToldWhenReady w (after_attempt full w act)
told_after_attempt full w (Start client number call) holds =
    stays_down w (after_attempt full w (Start client number call)) (tells_after_attempt full w (Start client number call) holds) (λ down. start_down full w client number call ∙ down)
told_after_attempt full w (Step client) holds =
    stays_down w (after_attempt full w (Step client)) (tells_after_attempt full w (Step client) holds) (λ down. step_down full w client ∙ down)
told_after_attempt full w (Evict word) holds =
    stays_down w (after_attempt full w (Evict word)) (tells_after_attempt full w (Evict word) holds) (λ down. down_evicted w word ∙ down)
told_after_attempt full w Crash holds =
    stays_down w (after_attempt full w Crash) (tells_after_attempt full w Crash holds) (crash_down full w)
told_after_attempt full w Recover holds = told_recovered full w holds

left_recovered : (w : State) → Holds w → is_down w ≡ true → 1 + steps_to_ready (after_recover false w) ≤ steps_to_ready w
left_recovered w holds down = go w.recovery refl
  where
    go : (o : Option Recovery) → w.recovery ≡ o → 1 + steps_to_ready (after_recover false w) ≤ steps_to_ready w
    go None e = let up : is_down w ≡ false = ap (λ (x : Option Recovery). Rattle.std.specs.Prelude.is_some x) e in absurd (cc (down, up))
    go (Some r) e =
        let result : (let x : Result Bool Refusal = Ok (Rattle.interleave.specs.State.is_ready (Rattle.protocol.specs.Machine.next_recovery (Rattle.interleave.specs.State.machine w) r)) in x) ≡ recover_result false w = ap (recover_result_with false w) (sym e) in
        let less = falls_on false w holds _ result in
        omega (arith, less)

-- each step of recovery leaves fewer, and nothing but a crash leaves more
pub left_after_attempt : (full : Bool) (w : State) (act : Act ℕ) → Holds w → act ≢ Crash → is_down w ≡ true
    → (if full then 0 else recovery_step_of act) + steps_to_ready (after_attempt full w act) ≤ steps_to_ready w
left_after_attempt full w (Start client number call) holds other down =
    let same = ap steps_to_ready (start_refused full w client number call down) in both full same
  where
    both : (f : Bool) → steps_to_ready (after_attempt full w (Start client number call)) ≡ steps_to_ready w
        → (let n : ℕ = if f then 0 else 0 in n) + steps_to_ready (after_attempt full w (Start client number call)) ≤ steps_to_ready w
    both true same = omega (arith, same)
    both false same = omega (arith, same)
left_after_attempt full w (Step client) holds other down =
    let same = ap steps_to_ready (step_refused full w client down) in both full same
  where
    both : (f : Bool) → steps_to_ready (after_attempt full w (Step client)) ≡ steps_to_ready w
        → (let n : ℕ = if f then 0 else 0 in n) + steps_to_ready (after_attempt full w (Step client)) ≤ steps_to_ready w
    both true same = omega (arith, same)
    both false same = omega (arith, same)
left_after_attempt full w (Evict word) holds other down = both full (left_evicted w word)
  where
    both : (f : Bool) → steps_to_ready (after_evict w word) ≡ steps_to_ready w
        → (let n : ℕ = if f then 0 else 0 in n) + steps_to_ready (after_evict w word) ≤ steps_to_ready w
    both true same = omega (arith, same)
    both false same = omega (arith, same)
left_after_attempt full w Crash holds other down = absurd (other refl)
left_after_attempt true w Recover holds other down = go w.recovery
  where
    go : (o : Option Recovery) → 0 + steps_to_ready (recover_with true w o) ≤ steps_to_ready w
    go None = omega arith
    go (Some r) = omega arith
left_after_attempt false w Recover holds other down = left_recovered w holds down

-- the history grows
pub grown_by_attempt : (full : Bool) (w : State) (act : Act ℕ) → IsBeginningOf w.log.events (after_attempt full w act).log.events
grown_by_attempt full w (Start client number call) = grown_by_start full w client number call
grown_by_attempt full w (Step client) = grown_by_step full w client
grown_by_attempt full w (Evict word) = grown_by_evict w word
grown_by_attempt full w Crash = grown_by_crash full w
grown_by_attempt full w Recover = grown_by_recover full w

-- calls that had ended stay as they are
pub ended_by_attempt : (full : Bool) (w : State) (act : Act ℕ) → Holds w → EndedCallsStay w (after_attempt full w act)
ended_by_attempt full w (Start client number call) holds =
    ended_by_order w (after_start full w client number call) (part_after_start full w client number call)
ended_by_attempt full w (Step client) holds = ended_after_step full w client holds
ended_by_attempt full w (Evict word) holds = ended_after_evict w word holds
ended_by_attempt full w Crash holds = ended_by_order w (after_crash full w) (part_after_crash full w)
ended_by_attempt full w Recover holds = ended_by_order w (after_recover full w) (part_after_recover full w)

-- and where it ends recovery, what is told stands for good
good_after_attempt : (full : Bool) (w : State) (act : Act ℕ) → Holds w → is_down w ≡ true
    → is_down (after_attempt full w act) ≡ false → IsToldForGood (after_attempt full w act)
good_after_attempt full w (Start client number call) holds down up =
    absurd (cc (start_down full w client number call ∙ down, up))
good_after_attempt full w (Step client) holds down up = absurd (cc (step_down full w client ∙ down, up))
good_after_attempt full w (Evict word) holds down up = absurd (cc (down_evicted w word ∙ down, up))
good_after_attempt full w Crash holds down up = absurd (cc (crash_down full w down, up))
good_after_attempt full w Recover holds down up = told_stands full w holds (became_ready full w down up)

-- so it is of an attempt
pub part_attempt : {room : ℕ} {w v : State} {act : Act ℕ} {accepted : Bool} → Holds w → IsAttempt room w act accepted v
    → IsPartOf (order_in w) (order_in v)
part_attempt {w = w} {act = act} holds attempt =
    subst (λ (x : State). IsPartOf (order_in w) (order_in x)) (sym attempt.leaves) (part_after_attempt attempt.full w act holds)

pub tells_attempt : {room : ℕ} {w v : State} {act : Act ℕ} {accepted : Bool} → Holds w → IsAttempt room w act accepted v
    → is_down w ≡ true → kept_tells v ≡ kept_tells w
tells_attempt {w = w} {act = act} holds attempt down =
    ap kept_tells attempt.leaves ∙ (tells_after_attempt attempt.full w act holds down).0

pub told_attempt : {room : ℕ} {w v : State} {act : Act ℕ} {accepted : Bool} → Holds w → IsAttempt room w act accepted v
    → IsToldWhenReady w v
told_attempt {w = w} {act = act} holds attempt =
    subst (IsToldWhenReady w) (sym attempt.leaves) (told_after_attempt attempt.full w act holds)

pub down_attempt : {room : ℕ} {w v : State} {act : Act ℕ} {accepted : Bool} → IsAttempt room w act accepted v → act ≢ Crash
    → is_down v ≡ true → is_down w ≡ true
down_attempt {w = w} {act = act} attempt other down =
    down_before attempt.full w act other (sym (ap is_down attempt.leaves) ∙ down)

pub left_attempt : {room : ℕ} {w v : State} {act : Act ℕ} {accepted : Bool} → Holds w → (attempt : IsAttempt room w act accepted v)
    → act ≢ Crash → is_down w ≡ true → (if attempt.full then 0 else recovery_step_of act) + steps_to_ready v ≤ steps_to_ready w
left_attempt {w = w} {act = act} holds attempt other down =
    subst (λ (x : State). (if attempt.full then 0 else recovery_step_of act) + steps_to_ready x ≤ steps_to_ready w) (sym attempt.leaves)
    (left_after_attempt attempt.full w act holds other down)

ended_attempt : {room : ℕ} {w v : State} {act : Act ℕ} {accepted : Bool} → Holds w → IsAttempt room w act accepted v
    → EndedCallsStay w v
ended_attempt {w = w} {act = act} holds attempt =
    subst (EndedCallsStay w) (sym attempt.leaves) (ended_by_attempt attempt.full w act holds)

begins_attempt : {room : ℕ} {w v : State} {act : Act ℕ} {accepted : Bool} → IsAttempt room w act accepted v → BeginAlike w v
begins_attempt {w = w} {act = act} attempt =
    subst (BeginAlike w) (sym attempt.leaves) (begins_by_attempt attempt.full w act)

grown_attempt : {room : ℕ} {w v : State} {act : Act ℕ} {accepted : Bool} → IsAttempt room w act accepted v
    → IsBeginningOf w.log.events v.log.events
grown_attempt {w = w} {act = act} attempt =
    subst (λ (x : State). IsBeginningOf w.log.events x.log.events) (sym attempt.leaves) (grown_by_attempt attempt.full w act)

good_attempt : {room : ℕ} {w v : State} {act : Act ℕ} {accepted : Bool} → Holds w → IsAttempt room w act accepted v
    → is_down w ≡ true → is_down v ≡ false → IsToldForGood v
good_attempt {w = w} {act = act} holds attempt down up =
    subst IsToldForGood (sym attempt.leaves)
    (good_after_attempt attempt.full w act holds down (sym (ap is_down attempt.leaves) ∙ up))

-- where no act is a crash, the last is none, and none of those before
pub no_crash_last : (acts : List (Act ℕ)) (act : Act ℕ) → HasNoCrash (acts ++ act ∷ []) → act ≢ Crash
no_crash_last [] Crash h = absurd h
no_crash_last [] (Start client number call) h = λ e. cc
no_crash_last [] (Step client) h = λ e. cc
no_crash_last [] (Evict word) h = λ e. cc
no_crash_last [] Recover h = λ e. cc
no_crash_last (Crash ∷ acts) act h = absurd h
no_crash_last (Start client number call ∷ acts) act h = no_crash_last acts act h
no_crash_last (Step client ∷ acts) act h = no_crash_last acts act h
no_crash_last (Evict word ∷ acts) act h = no_crash_last acts act h
no_crash_last (Recover ∷ acts) act h = no_crash_last acts act h

pub no_crash_before : (acts : List (Act ℕ)) (act : Act ℕ) → HasNoCrash (acts ++ act ∷ []) → HasNoCrash acts
no_crash_before [] act h = tt
no_crash_before (Crash ∷ acts) act h = absurd h
no_crash_before (Start client number call ∷ acts) act h = no_crash_before acts act h
no_crash_before (Step client ∷ acts) act h = no_crash_before acts act h
no_crash_before (Evict word ∷ acts) act h = no_crash_before acts act h
no_crash_before (Recover ∷ acts) act h = no_crash_before acts act h

-- a world came of itself, and what came of what came of it came of it
pub goes_nowhere : (w : State) → GoesOn w w
goes_nowhere w = record {
  begins = begins_itself_alike w;
  grown = begins_itself w.log.events;
  part = part_same (order_in w);
  ended = λ p reply ended taken. taken;
}

pub goes_further : {old now new : State} → GoesOn old now → GoesOn now new → GoesOn old new
goes_further {old = old} {now = now} {new = new} one other = record {
  begins = begins_on_alike one.begins other.begins;
  grown = begins_on old.log.events now.log.events new.log.events one.grown other.grown;
  part = part_of_part other.part one.part;
  ended = ended_then old now new one.grown one.ended other.ended;
}

-- what was told for good stays so in a world that comes of this one
all_stand_on : (now later : State) {room : ℕ} {old : State} {acts : List (Act ℕ)} {taken : ℕ} {new : State}
    (went : Went room old acts taken new) → GoesOn now later → AreToldForGood now went → AreToldForGood later went
all_stand_on now later nothing on all = tt
all_stand_on now later (next so_far act accepted attempt) on all =
    (all_stand_on now later so_far on all.0, λ down up. let here = all.1 down up in (here.0, goes_further here.1 on))

-- a list of acts goes on with the history
pub grown_by_acts : {room : ℕ} {old : State} {acts : List (Act ℕ)} {taken : ℕ} {new : State}
    → Went room old acts taken new → IsBeginningOf old.log.events new.log.events
grown_by_acts {old = old} nothing = begins_itself old.log.events
grown_by_acts {old = old} (next {w = w} {v = v} so_far act accepted attempt) =
    begins_on old.log.events w.log.events v.log.events (grown_by_acts so_far) (grown_attempt attempt)

-- how the acts so far went
pub record SoFar (room : ℕ) (old : State) (acts : List (Act ℕ)) (taken : ℕ) (new : State) : Type 0 where
  pub went : Went room old acts taken new
  pub on : GoesOn old new
  pub told : AreToldWhenReady went
  pub stands : AreToldForGood new went
  pub tells : StaysDown went → kept_tells new ≡ kept_tells old
  pub left : HasNoCrash acts → is_down new ≡ true → recovery_steps went + steps_to_ready new ≤ steps_to_ready old

pub none_so_far : (room : ℕ) (w : State) → SoFar room w [] 0 w
none_so_far room w = record {
  went = nothing;
  on = goes_nowhere w;
  told = tt;
  stands = tt;
  tells = λ down. refl;
  left = λ free down. omega arith;
}

-- recovery that was under way all along is under way now
pub down_last : {room : ℕ} {old : State} {acts : List (Act ℕ)} {taken : ℕ} {new : State}
    (went : Went room old acts taken new) → StaysDown went → is_down new ≡ true
down_last nothing down = down
down_last (next so_far act accepted attempt) down = down.1

-- and with one more
pub one_more : {room : ℕ} {old : State} {acts : List (Act ℕ)} {taken : ℕ} {w v : State} {act : Act ℕ} {accepted : Bool}
    → SoFar room old acts taken w → Holds w → IsAttempt (room - taken) w act accepted v
    → SoFar room old (acts ++ act ∷ []) (taken + count_of accepted) v
one_more {acts = acts} {w = w} {v = v} {act = act} {accepted = accepted} so_far holds attempt =
    let on : GoesOn w v = record {
      begins = begins_attempt attempt;
      grown = grown_attempt attempt;
      part = part_attempt holds attempt;
      ended = ended_attempt holds attempt;
    } in
    record {
      went = next so_far.went act accepted attempt;
      on = goes_further so_far.on on;
      told = (so_far.told, told_attempt holds attempt);
      stands = (
        all_stand_on w v so_far.went on so_far.stands,
        λ down up. (good_attempt holds attempt down up, goes_nowhere v),
      );
      tells = λ down. tells_attempt holds attempt (down_last so_far.went down.0) ∙ so_far.tells down.0;
      left = λ free down.
          let other = no_crash_last acts act free in
          let was = down_attempt attempt other down in
          let fewer = left_attempt holds attempt other was in
          let before = so_far.left (no_crash_before acts act free) was in
          omega (arith, fewer, before);
    }

not_down : (w : State) → (is_down w ≡ true → ⊥) → is_down w ≡ false
not_down w h = go (is_down w) refl
  where
    go : (b : Bool) → is_down w ≡ b → is_down w ≡ false
    go true e = absurd (h e)
    go false e = e

-- recovery has ended after so many steps, if there was no crash
pub ended : {room : ℕ} {old : State} {acts : List (Act ℕ)} {taken : ℕ} {new : State} (so_far : SoFar room old acts taken new)
    → Holds old → HasNoCrash acts → most_to_ready old.shape ≤ recovery_steps so_far.went → is_down new ≡ false
ended {old = old} {new = new} so_far holds free many = not_down new (λ down.
    let left = so_far.left free down in
    let few = few_to_ready old holds in
    let some = some_left new down in
    omega (arith, left, some, few, many))
